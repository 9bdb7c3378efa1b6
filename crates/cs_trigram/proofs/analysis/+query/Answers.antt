use Rattle.std.proofs.Common.{◌≡◌, ◌∙◌, ℕ, Bool, true, List, [], inl, inr, ap, drop, refl, sym, subst, arith}
use Rattle.cs_syntax.specs.Matching.{Tree, empty, one_char, line_start, line_end, word_edge, not_word_edge}
use Rattle.cs_syntax.specs.Node.{tree_of}
use Rattle.cs_syntax.specs.NodeList.{trees_of}
use Rattle.cs_trigram.specs.RegexpInfo.{IsInfoOf, IsSequence, IsAlternation}
use Rattle.cs_syntax.proofs.NodeLemmas.{tree_of-Empty, tree_of-Chars, tree_of-LineStart, tree_of-LineEnd, tree_of-WordEdge, tree_of-NotWordEdge}
use Rattle.cs_trigram.specs.MayMatch.{MayMatch}
use Rattle.cs_trigram.specs.ExactStrings.{is_finite}
use Rattle.cs_trigram.specs.ExactRuns.{HasRunsWithin}
use Rattle.cs_trigram.specs.Analysis.{EnumeratesTree}
use Rattle.cs_trigram.proofs.LeadingRunLemmas.{only_empty_string}
use Rattle.cs_trigram.proofs.NodeListLemmas.{if_ok, trees_before}
use Rattle.cs_trigram.proofs.analysis.+query.Goals as goal

pub analyze_alternation-parts-preserved : goal.analyze_alternation-parts-preserved
analyze_alternation-parts-preserved t c =
    let parts = c.args.parts.now in
    let part = tree_of c.index-parts-index.result in
    let rest = trees_of (drop c.parts.index parts) in
    let next = trees_before parts c.parts.index c.index-parts-index.result (omega arith) c.parts.invariant.0 c.index-parts-index.is in (
      omega arith,
      subst (IsAlternation c.add.new.self) (sym next)
          (c.in_ok-add.ensures part rest c.in_ok-analyze.ensures c.parts.invariant.1),
    )

pub analyze_sequence-parts-preserved : goal.analyze_sequence-parts-preserved
analyze_sequence-parts-preserved t c =
    let parts = c.args.parts.now in
    let part = tree_of c.index-parts-index.result in
    let rest = trees_of (drop c.parts.index parts) in
    let next = trees_before parts c.parts.index c.index-parts-index.result (omega arith) c.parts.invariant.0 c.index-parts-index.is in
    (omega arith, subst (IsSequence c.add.new.self) (sym next) (c.in_ok-add.ensures part rest c.in_ok-analyze.ensures c.parts.invariant.1))

pub analyze-returns-in_ok-strings_of_chars-in-Chars : goal.analyze-returns-in_ok-strings_of_chars-in-Chars
analyze-returns-in_ok-strings_of_chars-in-Chars t c =
    let leaf = one_char c.in-Chars.set in
    let is : tree_of c.args.node.now ≡ leaf = ap tree_of c.in-Chars.is ∙ tree_of-Chars c.in-Chars.set in
    if_ok c.of_leaf-in-Chars.result _ _ c.of_leaf-in-Chars.ensures
    (λ info right. subst (IsInfoOf info) (sym is)
    (right leaf (c.of-in-Chars.ensures leaf (refl, c.in_ok-strings_of_chars-in-Chars.ensures)) (λ set. tt)))

pub analyze-returns-in_ok-empty_string-in-Empty : goal.analyze-returns-in_ok-empty_string-in-Empty
analyze-returns-in_ok-empty_string-in-Empty t c =
    let node = c.args.node.now in
    if_ok c.of_leaf-in-Empty.result _ _ c.of_leaf-in-Empty.ensures
    (λ info right.
    let leaf : (x : Tree) → is_finite x ≡ true → ((w : List ℕ) → MayMatch true x w → w ≡ []) → MayMatch true x [] →
    ((set : ℕ → Bool) → HasRunsWithin set x) → tree_of node ≡ x → IsInfoOf info (tree_of node) =
    λ x finite only has within is. subst (IsInfoOf info) (sym is)
    (right x (c.of-in-Empty.ensures x (subst (λ (ws : List (List ℕ)). EnumeratesTree ws x)
    (sym c.in_ok-empty_string-in-Empty.ensures) (only_empty_string x finite only has))) within) in
    elim c.in-Empty.is [
      | inl e ↦ leaf empty refl (λ w h. h) refl (λ set. tt) (ap tree_of e ∙ tree_of-Empty)
      | inr a ↦ elim a [
        | inl e ↦ leaf line_start refl (λ w h. h) refl (λ set. tt) (ap tree_of e ∙ tree_of-LineStart)
        | inr b ↦ elim b [
          | inl e ↦ leaf line_end refl (λ w h. h) refl (λ set. tt) (ap tree_of e ∙ tree_of-LineEnd)
          | inr d ↦ elim d [
            | inl e ↦ leaf word_edge refl (λ w h. h) refl (λ set. tt) (ap tree_of e ∙ tree_of-WordEdge)
            | inr e ↦ leaf not_word_edge refl (λ w h. h) refl (λ set. tt) (ap tree_of e ∙ tree_of-NotWordEdge)
          ]
        ]
      ]
    ])
