use Rattle.std.proofs.Common.{◌≡◌, ◌≤◌, ◌⊎◌, inl, inr, not, true, List, ℕ, [], length, sym, ap, ◌∙◌, subst, arith}
use Rattle.std.proofs.lemmas.Bool.{and_from}
use Rattle.cs_tree.specs.Folders.{are_distinct}
use Rattle.cs_syntax.specs.Matching.{cat, more}
use Rattle.cs_trigram.specs.Analysis.{EnumeratesTree, with_strings, concatenations}
use Rattle.cs_trigram.specs.ExactStrings.{is_finite, are_finite}
use Rattle.cs_trigram.specs.ExactSet.{IsExactSetOf, HasNoString, TellsEmpty}
use Rattle.cs_trigram.specs.declared.exact_set.ExactSet.{ExactSet}
use Rattle.cs_trigram.proofs.ExactSetLemmas.{exact_set_has, many_prefixes, many_suffixes, no_concatenation}
use Rattle.cs_trigram.proofs.LeadingRunLemmas.{run_step}
use Rattle.cs_trigram.proofs.exact_set.ExactSet.concatenate.Goals as goal
use Rattle.cs_trigram.proofs.exact_set.ExactSet.concatenate.Goals.{then-is_empty-via-then-is_empty, then-is_empty-via-else-is_empty+then-is_empty-2}

pub returns-then-is_empty : goal.returns-then-is_empty
returns-then-is_empty c = λ t ts prefixes suffixes.
    let f : is_finite t ≡ true = c.is_infinite.ensures t prefixes ∙ ap not c.if-is_infinite.false in
    let g : are_finite ts ≡ true = c.is_infinite-else-is_infinite.ensures (cat ts) suffixes ∙ ap not c.if-is_infinite-2.false in
    let bare : HasNoString t ⊎ HasNoString (cat ts) =
    elim c.then-is_empty.branch [
      | then-is_empty-via-then-is_empty w ↦ inl (subst (λ b. TellsEmpty b t) w.if-is_empty.true (c.is_empty.ensures t prefixes f))
      | then-is_empty-via-else-is_empty+then-is_empty-2 w ↦ inr
          (subst (λ b. TellsEmpty b (cat ts)) w.if-is_empty-2.true (w.is_empty-else-is_empty.ensures (cat ts) suffixes g))
    ] in (
      subst (λ (ws : List (List ℕ)). length ws ≤ 20) (sym c.new.ensures.items) (omega arith),
      no_concatenation c.new.result.items t ts c.new.ensures.items f g bare,
    )

pub returns-in_default : goal.returns-in_default
returns-in_default c = λ t ts prefixes suffixes.
    let f : is_finite t ≡ true = c.is_infinite.ensures t prefixes ∙ ap not c.if-is_infinite.false in
    let g : are_finite ts ≡ true = c.is_infinite-else-is_infinite.ensures (cat ts) suffixes ∙ ap not c.if-is_infinite-2.false in
    let one = subst (λ b. TellsEmpty b (cat ts)) c.if-is_empty-2.false (c.is_empty-else-is_empty.ensures (cat ts) suffixes g) in (
      and_from (is_finite t) (are_finite ts) f g,
      many_prefixes t ts (exact_set_has c.args.self.now t prefixes f c.in_default.not-Strings) one,
    )

pub returns-in_default-suffixes : goal.returns-in_default-suffixes
returns-in_default-suffixes c = λ t ts prefixes suffixes.
    let f : is_finite t ≡ true = c.is_infinite.ensures t prefixes ∙ ap not c.if-is_infinite.false in
    let g : are_finite ts ≡ true = c.is_infinite-else-is_infinite.ensures (cat ts) suffixes ∙ ap not c.if-is_infinite-2.false in
    let one = subst (λ b. TellsEmpty b t) c.if-is_empty.false (c.is_empty.ensures t prefixes f) in (
      and_from (is_finite t) (are_finite ts) f g,
      many_suffixes t ts one
          (exact_set_has c.args.suffixes.now (cat ts) suffixes g c.in_default-suffixes.not-Strings),
    )

pub returns : goal.returns
returns c = λ t ts prefixes suffixes.
    let us = c.in-Strings.prefixes.items in
    let vs = c.in-Strings-suffixes.suffixes.items in
    let strings = subst (λ (x : ExactSet). IsExactSetOf x (cat ts)) c.in-Strings-suffixes.is suffixes in
    let same : c.in_ok-cross_product.field-0.items ≡ with_strings [] (concatenations us vs) =
    c.in_ok-cross_product.ensures (subst (λ (ws : List (List ℕ)). are_distinct ws ≡ true) (sym c.deref-2.ensures.value)
    strings.1.1.different)
    (subst (λ (ws : List (List ℕ)). length ws ≤ 20) (sym c.deref-2.ensures.value) strings.0)
    ∙ ap (λ (ws : List (List ℕ)). with_strings [] (concatenations ws c.deref-2.result.now)) c.deref.ensures.value
    ∙ ap (λ (ws : List (List ℕ)). with_strings [] (concatenations us ws)) c.deref-2.ensures.value in
    c.of.ensures (cat (more t ts))
    (subst (λ (ws : List (List ℕ)). EnumeratesTree ws (cat (more t ts))) (sym same)
    (run_step t ts us vs (subst (λ (x : ExactSet). IsExactSetOf x t) c.in-Strings.is prefixes).1 strings.1))
