use Rattle.std.proofs.Common.{◌≡◌, ◌↔◌, ◌++◌, List, sym, ◌∙◌, ap, subst, arith}
use Rattle.std.proofs.Math.Dec.{leb}
use Rattle.std.proofs.lemmas.Bool.{and_parts}
use Rattle.cs_syntax.specs.Matching.{Tree, MatchesSpan, HasMatch}
use Rattle.cs_syntax.specs.Node.{tree_of}
use Rattle.cs_match.specs.Glushkov.{IsExpanded}
use Rattle.cs_match.specs.declared.position.Position.{Position}
use Rattle.cs_match.specs.Entered.{position_list}
use Rattle.cs_match.specs.Size.{FitsWeight}
use Rattle.cs_match.specs.Expansion.{expansion}
use Rattle.cs_match.proofs.PositionCountLemmas.{positions_light, repeats_light, is_small}
use Rattle.cs_match.proofs.ExpansionLemmas.{expansion_matches, matches_as_read, matches_expansion, is_expanded}
use Rattle.cs_match.proofs.program.Program.compile.Goals as goal

pub invariant_of-result : goal.invariant_of-result
invariant_of-result c = (
  (
    c.count_repeats-repeats.ensures,
    c.look_behind-look_behind.ensures,
    subst IsExpanded (sym c.in_ok-root.ensures)
        (is_expanded (tree_of c.tree.result.now)),
  ),
  c.in_ok-prefilter.ensures,
  c.in_ok-part.ensures.shape,
  c.in_ok-part.ensures.size,
  c.in_ok-add_positions.ensures ∙ ap (λ (ps : List Position). ps ++ position_list (tree_of c.in_ok-root.root)) c.new-positions.ensures.items,
  c.of_tree-byte_classes.ensures,
  c.in_ok-cuts.ensures,
  c.is_anchored-is_anchored.ensures,
  λ e. sym c.is_one_word-is_word.ensures ∙ (and_parts c.is_one_word-is_word.result (leb c.len.result 64) e).0,
)

pub returns-clause-alike : goal.returns-clause-alike
returns-clause-alike c = λ line.
    let same : tree_of c.in_ok-root.root ≡ expansion c.args.pattern.now = c.in_ok-root.ensures ∙ ap expansion c.tree.ensures.tree in
    subst (λ (t : Tree). HasMatch t line ↔ HasMatch c.args.pattern.now line) (sym same) (expansion_matches c.args.pattern.now line)

pub returns-clause-spans : goal.returns-clause-spans
returns-clause-spans c = λ line i j.
    let same : tree_of c.in_ok-root.root ≡ expansion c.args.pattern.now = c.in_ok-root.ensures ∙ ap expansion c.tree.ensures.tree in
    let t = c.args.pattern.now in
    subst (λ (u : Tree). MatchesSpan line u i j ↔ MatchesSpan line t i j) (sym same)
    (matches_as_read line t i j, matches_expansion line t i j)

pub count_repeats-repeats-requires : goal.count_repeats-repeats-requires
count_repeats-repeats-requires c = rw c.in_ok-root.ensures (omega (arith, repeats_light (tree_of c.tree.result.now)))

pub returns-clause-small : goal.returns-clause-small
returns-clause-small c =
    let same : tree_of c.in_ok-root.root ≡ expansion c.args.pattern.now = c.in_ok-root.ensures ∙ ap expansion c.tree.ensures.tree in
    subst (λ (t : Tree). FitsWeight t c.args.pattern.now) (sym same) (is_small c.args.pattern.now)

pub part_of-requires : goal.part_of-requires
part_of-requires c = rw c.in_ok-root.ensures (omega (arith, positions_light (tree_of c.tree.result.now)))
