use Rattle.std.proofs.Common.{ℕ, List, ◌++◌, ◌∙◌, ap}
use Rattle.std.specs.Prelude.{nat_eq}
use Rattle.std.proofs.lemmas.List.Filters.{dedup_is}
use Rattle.cs_syntax.specs.Node.{tree_of}
use Rattle.cs_syntax.specs.Cuts.{char_ranges, range_cuts}
use Rattle.cs_syntax.proofs.CutLemmas.{sorted_cuts, divided}
use Rattle.cs_syntax.proofs.char_step.Cuts.of_tree.Goals as goal

pub invariant_of-result : goal.invariant_of-result
invariant_of-result c =
    let tree = tree_of c.args.tree.now in
    let all = c.in_ok-add_tree.ensures ∙ ap (λ (xs : List ℕ). xs ++ range_cuts (char_ranges tree)) c.in_ok-cuts.ensures.items in
    (divided tree _ (sorted_cuts tree _ _ _ all c.sort_unstable.ensures.permutation c.sort_unstable.ensures.sorted
    (dedup_is nat_eq _ _ c.dedup.ensures.filtered))).0

pub returns : goal.returns
returns c =
    let tree = tree_of c.args.tree.now in
    let all = c.in_ok-add_tree.ensures ∙ ap (λ (xs : List ℕ). xs ++ range_cuts (char_ranges tree)) c.in_ok-cuts.ensures.items in
    sorted_cuts tree _ _ _ all c.sort_unstable.ensures.permutation c.sort_unstable.ensures.sorted
    (dedup_is nat_eq _ _ c.dedup.ensures.filtered)
