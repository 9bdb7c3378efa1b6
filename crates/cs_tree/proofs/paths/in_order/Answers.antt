use Rattle.std.proofs.Common.{ap, ◌∙◌}
use Rattle.std.proofs.lemmas.List.Filters.{dedup_is}
use Rattle.cs_tree.specs.PathSet as set
use Rattle.cs_tree.proofs.ReduceLemmas.{ordered_items}
use Rattle.cs_tree.proofs.paths.in_order.Goals as goal

pub returns : goal.returns
returns c =
    ordered_items c.in_ok-ordered.ordered.items c.sort_unstable.new.self.items c.dedup.new.self.items
    c.sort_unstable.ensures.permutation c.sort_unstable.ensures.sorted (dedup_is _ _ _ c.dedup.ensures.filtered)
    ∙ ap (λ paths. set.items (set.from_list paths)) c.in_ok-ordered.ensures
