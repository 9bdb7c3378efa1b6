use Rattle.std.proofs.Common.{refl, sym, ◌∙◌, subst, Some, option_map}
use Rattle.cs_index.specs.Order.{IsOrderOf}
use Rattle.cs_merge.proofs.SortedNamesLemmas.{sorted_ascending, sorted_order}
use Rattle.cs_merge.proofs.merging_names.SortedNames.of.Goals as goal

pub returns-then-in_order-clause-sorted : goal.returns-then-in_order-clause-sorted
returns-then-in_order-clause-sorted c =
    (refl, sorted_ascending c.args.names c.requires (sym c.in_order.ensures ∙ c.if-in_order.true))

pub returns-in-Some-clause-sorted : goal.returns-in-Some-clause-sorted
returns-in-Some-clause-sorted c =
    let order : IsOrderOf c.args.names (Some c.in-Some.ids.items) =
    subst (λ o. IsOrderOf c.args.names (option_map (λ ids. ids.items) o)) c.in-Some.is c.in_ok-order.ensures in
    (refl, sorted_order c.args.names c.requires c.in-Some.ids.items order)
