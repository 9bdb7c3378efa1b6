use Rattle.std.proofs.Common.{◌≡◌, List, ℕ, Option, Some, None, Vec, Global, refl, sym, ◌∙◌, is_some, option_map}
use Rattle.cs_cindex.proofs.Common.{are_distinct}
use Rattle.cs_tree.proofs.ListingLemmas.{ascending_distinct}
use Rattle.cs_index.specs.Order.{IsOrderOf}
use Rattle.cs_merge.specs.SortedNames.{AreIndexNames}
use Rattle.cs_merge.proofs.SortedNamesLemmas.{sorted_distinct, sorted_order}
use Rattle.cs_cindex.proofs.old.are_distinct.Goals as goal

pub returns-then-in_order : goal.returns-then-in_order
returns-then-in_order c = sym (ascending_distinct c.args.names (sym c.in_order.ensures ∙ c.if-in_order.true))

by_order : (names : List (List ℕ)) (ids : Option (List ℕ)) → AreIndexNames names → IsOrderOf names ids → is_some ids ≡ are_distinct names
by_order names (Some ids) are order = sym (sorted_distinct (record { names = names; order = Some ids }) (sorted_order names are ids order))
by_order names None are order = sym order

some_items : (order : Option (Vec ℕ Global)) → is_some order ≡ is_some (option_map (λ ids. ids.items) order)
some_items (Some ids) = refl
some_items None = refl

pub returns : goal.returns
returns c =
    c.is_some.ensures
    ∙ some_items c.in_ok-order.order
    ∙ by_order c.args.names (option_map (λ ids. ids.items) c.in_ok-order.order) c.requires c.in_ok-order.ensures
