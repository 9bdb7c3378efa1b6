use Rattle.std.proofs.Common.{◌≡◌, ◌≤◌, ◌+◌, ◌-◌, List, drop, length}
use Rattle.std.specs.Prelude.{nat_eq, true}
use Rattle.cs_syntax.specs.Classes.{items_from}
use Rattle.cs_syntax.specs.ClassState.{HaveItems}
use Rattle.cs_syntax.proofs.ClassLemmas.{with_items}
use Rattle.cs_syntax.specs.declared.items.ClassItem.{ClassItem}
use Rattle.cs_syntax.proofs.classes.items.Given as goal

abbrev pub invariant-items : goal.invariant-items
invariant-items l =
    record {
      so_far : (is : List ClassItem) × HaveItems l.fold is l.ranges.items ×
          (with_items is (items_from 0 (l.distance + l.offset) (nat_eq l.offset 0) (drop l.offset l.text))
          ≡ items_from 0 l.distance true l.text);
      within : l.offset ≤ length l.text;
    }

abbrev pub decreases-items : goal.decreases-items
decreases-items l = length l.text - l.offset
