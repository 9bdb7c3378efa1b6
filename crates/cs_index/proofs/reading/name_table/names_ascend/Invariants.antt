use Rattle.std.proofs.Common.{◌≡◌, ◌-◌, drop, map}
use Rattle.cs_tree.specs.NamesAscending.{are_ascending}
use Rattle.cs_index.proofs.names.SortedNames.{name_borrowed}
use Rattle.cs_index.proofs.reading.name_table.names_ascend.Given as goal

abbrev pub invariant-loop-at : goal.invariant-loop-at
invariant-loop-at l = are_ascending (map name_borrowed l.named) ≡ are_ascending (map name_borrowed (drop (l.at - 1) l.named))
