use Rattle.std.proofs.Common.{◌≡◌, map, take}
use Rattle.cs_index.specs.Order.{id_in}
use Rattle.cs_index.specs.BorrowedNames.{borrowed_names}
use Rattle.cs_index.proofs.reading.name_table.ids_in_order.Given as goal

-- the ids so far are those of the names so far
abbrev pub invariant-loop-id : goal.invariant-loop-id
invariant-loop-id l = l.ids.items ≡ map id_in (borrowed_names (take l.id-index l.named))
