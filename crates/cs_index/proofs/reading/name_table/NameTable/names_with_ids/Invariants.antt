use Rattle.std.proofs.Common.{◌≡◌, ◌++◌}
use Rattle.cs_index.specs.Order.{with_ids}
use Rattle.cs_index.specs.BorrowedNames.{borrowed_names}
use Rattle.cs_tree.specs.PathParts.{texts}
use Rattle.cs_index.proofs.reading.name_table.NameTable.names_with_ids.Given as goal

abbrev pub invariant-names : goal.invariant-names
invariant-names l = record {
  taken : l.self ≡ texts l.yielded ++ l.name-iterator;
  named : borrowed_names l.named.items ≡ with_ids (texts l.yielded);
}
