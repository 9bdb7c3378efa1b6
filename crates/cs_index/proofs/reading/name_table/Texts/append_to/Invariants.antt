use Rattle.std.proofs.Common.{◌≡◌, ◌++◌, map, string_bytes}
use Rattle.cs_index.proofs.reading.name_table.Texts.append_to.Given as goal

abbrev pub invariant-texts : goal.invariant-texts
invariant-texts l = map string_bytes l.copies.items ++ l.text-iterator ≡ map string_bytes l.initial.copies.items ++ l.fn.self
