use Rattle.std.proofs.Common.{◌≡◌, take}
use Rattle.std.specs.List.{count_by}
use Rattle.cs_index.specs.Nuls.{is_nul}
use Rattle.cs_index.proofs.reading.bytes.count_in_part.Given as goal

abbrev pub invariant-loop-b : goal.invariant-loop-b
invariant-loop-b l = l.count ≡ count_by is_nul (take l.b-index l.part)
