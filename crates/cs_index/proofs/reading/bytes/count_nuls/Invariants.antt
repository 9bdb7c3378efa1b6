use Rattle.std.proofs.Common.{◌≡◌, ◌+◌, length}
use Rattle.std.specs.List.{count_by}
use Rattle.cs_index.specs.Nuls.{is_nul}
use Rattle.cs_index.proofs.reading.bytes.count_nuls.Given as goal

abbrev pub invariant-parts : goal.invariant-parts
invariant-parts l = l.count + count_by is_nul l.rest ≡ count_by is_nul l.bytes

abbrev pub decreases-parts : goal.decreases-parts
decreases-parts l = length l.rest
