use Rattle.std.proofs.Common.{◌≡◌}
use Rattle.cs_merge.proofs.Common.{are_whole_from}
use Rattle.cs_merge.proofs.replacing.is_newer_whole_from.Given as goal

abbrev pub invariant-positions : goal.invariant-positions
invariant-positions l = are_whole_from l.index l.position ≡ are_whole_from l.index l.fn.start
