use Rattle.std.proofs.Common.{take}
use Rattle.cs_syntax.proofs.CharSetLemmas.{AreCut}
use Rattle.cs_syntax.proofs.char_set.scalar_ranges.Given as goal

abbrev pub invariant-loop-pair : goal.invariant-loop-pair
invariant-loop-pair l = AreCut l.ranges.items (take l.pair-index l.given)
