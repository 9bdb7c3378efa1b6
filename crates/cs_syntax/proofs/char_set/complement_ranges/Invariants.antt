use Rattle.std.proofs.Common.{drop}
use Rattle.cs_syntax.proofs.CharSetLemmas.{LeavesGaps, gaps_from}
use Rattle.cs_syntax.proofs.char_set.complement_ranges.Given as goal

abbrev pub invariant-loop-range : goal.invariant-loop-range
invariant-loop-range l =
    LeavesGaps l.gaps.items l.next (drop l.range-index l.ranges) (gaps_from 0 l.ranges)
