use Rattle.std.proofs.Common.{drop}
use Rattle.cs_syntax.proofs.CharSetLemmas.{Joins, joined_to}
use Rattle.cs_syntax.proofs.char_set.merge_ranges.Given as goal

abbrev pub invariant-loop-range : goal.invariant-loop-range
invariant-loop-range l =
    Joins l.maximal.items l.last (drop l.range-index l.ranges) (joined_to l.initial.last l.ranges)
