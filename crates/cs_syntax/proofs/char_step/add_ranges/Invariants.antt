use Rattle.std.proofs.Common.{◌≡◌, ◌++◌, take}
use Rattle.cs_syntax.specs.Cuts.{range_cuts}
use Rattle.cs_syntax.proofs.char_step.add_ranges.Given as goal

abbrev pub invariant-loop-range : goal.invariant-loop-range
invariant-loop-range l = l.cuts.items ≡ l.fn.cuts.items ++ range_cuts (take l.range-index l.ranges)
