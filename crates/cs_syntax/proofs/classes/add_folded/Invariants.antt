use Rattle.std.proofs.Common.{◌≡◌, ◌||◌, ℕ, take}
use Rattle.cs_syntax.specs.Ranges.{is_in_ranges}
use Rattle.cs_syntax.specs.ByteSet.{is_in_folded}
use Rattle.cs_syntax.proofs.classes.add_folded.Given as goal

abbrev pub invariant-loop-range : goal.invariant-loop-range
invariant-loop-range l =
    (c : ℕ) → is_in_ranges l.ranges.items c ≡ (is_in_ranges l.initial.ranges.items c || is_in_folded l.fold (take l.range-index l.more) c)
