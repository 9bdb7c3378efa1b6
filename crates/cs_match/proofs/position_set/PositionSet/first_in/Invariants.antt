use Rattle.std.proofs.Common.{◌≡◌, ℕ, ◌*◌, ◌<◌, ◌&&◌, false}
use Rattle.cs_syntax.specs.Bits.{has_bit}
use Rattle.cs_match.specs.PositionSet.{is_selected}
use Rattle.cs_match.proofs.position_set.PositionSet.first_in.Given as goal

abbrev pub invariant-loop-index : goal.invariant-loop-index
invariant-loop-index l =
    (k : ℕ) → k < l.index * 64 → is_selected l.which l.from l.end k && has_bit l.self-inside.words.items k ≡ false
