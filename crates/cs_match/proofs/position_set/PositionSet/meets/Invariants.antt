use Rattle.std.proofs.Common.{◌≡◌, ℕ, ◌+◌, ◌*◌, ◌/◌, ◌%◌, ◌<◌, ◌&&◌, eqb, false, get_or}
use Rattle.std.specs.Int.{bit_at}
use Rattle.cs_match.specs.PositionSet.{has_bit_from}
use Rattle.cs_match.proofs.position_set.PositionSet.meets.Given as goal

abbrev pub invariant-loop-index : goal.invariant-loop-index
invariant-loop-index l =
    (j i : ℕ) → j < l.index → i < 64 → eqb (bit_at (get_or l.self-inside.words.items (l.from / 64 + j) 0) i) 1
    && has_bit_from l.other-inside.words.items (l.from % 64) (j * 64 + i) ≡ false
