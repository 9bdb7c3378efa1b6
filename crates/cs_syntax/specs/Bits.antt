-- The bits of a list of 64-bit words.
use Rattle.std.specs.Prelude.{ℕ, ◌/◌, ◌%◌, Bool, List, ◌==◌, slice_index}
use Rattle.std.specs.Int.{bit_at}

-- the bit with this index is set; bit 0 is the lowest bit of the first word
abbrev pub has_bit : List ℕ → ℕ → Bool
has_bit words index = bit_at (slice_index words (index / 64)) (index % 64) == 1
