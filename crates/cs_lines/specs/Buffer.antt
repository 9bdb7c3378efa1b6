-- The bytes of a line buffer that were read and are not yet searched.
use Rattle.std.specs.Prelude.{ℕ, ◌≡◌, ◌*◌, ◌⊎◌, List, length, slice_range, vec_len}
use Rattle.cs_lines.specs.declared.buffer.LineBuffer.{LineBuffer}

unfoldable pub pending_bytes : LineBuffer → List ℕ
pending_bytes buffer = slice_range buffer.bytes.items buffer.start buffer.end

-- the capacity
abbrev pub size_of : LineBuffer → ℕ
size_of buffer = vec_len buffer.bytes

-- The size stays, or the pending bytes fill the buffer and it doubles.
abbrev pub GrowsIfFull : LineBuffer → LineBuffer → Type 0
GrowsIfFull old new =
    (size_of new ≡ size_of old) ⊎ ((length (pending_bytes old) ≡ size_of old) × (size_of new ≡ 2 * size_of old))
