-- Deltas of one or two bytes each.
use Rattle.std.specs.Prelude.{ℕ, ◌+◌, ◌-◌, ◌*◌, Bool, true, not, ◌&&◌, nat_lt, nat_le, List, [], ◌∷◌, if◌then◌else◌}

-- the byte is not the last one of its delta
abbrev pub is_first : ℕ → Bool
is_first b = nat_le 128 b

-- Each delta is canonical and has one or two bytes. The last one may be begun only. `before` is the byte before.
abbrev pub are_short : ℕ → List ℕ → Bool
are_short before [] = true
are_short before (b ∷ bs) = nat_lt 0 b && not (is_first before && is_first b) && are_short b bs

-- the deltas that such bytes encode
abbrev pub short_deltas : ℕ → List ℕ → List ℕ
short_deltas before [] = []
short_deltas before (b ∷ bs) =
    if is_first b then short_deltas b bs
    else (before - 128 + (if is_first before then 128 * b else b)) ∷ short_deltas b bs

-- the second bytes of such deltas, and 0 in place of the other bytes
abbrev pub second_bytes : ℕ → List ℕ → List ℕ
second_bytes before [] = []
second_bytes before (b ∷ bs) = (if is_first before then b else 0) ∷ second_bytes b bs
