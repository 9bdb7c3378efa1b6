-- Vectors of 32 bytes.
use Rattle.std.specs.Prelude.{◌≡◌, ℕ, ◌<◌, List, length, slice_index, cond, nat_eq}

-- the vector has 32 lanes, and lane k is f k
pub record HasLanes (v : List ℕ) (f : ℕ → ℕ) : Type 0 where
  pub long : length v ≡ 32
  pub each : (k : ℕ) → k < 32 → slice_index v k ≡ f k

-- all bits of a byte if two bytes are equal, and none if not
abbrev pub full_if_equal : ℕ → ℕ → ℕ
full_if_equal a b = cond (nat_eq a b) 255 0
