-- Strings by their NULs.
use Rattle.std.specs.Prelude.{◌≡◌, ◌≢◌, ◌⊎◌, ℕ, ◌+◌, ◌-◌, ◌<◌, ◌≤◌, Bool, nat_eq, List, length, slice_index}

abbrev pub is_nul : ℕ → Bool
is_nul b = nat_eq b 0

-- a NUL at the offset, and another one after it
pub record IsPairAt (bytes : List ℕ) (k : ℕ) : Type 0 where
  pub within : k + 1 < length bytes
  pub first : slice_index bytes k ≡ 0
  pub second : slice_index bytes (k + 1) ≡ 0

-- a NUL that ends no string: it begins the bytes, or follows another one
abbrev pub EndsNoText : List ℕ → ℕ → Type 0
EndsNoText bytes k = (slice_index bytes k ≡ 0) × (0 < k → slice_index bytes (k - 1) ≡ 0)

-- the bytes up to the offset are strings, each with its NUL, and no string follows
pub record AreTextsTo (bytes : List ℕ) (len : ℕ) : Type 0 where
  pub within : len ≤ length bytes
  pub ended : 0 < len → slice_index bytes (len - 1) ≡ 0
  pub each : (k : ℕ) → k < len → EndsNoText bytes k → ⊥
  pub rest : (len < length bytes) × (slice_index bytes len ≡ 0)
      ⊎ ((k : ℕ) → len ≤ k → k < length bytes → slice_index bytes k ≢ 0)
