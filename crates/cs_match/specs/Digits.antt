-- Continuation bytes as digits of base 64 of the characters: which of them cuts tell apart.
use Rattle.std.specs.Prelude.{ℕ, ◌≡◌, ◌≢◌, ◌+◌, ◌*◌, ◌/◌, ◌%◌, ◌^◌, true, List}
use Rattle.cs_syntax.specs.CharSteps.{is_split}
use Rattle.cs_syntax.specs.declared.char_step.Unfinished.{Unfinished}

-- a block of an unfinished character that a cut splits begins at a multiple of its size
pub record IsBlock (cuts : List ℕ) (at : Unfinished) : Type 0 where
  pub multiple : is_split cuts at.needed at.low ≡ true → (n : ℕ) × (at.low ≡ n * 64 ^ at.needed)

-- the byte is not the digit of the cut that counts blocks of this size, nor the byte after it if the cut has lower digits
abbrev pub IsNoDigit : ℕ → ℕ → ℕ → Type 0
IsNoDigit cut size b = (b ≢ 128 + cut / size % 64) × (b ≡ 129 + cut / size % 64 → cut % size ≡ 0)
