-- A set of bytes as a bitmap of four 64-bit words.
use Rattle.std.specs.Prelude.{◌≡◌, ℕ, ◌*◌, ◌<◌, Bool, List, map, take, drop}
use Rattle.std.specs.List.{range_with_len}
use Rattle.std.specs.Simd.Lanes.{mask_l}
use Rattle.cs_syntax.specs.ByteSet.{set_of}
use Rattle.cs_syntax.specs.Bits.{has_bit}

-- the set of a bitmap
unfoldable pub set_of_bits : List ℕ → List Bool
set_of_bits words = set_of (has_bit words)

-- word k of the bitmap
abbrev pub word_of : List Bool → ℕ → ℕ
word_of set k = mask_l (take 64 (drop (k * 64) set))

-- the bitmap of a set
unfoldable pub set_words : List Bool → List ℕ
set_words set = map (word_of set) (range_with_len 0 4)

-- each answer of the test for a byte is the value of f at that byte
abbrev pub TestsAs : (ℕ → Bool → Type 0) → (ℕ → Bool) → Type 0
TestsAs answers f = (b : ℕ) (answer : Bool) → b < 256 → answers b answer → answer ≡ f b
