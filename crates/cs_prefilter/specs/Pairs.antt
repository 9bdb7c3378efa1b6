-- Pairs of bytes: two tests of bytes of a word, each at its offset in the word.
use Rattle.std.specs.Prelude.{◌≡◌, ◌≢◌, ◌↔◌, ℕ, ◌+◌, ◌<◌, ◌⊎◌, Bool, true, false, List, length, slice_index, slice_index_or, bit_or}
use Rattle.cs_prefilter.specs.declared.word.Word.{Word}
use Rattle.cs_prefilter.specs.declared.probe.ByteTest.{ByteTest}
use Rattle.cs_prefilter.specs.declared.probe.Pair.{Pair}
use Rattle.cs_prefilter.specs.ByteTest.{IsTestOf, used_mask}

-- the test is one of the set at this offset of the word
pub record TestsAt (word : Word) (test : ByteTest) (at : ℕ) : Type 0 where
  pub within : at < length word.sets.items
  pub set : List Bool
  pub is : set ≡ slice_index_or word.sets.items at set
  pub passes : IsTestOf set test

-- both tests are tests of the word
pub record IsPairOf (pair : Pair) (word : Word) : Type 0 where
  pub first : TestsAt word pair.first pair.first_at
  pub second : TestsAt word pair.second pair.second_at

-- neither test has a mask, unless the flag is set
abbrev pub HasMasks : Bool → Pair → Type 0
HasMasks folded pair = folded ≡ false → (pair.first.mask ≡ 0) × (pair.second.mask ≡ 0)

-- the word has the first pair and is in bucket 0, or has the second of two pairs and is in bucket 4
abbrev pub HasPair : Bool → Bool → Pair → Pair → ℕ → Word → Type 0
HasPair folded two first second bucket word =
    ((bucket ≡ 0) × HasMasks folded first × IsPairOf first word)
    ⊎ ((two ≡ true) × (bucket ≡ 4) × HasMasks folded second × IsPairOf second word)

-- the byte passes the test; without the flag its mask is not used
abbrev pub PassesTest : Bool → ByteTest → ℕ → Type 0
PassesTest folded test b = bit_or b (used_mask folded test) ≡ test.byte

-- both bytes of a word at offset k pass their tests
abbrev pub PassesPair : Bool → Pair → List ℕ → ℕ → Type 0
PassesPair folded pair text k =
    PassesTest folded pair.first (slice_index text (k + pair.first_at))
    × PassesTest folded pair.second (slice_index text (k + pair.second_at))

-- among the next 32 offsets, the lane of each at which both tests pass is not 0, and no other
abbrev pub MarksPair : Bool → Pair → List ℕ → ℕ → List ℕ → Type 0
MarksPair folded pair text offset lanes = (k : ℕ) → k < 32 → (slice_index lanes k ≢ 0) ↔ PassesPair folded pair text (offset + k)
