-- Prefixes: what the first eight bytes are where a word occurs.
use Rattle.std.specs.Prelude.{◌≡◌, ℕ, ◌+◌, ◌<◌, ◌≤◌, Bool, true, List, [], ◌∷◌, length, slice_index, slice_index_or, bit_or}
use Rattle.std.specs.Int.{from_le_bytes}
use Rattle.std.proofs.Common.{w64}
use Rattle.cs_syntax.specs.Matching.{member}
use Rattle.cs_prefilter.specs.declared.word.Word.{Word}
use Rattle.cs_prefilter.specs.declared.comparing.Prefix.{Prefix}
use Rattle.cs_prefilter.specs.declared.probe.ByteTest.{ByteTest}
use Rattle.cs_prefilter.specs.WordAt.{WordAt}

-- the eight bytes from offset k on, the first as the lowest
abbrev pub eight : List ℕ → ℕ → ℕ
eight text k = from_le_bytes w64 (
    slice_index text k ∷ slice_index text (k + 1) ∷ slice_index text (k + 2) ∷ slice_index text (k + 3)
    ∷ slice_index text (k + 4) ∷ slice_index text (k + 5) ∷ slice_index text (k + 6) ∷ slice_index text (k + 7) ∷ [])

-- any byte may be before the word
abbrev pub MayFollowAny : Word → Type 0
MayFollowAny word = (b : ℕ) → b < 256 → member word.before b ≡ true

-- the byte is in the set at this index of the word, if there is one
abbrev pub MayHave : Word → ℕ → ℕ → Type 0
MayHave word index b = (d : List Bool) → index < length word.sets.items → member (slice_index_or word.sets.items index d) b ≡ true

-- the bytes that the word may have at the index pass the test; if it is exact, no others do
pub record TestsByte (word : Word) (index : ℕ) (byte : ByteTest × Bool) : Type 0 where
  pub small : (byte.0.mask < 256) × (byte.0.byte < 256)
  pub passes : (b : ℕ) → b < 256 → MayHave word index b → bit_or b byte.0.mask ≡ byte.0.byte
  pub exact : byte.1 ≡ true → (b : ℕ) → b < 256 → bit_or b byte.0.mask ≡ byte.0.byte → MayHave word index b

-- the eight bytes at an offset pass
abbrev pub Passes : Prefix → List ℕ → ℕ → Type 0
Passes prefix text k = bit_or (eight text k) prefix.mask ≡ prefix.bytes

-- where the word occurs, the eight bytes pass; if the prefix is whole, only there
pub record IsPrefixOf (word : Word) (prefix : Prefix) : Type 0 where
  pub passes : (text : List ℕ) (k : ℕ) → ((i : ℕ) → slice_index text i < 256) → WordAt text k word → Passes prefix text k
  pub whole : prefix.is_whole ≡ true → (text : List ℕ) (k : ℕ) → ((i : ℕ) → slice_index text i < 256)
      → k + 8 ≤ length text → Passes prefix text k → WordAt text k word

-- each word has a prefix
pub record HavePrefixes (words : List Word) (prefixes : List Prefix) : Type 0 where
  pub same : length prefixes ≡ length words
  pub each : (i : ℕ) (d : Word) (e : Prefix) → i < length words
      → IsPrefixOf (slice_index_or words i d) (slice_index_or prefixes i e)
