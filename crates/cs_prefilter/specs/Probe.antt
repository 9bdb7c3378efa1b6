-- What a probe says of the next offsets of a text. `Finds` says which words it finds, and the bucket of each.
use Rattle.std.specs.Prelude.{◌≡◌, ◌≢◌, ℕ, ◌+◌, ◌<◌, ◌≤◌, List, slice_index}
use Rattle.std.specs.Int.{bit_at}
use Rattle.cs_prefilter.specs.declared.word.Word.{Word}
use Rattle.cs_prefilter.specs.WordAt.{WordAt}

-- among the next 32 offsets, the lane of each at which a word occurs is not 0
abbrev pub MarksLanes : (ℕ → Word → Type 0) → List ℕ → ℕ → List ℕ → Type 0
MarksLanes Finds text offset lanes = (k bucket : ℕ) (word : Word) → k < 32 → Finds bucket word
    → WordAt text (offset + k) word → slice_index lanes k ≢ 0

-- among the next 64 offsets, the bit of each at which a word occurs is set
abbrev pub MarksBits : (ℕ → Word → Type 0) → List ℕ → ℕ → ℕ → Type 0
MarksBits Finds text offset marks = (k bucket : ℕ) (word : Word) → k < 64 → Finds bucket word
    → WordAt text (offset + k) word → bit_at marks k ≡ 1

-- the bit of the bucket of each word that occurs at the offset is set
abbrev pub MarksBuckets : (ℕ → Word → Type 0) → List ℕ → ℕ → ℕ → Type 0
MarksBuckets Finds text offset buckets = (bucket : ℕ) (word : Word) → Finds bucket word → WordAt text offset word
    → bit_at buckets bucket ≡ 1

-- no word that is found occurs at an offset from `from` up to `to`
abbrev pub NoneFrom : (ℕ → Word → Type 0) → List ℕ → ℕ → ℕ → Type 0
NoneFrom Finds text from to = (k bucket : ℕ) (word : Word) → from ≤ k → k < to → Finds bucket word → WordAt text k word → ⊥
