-- The buckets of a list of words: one of 8 for each, such that neighbours share a bucket.
use Rattle.std.specs.Prelude.{◌≡◌, ◌↔◌, ℕ, ◌+◌, ◌*◌, ◌<◌, ◌≤◌, List, length, slice_index_or}
use Rattle.std.specs.Int.{bit_at}
use Rattle.cs_prefilter.specs.declared.word.Word.{Word}
use Rattle.cs_prefilter.specs.WordAt.{WordAt}
use Rattle.cs_prefilter.specs.OffsetWork.{word_work}

-- a list of so many words is cut into eight parts of one length: the word of the index is in the part of the bucket
pub record IsInPart (len bucket index : ℕ) : Type 0 where
  pub low : bucket * len ≤ index * 8
  pub high : index * 8 < (bucket + 1) * len

-- the indexes below `first` are those of the buckets before this one
abbrev pub StartsPart : ℕ → ℕ → ℕ → Type 0
StartsPart len bucket first = (index : ℕ) → (index < first) ↔ (index * 8 < bucket * len)

-- the most steps where the words of a bucket are compared: an eighth of the most words
abbrev pub bucket_work : ℕ
bucket_work = 8 * word_work

-- each word of the list is found in its bucket
abbrev pub AreFound : (ℕ → Word → Type 0) → List Word → Type 0
AreFound Finds words = (i bucket : ℕ) (d : Word) → i < length words → IsInPart (length words) bucket i
    → Finds bucket (slice_index_or words i d)

-- the bits of the buckets of all words that occur at the offset are set
abbrev pub AreInBuckets : List Word → ℕ → List ℕ → ℕ → Type 0
AreInBuckets words buckets text offset = (i bucket : ℕ) (d : Word) → i < length words → IsInPart (length words) bucket i
    → WordAt text offset (slice_index_or words i d) → bit_at buckets bucket ≡ 1

-- no word of the bucket occurs at the offset
abbrev pub NoneOfBucket : List Word → ℕ → List ℕ → ℕ → Type 0
NoneOfBucket words bucket text offset = (i : ℕ) (d : Word) → i < length words → IsInPart (length words) bucket i
    → WordAt text offset (slice_index_or words i d) → ⊥
