-- Buckets of words (Teddy): the buckets that the nibble masks give for the bytes that words begin with.
use Rattle.std.specs.Prelude.{◌≡◌, ℕ, ◌/◌, ◌%◌, ◌<◌, true, false, Bool, List, length, slice_index, slice_index_or, bit_and}
use Rattle.std.specs.Int.{bit_at}
use Rattle.cs_syntax.specs.Matching.{member}
use Rattle.cs_prefilter.specs.declared.word.Word.{Word}
use Rattle.cs_prefilter.specs.declared.probe.NibbleMasks.{NibbleMasks}
use Rattle.cs_prefilter.specs.declared.probe.WordMasks.{WordMasks}

-- the buckets that both nibbles of the byte are in, one bit each
unfoldable pub buckets : NibbleMasks → ℕ → ℕ
buckets masks b = bit_and (slice_index masks.low (b % 16)) (slice_index masks.high (b / 16))

-- the buckets, or without the flag those of the low nibble, which are some more
abbrev pub looked_up : Bool → NibbleMasks → ℕ → ℕ
looked_up true masks b = buckets masks b
looked_up false masks b = slice_index masks.low (b % 16)

-- the byte is in the bucket
abbrev pub IsInBucket : NibbleMasks → ℕ → ℕ → Type 0
IsInBucket masks b bucket = bit_at (buckets masks b) bucket ≡ 1

-- each byte keeps its buckets
abbrev pub KeepsByteBuckets : NibbleMasks → NibbleMasks → Type 0
KeepsByteBuckets old new = (b bucket : ℕ) → IsInBucket old b bucket → IsInBucket new b bucket

-- the masks of the offset keep the buckets of each byte
abbrev pub KeepsBuckets : WordMasks → WordMasks → Type 0
KeepsBuckets old new = (i : ℕ) (m : NibbleMasks) → i < 5
    → KeepsByteBuckets (slice_index_or old.at i m) (slice_index_or new.at i m)

-- any byte that the word may have at the index is in the bucket: behind the end of the word, any byte
abbrev pub SetIsInBucket : NibbleMasks → Word → ℕ → ℕ → Type 0
SetIsInBucket masks word i bucket = (b : ℕ) (d : List Bool) → b < 256
    → (i < length word.sets.items → member (slice_index_or word.sets.items i d) b ≡ true) → IsInBucket masks b bucket

-- the sets that the word begins with are in the bucket, each by the masks of its offset
abbrev pub HasBucket : WordMasks → ℕ → Word → Type 0
HasBucket word_masks bucket word = (i : ℕ) (m : NibbleMasks) → i < 5
    → SetIsInBucket (slice_index_or word_masks.at i m) word i bucket
