-- The set of the trigrams of the bytes read so far.
use Rattle.std.specs.Prelude.{◌≡◌, ℕ, ◌+◌, ◌<◌, ◌≤◌, ◌++◌, List, length, take}
use Rattle.cs_trigram.specs.declared.seen_trigrams.TheConstants.{WITH_TWO}
use Rattle.cs_trigram.specs.declared.seen_trigrams.SeenTrigrams.{SeenTrigrams}
use Rattle.cs_trigram.specs.Trigram.{set_of_numbers, trigram_sequence}
use Rattle.cs_trigram.specs.TrigramBitmap.{IsSeenSet, Collects}
use Rattle.cs_trigram.specs.Sixgrams.{CachesOnly, HasNoLaterFile}

-- the members, in the order of first occurrence
abbrev pub numbers_of : SeenTrigrams → List ℕ
numbers_of found = take found.len found.list.items

-- the bitmap and the list are the same set, no member is listed twice, and the cache has no 6-gram of a later
-- file
abbrev pub IsSound : SeenTrigrams → Type 0
IsSound found =
    IsSeenSet found.bitmap.items (numbers_of found) (set_of_numbers (numbers_of found))
    × HasNoLaterFile found.sixgrams.file found.sixgrams.tags.items

-- The set has the trigrams of the bytes read so far, given from left to right, and the cache has 6-grams of
-- these bytes only. If there are more than `most`, only this is known.
pub record HasSeen (most : ℕ) (found : SeenTrigrams) (trigrams : List ℕ) : Type 0 where
  pub room : length found.list.items ≡ most + WITH_TWO
  pub sound : IsSound found
  pub within : found.len ≤ most →
      Collects found.bitmap.items found.list.items found.len trigrams
      × CachesOnly found.sixgrams.file found.sixgrams.tags.items trigrams
  pub beyond : most < found.len → most < length (set_of_numbers trigrams)

-- the same, given the bytes themselves
abbrev pub HasSeenBytes : ℕ → SeenTrigrams → List ℕ → Type 0
HasSeenBytes most found prefix = HasSeen most found (trigram_sequence prefix)

-- the set with some trigrams becomes the set with these too
abbrev pub SeesMore : SeenTrigrams → SeenTrigrams → List ℕ → Type 0
SeesMore old found more =
    (most : ℕ) (trigrams : List ℕ) → HasSeen most old trigrams → HasSeen most found (trigrams ++ more)
