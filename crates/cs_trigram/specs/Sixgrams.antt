-- 6-grams, six bytes of a file as one number. Repeated text has no new trigrams.
use Rattle.std.specs.Prelude.{◌≡◌, ℕ, ◌+◌, ◌/◌, ◌%◌, ◌^◌, ◌<◌, ◌≤◌, true, List, [], ◌∷◌, ◌++◌, length, take, slice_index}
use Rattle.cs_trigram.specs.Trigram.{trigram_sequence, has}
use Rattle.cs_trigram.specs.TrigramSets.{trigram_count}

-- the four trigrams of a 6-gram, whose bytes are the low 48 bits of the number
abbrev pub sixgram_trigrams : ℕ → List ℕ
sixgram_trigrams sixgram =
    sixgram / 2 ^ 24 % trigram_count ∷ sixgram / 2 ^ 16 % trigram_count
    ∷ sixgram / 2 ^ 8 % trigram_count ∷ sixgram % trigram_count ∷ []

-- the trigrams of some 6-grams
abbrev pub trigrams_of_sixgrams : List ℕ → List ℕ
trigrams_of_sixgrams [] = []
trigrams_of_sixgrams (sixgram ∷ sixgrams) = sixgram_trigrams sixgram ++ trigrams_of_sixgrams sixgrams

-- the number of the file of a cached 6-gram, in the upper 16 bits
abbrev pub file_of : ℕ → ℕ
file_of sixgram = sixgram / 2 ^ 48

-- each number of the first list is in the second
abbrev pub AreMembers : List ℕ → List ℕ → Type 0
AreMembers numbers others = (n : ℕ) → has numbers n ≡ true → has others n ≡ true

-- each cached 6-gram of this file has its trigrams among these
abbrev pub CachesOnly : ℕ → List ℕ → List ℕ → Type 0
CachesOnly file tags trigrams =
    (i : ℕ) → i < length tags → file_of (slice_index tags i) ≡ file →
    AreMembers (sixgram_trigrams (slice_index tags i)) trigrams

-- no cached 6-gram is of a later file
abbrev pub HasNoLaterFile : ℕ → List ℕ → Type 0
HasNoLaterFile file tags = (i : ℕ) → i < length tags → file_of (slice_index tags i) ≤ file

-- Bytes of a file up to an offset, whose 6-grams were cached or are these misses. `earlier` has the trigrams
-- before them.
pub record AreMisses (file : ℕ) (earlier tags bytes : List ℕ) (offset : ℕ) (sixgrams : List ℕ) : Type 0 where
  pub caches_only : CachesOnly file tags (earlier ++ trigrams_of_sixgrams sixgrams)
  pub covers :
      AreMembers (trigram_sequence (take (offset + 2) bytes)) (earlier ++ trigrams_of_sixgrams sixgrams)
  pub inside : AreMembers (trigrams_of_sixgrams sixgrams) (trigram_sequence bytes)

-- no cached 6-gram is of this file or a later one
abbrev pub IsEmptyCache : ℕ → List ℕ → Type 0
IsEmptyCache file tags = CachesOnly file tags [] × HasNoLaterFile file tags
