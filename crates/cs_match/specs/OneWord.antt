-- Trees that are one word: a byte set for each of some neighbouring bytes. Their spans are the places where it occurs.
use Rattle.std.specs.Prelude.{ℕ, suc, ⊤, ◌≡◌, ◌+◌, ◌<◌, ◌↔◌, Bool, true, false, ◌&&◌, List, [], ◌∷◌, length, slice_index}
use Rattle.cs_syntax.specs.Matching.{Tree, Trees, empty, one_of, one_char, cat, alt, rep, line_start, line_end, word_edge, not_word_edge, none, more, member, MatchesSpan}
use Rattle.cs_match.specs.declared.position.Position.{Position}
use Rattle.cs_match.specs.declared.position.Position.TheVariants.{Bytes, Begun, Taken}
use Rattle.cs_match.specs.Glushkov.{position_count}
use Rattle.cs_match.specs.Entered.{position_list}

-- the tree is a sequence of byte sets
abbrev mutual
  pub is_one_word : Tree → Bool
  is_one_word empty = true
  is_one_word (one_of set) = true
  is_one_word (one_char ranges) = false
  is_one_word (cat ts) = are_one_word ts
  is_one_word (alt ts) = false
  is_one_word (rep x n m) = false
  is_one_word line_start = false
  is_one_word line_end = false
  is_one_word word_edge = false
  is_one_word not_word_edge = false

  pub are_one_word : Trees → Bool
  are_one_word none = true
  are_one_word (more t ts) = is_one_word t && are_one_word ts

-- the byte is in the set of the position
abbrev pub has_byte : Position → ℕ → Bool
has_byte (Bytes set) b = member set b
has_byte Begun b = false
has_byte (Taken ranges) b = false

-- the word of these positions occurs at offset i: each of the bytes from there on is in its set
abbrev pub OccursAt : List ℕ → List Position → ℕ → Type 0
OccursAt s [] i = ⊤
OccursAt s (p ∷ ps) i = (i < length s) × (has_byte p (slice_index s i) ≡ true) × OccursAt s ps (suc i)

-- the spans of the tree are the occurrences of its positions
abbrev pub AreSpansOfWord : Tree → Type 0
AreSpansOfWord t = (s : List ℕ) (i j : ℕ) → MatchesSpan s t i j ↔ (OccursAt s (position_list t) i × (j ≡ i + position_count t))

-- a program may be searched for as a word only if its tree is one
abbrev pub IsWordFlag : Tree → Bool → Type 0
IsWordFlag t flag = flag ≡ true → is_one_word t ≡ true
