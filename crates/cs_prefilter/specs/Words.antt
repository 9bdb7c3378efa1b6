-- Words that end at an offset of a text.
use Rattle.std.specs.Prelude.{ℕ, ◌≡◌, ◌+◌, ◌-◌, ◌≤◌, ◌<◌, Bool, true, List, length, slice_index, slice_index_or, Option, IfSome}
use Rattle.cs_syntax.specs.Matching.{is_word, member}
use Rattle.cs_prefilter.specs.declared.words.Words.{Words}
use Rattle.cs_prefilter.specs.WordAt.{HasWord, with_newline}

-- each member of the set is a word byte, or none is
abbrev pub AreAll : Bool → List Bool → Type 0
AreAll word set = (b : ℕ) → member set b ≡ true → is_word b ≡ word

-- the line and its newline contain one of the words, if there are any
abbrev pub HasWordOf : List ℕ → Option Words → Type 0
HasWordOf line words = IfSome words (λ some. HasWord some.words.items (with_newline line))

-- neighbouring bytes of the text, each in its set, end at the offset
pub record SetsEndAt (text : List ℕ) (sets : List (List Bool)) (offset : ℕ) : Type 0 where
  pub within : offset ≤ length text
  pub start : ℕ
  pub long : start + length sets ≡ offset
  pub each : (k : ℕ) (d : List Bool) → k < length sets →
      member (slice_index_or sets k d) (slice_index text (start + k)) ≡ true

-- the byte before an offset is in the set, unless the text begins there
abbrev pub IsBehind : List Bool → List ℕ → ℕ → Type 0
IsBehind before text k = 0 < k → member before (slice_index text (k - 1)) ≡ true

-- the same bytes, and the byte before them is in a set
pub record RunEndsAt (text : List ℕ) (before : List Bool) (sets : List (List Bool)) (offset : ℕ) : Type 0 where
  pub bytes : (i : ℕ) → slice_index text i < 256
  pub ends : SetsEndAt text sets offset
  pub behind : IsBehind before text ends.start
