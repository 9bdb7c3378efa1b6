-- Where in a line a tree matches: the leftmost match, and of those that begin there the longest (POSIX, `grep -o`, RE2's
-- longest_match). docs/PATTERNS.md, "Where a match is".
use Rattle.std.specs.Prelude.{ℕ, suc, ◌≡◌, ◌≤◌, Bool, true, false, List, [], ◌∷◌, ◌++◌, length}
use Rattle.cs_syntax.specs.Matching.{Tree, MatchesSpan, word_before, word_after}

-- A whole word: no word byte stands before it, and none after it (`grep -w`). The bytes in it may be any.
pub record IsWholeWord (s : List ℕ) (start end : ℕ) : Type 0 where
  pub before : word_before s start ≡ false
  pub after : word_after s end ≡ false

-- a match that begins at or after `from`, and ends at or after `least`; if `whole`, one that is a whole word
pub record IsMatchOf (whole : Bool) (t : Tree) (s : List ℕ) (from least start end : ℕ) : Type 0 where
  pub begins : from ≤ start
  pub ends : least ≤ end
  pub ordered : start ≤ end
  pub within : end ≤ length s
  pub matches : MatchesSpan s t start end
  pub word : whole ≡ true → IsWholeWord s start end

-- there is no such match
abbrev pub HasNoMatchOf : Bool → Tree → List ℕ → ℕ → ℕ → Type 0
HasNoMatchOf whole t s from least = (start end : ℕ) → ¬ IsMatchOf whole t s from least start end

-- the leftmost of these matches, and of those that begin there the longest
pub record IsFirstOf (whole : Bool) (t : Tree) (s : List ℕ) (from least start end : ℕ) : Type 0 where
  pub is : IsMatchOf whole t s from least start end
  pub leftmost : (i j : ℕ) → IsMatchOf whole t s from least i j → start ≤ i
  pub longest : (j : ℕ) → IsMatchOf whole t s from least start j → j ≤ end

-- The matches of a line from an offset on. Each is the first that begins at or after the end of the one before it, and
-- ends after that end. So none overlaps another, and an empty match does not touch the end of the one before it. If `all`,
-- none follows the last.
abbrev pub AreSpansFrom : (all whole : Bool) → Tree → List ℕ → ℕ → ℕ → List (ℕ × ℕ) → Type 0
AreSpansFrom all whole t s from least [] = all ≡ true → HasNoMatchOf whole t s from least
AreSpansFrom all whole t s from least (span ∷ spans) =
    IsFirstOf whole t s from least span.0 span.1 × AreSpansFrom all whole t s span.1 (suc span.1) spans

-- all matches of a line
abbrev pub AreSpans : Tree → List ℕ → List (ℕ × ℕ) → Type 0
AreSpans t s spans = AreSpansFrom true false t s 0 0 spans

-- the same of any match, whole word or not
abbrev pub HasNoMatchFrom : Tree → List ℕ → ℕ → ℕ → Type 0
HasNoMatchFrom t s from least = HasNoMatchOf false t s from least

abbrev pub IsFirstSpan : Tree → List ℕ → ℕ → ℕ → ℕ → ℕ → Type 0
IsFirstSpan t s from least start end = IsFirstOf false t s from least start end

-- the first match from an offset on is unique
abbrev pub FirstSpansAreUnique : Type 0
FirstSpansAreUnique = (whole : Bool) (t : Tree) (s : List ℕ) (from least i j k l : ℕ) →
    IsFirstOf whole t s from least i j → IsFirstOf whole t s from least k l → (i ≡ k) × (j ≡ l)

-- a line has one list of all its matches from an offset on
abbrev pub SpansAreUnique : Type 0
SpansAreUnique = (whole : Bool) (t : Tree) (s : List ℕ) (from least : ℕ) (spans others : List (ℕ × ℕ)) →
    AreSpansFrom true whole t s from least spans → AreSpansFrom true whole t s from least others → spans ≡ others

-- and its first matches are the beginning of that list
abbrev pub FirstSpansBeginAll : Type 0
FirstSpansBeginAll = (whole : Bool) (t : Tree) (s : List ℕ) (from least : ℕ) (spans all : List (ℕ × ℕ)) →
    AreSpansFrom false whole t s from least spans → AreSpansFrom true whole t s from least all →
    (rest : List (ℕ × ℕ)) × (all ≡ spans ++ rest)
