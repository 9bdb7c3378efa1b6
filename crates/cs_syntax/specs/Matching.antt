-- The syntax tree of a pattern, and the spans of a line that it matches.
-- docs/PATTERNS.md, "Lines and matching"; the RE2 syntax page.
use Rattle.std.specs.Prelude.{ℕ, zero, suc, ◌≡◌, ◌-◌, ◌<◌, ◌≤◌, ◌⊎◌, ◌&&◌, Bool, true, false, List, length, slice_index, slice_index_or, nat_le, nat_lt, Option, IfSome}
use Rattle.std.specs.Bool.{xor}
use Rattle.cs_syntax.specs.Ranges.{is_in_ranges, word_ranges}
use Rattle.cs_syntax.specs.Characters.{MatchesChar}

mutual
  pub data Tree : Type 0 where
    empty : Tree
    one_of : List Bool → Tree
    -- a character of the ranges
    one_char : List (ℕ × ℕ) → Tree
    cat : Trees → Tree
    alt : Trees → Tree
    -- a repeat: at least n times, and at most m times if m is given
    rep : Tree → ℕ → Option ℕ → Tree
    line_start : Tree
    line_end : Tree
    word_edge : Tree
    not_word_edge : Tree

  pub data Trees : Type 0 where
    none : Trees
    more : Tree → Trees → Trees

abbrev pub member : List Bool → ℕ → Bool
member set b = slice_index_or set b false

-- a word byte: an ASCII digit, an ASCII letter or `_`
abbrev pub is_word : ℕ → Bool
is_word b = is_in_ranges word_ranges b

-- there is a byte before the offset, and it is a word byte
unfoldable pub word_before : List ℕ → ℕ → Bool
word_before s i = nat_lt 0 i && nat_le i (length s) && is_word (slice_index s (i - 1))

-- there is a byte at the offset, and it is a word byte
unfoldable pub word_after : List ℕ → ℕ → Bool
word_after s i = nat_lt i (length s) && is_word (slice_index s i)

-- a word boundary: exactly one of the bytes around the offset is a word byte
unfoldable pub is_at_word_boundary : List ℕ → ℕ → Bool
is_at_word_boundary s i = xor (word_before s i) (word_after s i)

-- R relates i to j in k steps: the k-th power of R
abbrev pub Chain : (ℕ → ℕ → Type 0) → ℕ → ℕ → ℕ → Type 0
Chain R zero i j = i ≡ j
Chain R (suc k) i j = (l : ℕ) × R i l × Chain R k l j

-- the tree matches the span of s from i to j
abbrev mutual
  pub MatchesSpan : List ℕ → Tree → ℕ → ℕ → Type 0
  MatchesSpan s empty i j = i ≡ j
  MatchesSpan s (one_of set) i j = (i < length s) × (member set (slice_index s i) ≡ true) × (j ≡ suc i)
  MatchesSpan s (one_char ranges) i j = MatchesChar s ranges i j
  MatchesSpan s (cat ts) i j = MatchesSequence s ts i j
  MatchesSpan s (alt ts) i j = MatchesBranch s ts i j
  MatchesSpan s (rep x n m) i j = (k : ℕ) × (n ≤ k) × IfSome m (λ most. k ≤ most) × Chain (MatchesSpan s x) k i j
  MatchesSpan s line_start i j = (i ≡ 0) × (j ≡ 0)
  MatchesSpan s line_end i j = (i ≡ length s) × (j ≡ length s)
  MatchesSpan s word_edge i j = (i ≡ j) × (is_at_word_boundary s i ≡ true)
  MatchesSpan s not_word_edge i j = (i ≡ j) × (is_at_word_boundary s i ≡ false)

  -- the trees match consecutive spans, from i to j
  pub MatchesSequence : List ℕ → Trees → ℕ → ℕ → Type 0
  MatchesSequence s none i j = i ≡ j
  MatchesSequence s (more t ts) i j = (l : ℕ) × MatchesSpan s t i l × MatchesSequence s ts l j

  -- some branch matches the span
  pub MatchesBranch : List ℕ → Trees → ℕ → ℕ → Type 0
  MatchesBranch s none i j = ⊥
  MatchesBranch s (more t ts) i j = MatchesSpan s t i j ⊎ MatchesBranch s ts i j

-- the tree matches some span of s
abbrev pub HasMatch : Tree → List ℕ → Type 0
HasMatch t s = (i j : ℕ) × (i ≤ j) × (j ≤ length s) × MatchesSpan s t i j
