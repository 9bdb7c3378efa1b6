-- The parts of a word that a tree matches.
use Rattle.std.specs.Prelude.{ℕ, zero, suc, ◌≡◌, ◌+◌, ◌<◌, ◌≤◌, Bool, true, not, List, [], slice_index_or, vec_len}
use Rattle.cs_prefilter.specs.declared.word.Word.{Word}
use Rattle.cs_prefilter.specs.WordAt.{IsLine, WordAt, with_newline}
use Rattle.cs_prefilter.specs.Words.{AreAll}

-- `Spans` says which spans of a line a tree matches: wherever the word occurs, also that of its sets from one index to
-- the other.
pub record MatchesPart (Spans : List ℕ → ℕ → ℕ → Type 0) (word : Word) (from to : ℕ) : Type 0 where
  pub low : from ≤ to
  pub high : to ≤ vec_len word.sets
  pub spans : (line : List ℕ) (at : ℕ) → IsLine line → WordAt (with_newline line) at word → Spans line (at + from) (at + to)

-- the set of the byte before an index of the word
abbrev pub set_before : Word → ℕ → List Bool
set_before word zero = word.before
set_before word (suc i) = slice_index_or word.sets.items i []

-- the edge of a word of the line is at the index: of the bytes around it one is a word byte, and that at index 0 if it is
-- the first byte of the line
pub record HasEdge (word : Word) (index : ℕ) : Type 0 where
  pub within : index < vec_len word.sets
  pub is_end : Bool
  pub inside : is_end ≡ true → 0 < index
  pub before : AreAll is_end (set_before word index)
  pub after : AreAll (not is_end) (slice_index_or word.sets.items index [])
