-- The lines of a text that have a word, by the offsets of their newlines. A text begins at the start of a line.
use Rattle.std.specs.Prelude.{◌≡◌, ◌≢◌, ◌↔◌, ℕ, ◌+◌, ◌-◌, ◌<◌, ◌≤◌, Bool, true, List, length, take, drop, slice_index, All, Any}
use Rattle.std.specs.List.{filter, range_with_len}
use Rattle.cs_prefilter.specs.declared.word.Word.{Word}
use Rattle.cs_prefilter.specs.declared.listing.Listed.{Listed}
use Rattle.cs_prefilter.specs.WordAt.{WordAt}

-- the byte that ends a line
abbrev pub newline : ℕ
newline = 10

-- no line ends at an offset from `from` up to `to`
abbrev pub NoNewlineFrom : List ℕ → ℕ → ℕ → Type 0
NoNewlineFrom text from to = (k : ℕ) → from ≤ k → k < to → slice_index text k ≢ newline

-- the offset is `from`, or follows a newline
abbrev pub IsLineStart : List ℕ → ℕ → ℕ → Type 0
IsLineStart text from offset = from < offset → slice_index text (offset - 1) ≡ newline

-- a line ends at this offset, and a word begins in it or at its newline
pub record EndsLineWithWord (words : List Word) (text : List ℕ) (end : ℕ) : Type 0 where
  pub here : slice_index text end ≡ newline
  pub at : ℕ
  pub low : at ≤ end
  pub in_line : NoNewlineFrom text at end
  pub occurs : Any (WordAt text at) words

-- the test tells which offsets these are, for a text that begins at `from` in another one
abbrev pub TellsEnds : List Word → List ℕ → ℕ → (ℕ → Bool) → Type 0
TellsEnds words text from is_end = (end : ℕ) → (is_end (from + end) ≡ true) ↔ EndsLineWithWord words text end

-- no word begins in the line that has not ended up to the offset
abbrev pub LineLacksWords : List Word → List ℕ → ℕ → Type 0
LineLacksWords words text offset = (k : ℕ) → k < offset → NoNewlineFrom text k offset → All (λ word. WordAt text k word → ⊥) words

-- `ends` begins with a list: the ends of the lines with a word up to an offset of the text, which begins at `from` in
-- another one. No word begins in the line at the offset.
pub record AreEndsTo (words : List Word) (text : List ℕ) (from offset count : ℕ) (ends : List ℕ) : Type 0 where
  pub high : offset ≤ length text
  pub room : count ≤ length ends
  pub listed : (is_end : ℕ → Bool) → TellsEnds words text from is_end → take count ends ≡ filter is_end (range_with_len from offset)
  pub lacks : LineLacksWords words text offset

-- the same, up to where the list of a search from `from` on ends
abbrev pub IsListFrom : List Word → List ℕ → ℕ → Listed → List ℕ → Type 0
IsListFrom words text from listed ends = AreEndsTo words (drop from text) from (listed.to - from) listed.count ends

-- the list is full
abbrev pub IsFull : Listed → List ℕ → Type 0
IsFull listed ends = listed.count ≡ length ends
