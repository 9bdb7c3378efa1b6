-- Where a search for a word stops.
use Rattle.std.specs.Prelude.{◌≡◌, ℕ, ◌+◌, ◌-◌, ◌<◌, ◌≤◌, false, cond, List, length, IsTrue, Any, All}
use Rattle.std.specs.Int.{bit_at}
use Rattle.cs_prefilter.specs.declared.word.Word.{Word}
use Rattle.cs_prefilter.specs.declared.scan.WordStop.{WordStop}
use Rattle.cs_prefilter.specs.WordAt.{WordAt, NoWordFrom}

-- no word occurs before the stop, and one occurs there if it says so
pub record IsStop (words : List Word) (text : List ℕ) (from : ℕ) (stop : WordStop) : Type 0 where
  pub low : from ≤ stop.offset
  pub high : stop.offset ≤ length text
  pub none : NoWordFrom words text from stop.offset
  pub stops : IsTrue stop.has_word → Any (WordAt text stop.offset) words

-- the stop is at a word before `to`, or at `to`
pub record StopsBy (to : ℕ) (stop : WordStop) : Type 0 where
  pub at_word : IsTrue stop.has_word → stop.offset < to
  pub at_end : stop.has_word ≡ false → stop.offset ≡ to

-- the number of offsets that are decided from `from` on: those before the stop, and that of the word
abbrev pub decided : ℕ → WordStop → ℕ
decided from stop = stop.offset - from + cond stop.has_word 1 0

-- among the next 64 offsets of the text, none of the words occurs at one whose bit is not set
abbrev pub NoneUnmarked : List Word → List ℕ → ℕ → ℕ → Type 0
NoneUnmarked words text offset marks = (k : ℕ) → k < 64 → offset + k < length text → bit_at marks k ≡ 0
    → All (λ word. WordAt text (offset + k) word → ⊥) words
