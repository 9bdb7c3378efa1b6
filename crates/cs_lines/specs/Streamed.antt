-- How far a text is read, and which lines of it.
use Rattle.std.specs.Prelude.{ℕ, ◌≡◌, ◌≤◌, Bool, true, false, nat_lt, if◌then◌else◌, List, length, Option, IfSome}
use Rattle.cs_match.specs.Lines.{lines, terminated_lines}
use Rattle.cs_tree.specs.StreamModels.{SourceModel, ends, fails}
use Rattle.cs_lines.specs.declared.buffer.FillFault.{FillFault}
use Rattle.cs_lines.specs.declared.buffer.FillFault.TheVariants.{Failed as A_failed, TooLong as A_too_long, Memory}
use Rattle.cs_lines.specs.declared.stream.Ended.{Ended}
use Rattle.cs_lines.specs.declared.stream.Ended.TheVariants.{Whole, Failed, TooLong}

-- where the reading of a source ends, if at most so many of its bytes are read
abbrev pub ended_of : ℕ → SourceModel → Ended
ended_of left source =
    if nat_lt left (length source.bytes) then TooLong else elim source.ending [ ends ↦ Whole | fails ↦ Failed ]

-- the lines that are searched: of a text that is not read to its end those that have ended
abbrev pub read_lines : Ended → List ℕ → List (List ℕ)
read_lines Whole text = lines text
read_lines Failed text = terminated_lines text
read_lines TooLong text = terminated_lines text

abbrev pub is_failed : Ended → Bool
is_failed Whole = false
is_failed Failed = true
is_failed TooLong = false

abbrev pub is_whole : Ended → Bool
is_whole Whole = true
is_whole Failed = false
is_whole TooLong = false

-- the end of a text after a read that was refused
abbrev pub EndsBy : FillFault → Ended → Type 0
EndsBy A_failed ended = ended ≡ Failed
EndsBy A_too_long ended = ended ≡ TooLong
EndsBy Memory ended = ⊥

-- A text that ends, and has at most so many bytes, is read to its end, or as far as it matters.
abbrev pub ReadsToEnd : ℕ → Option SourceModel → Ended → Type 0
ReadsToEnd left model ended = IfSome model (λ source. source.ending ≡ ends → length source.bytes ≤ left → is_whole ended ≡ true)
