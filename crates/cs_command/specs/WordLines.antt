-- The lines of words: each line of a text of patterns is a pattern, as in grep(1).
use Rattle.std.specs.Prelude.{ℕ, ◌+◌, ◌==◌, List, [], ◌∷◌, length}
use Rattle.std.specs.List.{flat_map, slice_split}
use Rattle.cs_command.specs.Values.{text_of}
use Rattle.cs_command.specs.declared.options.WordPart.{WordPart}
use Rattle.cs_command.specs.declared.word_lines.WordLine.{WordLine}

-- a line of a part of a word, and its offset there
pub record LineView : Type 0 where
  pub part : WordPart
  pub at : ℕ
  pub text : List ℕ

abbrev pub line_view : WordLine → LineView
line_view own = record { part = own.part; at = own.at; text = own.text.now }

-- lines one after another; one byte, the newline, is between two
abbrev pub lines_from : WordPart → ℕ → List (List ℕ) → List LineView
lines_from part at [] = []
lines_from part at (text ∷ texts) = record { part = part; at = at; text = text } ∷ lines_from part (at + (length text + 1)) texts

-- The lines of a text. After a newline at its end an empty line follows.
abbrev pub part_lines : WordPart → List ℕ → List LineView
part_lines part text = lines_from part 0 (slice_split (λ byte. byte == 10) text)

-- the lines of parts of words, one part after another
abbrev pub lines_in : List (List ℕ) → List WordPart → List LineView
lines_in words parts = flat_map (λ part. part_lines part (text_of words part)) parts
