-- The lines of errors. Words are lists of bytes.
use Rattle.std.specs.Prelude.{ℕ, Bool, ◌||◌, ◌&&◌, not, nat_le, nat_lt, if◌then◌else◌, List, ◌++◌, take, replicate, count_by, codes, decimal}
use Rattle.std.specs.List.{list_any}
use Rattle.cs_command.specs.declared.words.ItemFault.{ItemFault}
use Rattle.cs_command.specs.declared.words.ItemFault.TheVariants.{Unknown, LeftOut, ExtraValue, NoValue, Memory as ItemMemory}
use Rattle.cs_syntax.specs.FaultTexts.{fault_text}
use Rattle.cs_syntax.specs.declared.fault.PatternError.{PatternError}
use Rattle.cs_syntax.specs.declared.fault.PatternFault.{PatternFault}
use Rattle.cs_command.specs.Options.{part_of}
use Rattle.cs_command.specs.Values.{text_of}
use Rattle.cs_command.specs.declared.fault.RequestFault.{RequestFault}
use Rattle.cs_command.specs.declared.fault.RequestFault.TheVariants.{Item, NoNumber, NoColour, NoType, NoGlob, NoPattern, BadPattern, Memory}

-- what is wrong, and with what
abbrev pub line_about : List ℕ → List ℕ → List ℕ
line_about what text = codes "cs: " ++ what ++ (codes ": " ++ text) ++ codes "\n"

abbrev pub line_of : List ℕ → List ℕ
line_of what = codes "cs: " ++ what ++ codes "\n"

-- an option that does not exist
abbrev pub unknown_line : List ℕ → List ℕ
unknown_line option = codes "cs: unknown option: " ++ option ++ codes " (cs --help)\n"

-- words that are no options and operands
abbrev pub item_line : List (List ℕ) → ItemFault → List ℕ
item_line words (Unknown word at) = unknown_line (text_of words (part_of word 0))
item_line words (LeftOut word at) = line_about (codes "an option of rg that cs does not have") (text_of words (part_of word 0))
item_line words (ExtraValue word) = line_about (codes "an option that takes no value") (text_of words (part_of word 0))
item_line words (NoValue word) = line_of (codes "the last option needs a value")
item_line words ItemMemory = line_of (codes "out of memory")

-- the most characters of a pattern that is printed
abbrev pub width : ℕ
width = 72

-- a byte that begins a character of a text
abbrev pub begins_char : ℕ → Bool
begins_char byte = nat_lt byte 128 || nat_le 192 byte

-- whether a text has one line, no tab and few characters
abbrev pub is_short : List ℕ → Bool
is_short text = nat_le (count_by begins_char text) width && not (list_any (λ byte. nat_lt byte 32) text)

abbrev pub pattern_head : PatternFault → List ℕ
pattern_head fault = codes "cs: bad pattern: " ++ fault_text fault

abbrev pub offset_line : ℕ → List ℕ
offset_line at = codes ", at byte " ++ decimal at ++ codes "\n"

-- the text, and a caret below the character at an offset
abbrev pub caret_lines : List ℕ → ℕ → List ℕ
caret_lines text at =
    codes "\n  " ++ text ++ codes "\n  " ++ replicate (count_by begins_char (take at text)) 32 ++ codes "^\n"

-- what is wrong with a pattern, and where; a pattern that is not short is not printed
abbrev pub pattern_lines : List ℕ → PatternError → List ℕ
pattern_lines text error = pattern_head error.fault ++ (if is_short text then caret_lines text error.at else offset_line error.at)

abbrev pub lines_of : List (List ℕ) → RequestFault → List ℕ
lines_of words (Item fault) = item_line words fault
lines_of words (NoNumber part) = line_about (codes "not a number") (text_of words part)
lines_of words (NoColour part) = line_about (codes "not always, never or auto") (text_of words part)
lines_of words (NoType part) = line_about (codes "no such type (cs --type-list)") (text_of words part)
lines_of words (NoGlob part) = line_about (codes "not a glob that matches anything") (text_of words part)
lines_of words NoPattern = line_of (codes "no pattern (cs --help)")
lines_of words (BadPattern part error) = pattern_lines (text_of words part) error
lines_of words Memory = line_of (codes "out of memory")
