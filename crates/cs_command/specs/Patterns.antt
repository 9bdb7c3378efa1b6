-- What is searched for: each line of a text of patterns is one pattern, which is parsed alone, and the trees are joined.
use Rattle.std.specs.Prelude.{ℕ, ◌+◌, ◌==◌, Bool, true, false, not, ◌||◌, ◌&&◌, if◌then◌else◌, List, [], ◌∷◌, Result, Ok, Err}
use Rattle.std.specs.Char.{is_ascii_uppercase}
use Rattle.std.specs.List.{list_any}
use Rattle.cs_syntax.specs.Matching.{Tree}
use Rattle.cs_syntax.specs.Parsing.{parse_result, tree, rejected}
use Rattle.cs_syntax.specs.Joining.{either, whole_line, literal, pattern_of}
use Rattle.cs_syntax.specs.declared.fault.PatternError.{PatternError}
use Rattle.cs_command.specs.declared.letter_case.LetterCase.{LetterCase}
use Rattle.cs_command.specs.declared.letter_case.LetterCase.TheVariants.{Exact, Fold, Smart}
use Rattle.cs_command.specs.declared.settings.PatternStyle.{PatternStyle}
use Rattle.cs_command.specs.Values.{and_then, text_of}
use Rattle.cs_command.specs.WordLines.{LineView, lines_in}
use Rattle.cs_command.specs.declared.fault.RequestFault.{RequestFault}
use Rattle.cs_command.specs.declared.fault.RequestFault.TheVariants.{NoPattern, BadPattern}
use Rattle.cs_command.specs.declared.options.WordPart.{WordPart}

-- whether a byte is a capital letter that a backslash does not escape
abbrev pub is_capital : Bool → ℕ → Bool
is_capital escaped byte = not escaped && is_ascii_uppercase byte

-- whether a byte is a backslash that escapes the next one
abbrev pub escapes : Bool → Bool → ℕ → Bool
escapes is_literal escaped byte = not is_literal && (not escaped && byte == 92)

unfoldable pub has_capital_after : Bool → Bool → List ℕ → Bool
has_capital_after is_literal escaped [] = false
has_capital_after is_literal escaped (byte ∷ bytes) =
    is_capital escaped byte || has_capital_after is_literal (escapes is_literal escaped byte) bytes

-- whether a text has a capital letter; in a regular expression one that is not escaped
abbrev pub has_capital : Bool → List ℕ → Bool
has_capital is_literal text = has_capital_after is_literal false text

-- whether letters match in either case; -S: if no pattern has a capital letter
abbrev pub folds : LetterCase → Bool → Bool
folds Exact capital = false
folds Fold capital = true
folds Smart capital = not capital

abbrev pub has_capitals : List (List ℕ) → Bool → List WordPart → Bool
has_capitals words is_literal parts = list_any (λ part. has_capital is_literal (text_of words part)) parts

-- the pattern of a text: with -F its characters stand for themselves
abbrev pub parsed_text : Bool → Bool → List ℕ → Result Tree PatternError
parsed_text is_literal fold text =
    if is_literal then pattern_of (literal fold text)
    else elim (parse_result text fold) [
      | tree t ↦ pattern_of t
      | rejected fault offset ↦ Err (record { fault = fault; at = offset })
    ]

-- with -x it matches whole lines
abbrev pub whole : Bool → Result Tree PatternError → Result Tree PatternError
whole is_whole (Ok t) = if is_whole then pattern_of (whole_line t) else Ok t
whole is_whole (Err error) = Err error

abbrev pub parsed : PatternStyle → Bool → List ℕ → Result Tree PatternError
parsed style fold text = whole style.lines (parsed_text style.literal fold text)

-- an error is at its offset in the part of a word
abbrev pub located_at : LineView → PatternError → RequestFault
located_at line error = BadPattern line.part (record { fault = error.fault; at = line.at + error.at })

abbrev pub located : LineView → Result Tree PatternError → Result Tree RequestFault
located line (Ok t) = Ok t
located line (Err error) = Err (located_at line error)

-- the pattern that a line is
abbrev pub pattern_at : PatternStyle → Bool → LineView → Result Tree RequestFault
pattern_at style fold line = located line (parsed style fold line.text)

-- the lines that match the pattern so far, or one of more patterns
unfoldable pub joined : PatternStyle → Bool → Tree → List LineView → Result Tree RequestFault
joined style fold t [] = Ok t
joined style fold t (line ∷ lines) =
    and_then (pattern_at style fold line) (λ u.
    and_then (located line (pattern_of (either t u))) (λ both. joined style fold both lines))

-- the lines that match one of the patterns
abbrev pub pattern_by : PatternStyle → Bool → List LineView → Result Tree RequestFault
pattern_by style fold [] = Err NoPattern
pattern_by style fold (line ∷ lines) = and_then (pattern_at style fold line) (λ t. joined style fold t lines)

-- each line of the parts of words is a pattern
abbrev pub pattern_in : List (List ℕ) → PatternStyle → LetterCase → List WordPart → Result Tree RequestFault
pattern_in words style case parts = pattern_by style (folds case (has_capitals words style.literal parts)) (lines_in words parts)
