-- What a search of one input prints and returns. docs/PROMISES.md, "What is printed".
use Rattle.std.specs.Prelude.{ℕ, ◌+◌, Bool, true, false, ◌&&◌, if◌then◌else◌, List, [], ◌∷◌, ◌++◌, length, codes, decimal, Option, None, is_none}
use Rattle.std.specs.List.{flat_map}
use Rattle.cs_match.specs.Lines.{newline, lines, terminated_lines}
use Rattle.cs_args.specs.declared.jobs.Style.{Style}

-- a matching line, after its number
abbrev pub MatchingLine : Type 0
MatchingLine = ℕ × List ℕ

-- the tested lines: all if the text was read to its end, else those whose newline was read
abbrev pub tested_lines : Bool → List ℕ → List (List ℕ)
tested_lines to_its_end text = if to_its_end then lines text else terminated_lines text

-- the matching lines; the first of `lines` has this number
unfoldable pub matches_from : ℕ → (List ℕ → Bool) → List (List ℕ) → List MatchingLine
matches_from number has_match [] = []
matches_from number has_match (line ∷ rest) =
    if has_match line then (number, line) ∷ matches_from (number + 1) has_match rest else matches_from (number + 1) has_match rest

abbrev pub any_match : List MatchingLine → Bool
any_match [] = false
any_match (matching ∷ matches) = true

-- `NAME:NUMBER:LINE`; `-h` drops the name, and only `-n` adds the number
unfoldable pub match_line : Style → List ℕ → MatchingLine → List ℕ
match_line style name matching =
    (if style.bare then [] else name ++ codes ":")
    ++ ((if style.number then decimal matching.0 ++ codes ":" else [])
    ++ (matching.1 ++ newline ∷ []))

-- `NAME`, if some line matches
unfoldable pub name_line : List ℕ → List MatchingLine → List ℕ
name_line name matches = if any_match matches then name ++ newline ∷ [] else []

-- `NAME: COUNT`
unfoldable pub count_line : List ℕ → ℕ → List ℕ
count_line name count = name ++ (codes ": " ++ (decimal count ++ newline ∷ []))

-- `-l` overrides `-c`, and `-c` overrides the others. A count is printed only if it is not 0 and the input was read
-- to its end.
unfoldable pub matches_output : Style → List ℕ → Bool → List MatchingLine → List ℕ
matches_output style name to_its_end matches =
    if style.list then name_line name matches
    else (if style.count then (if to_its_end && any_match matches then count_line name (length matches) else [])
    else flat_map (match_line style name) matches)

-- The output, why the search stopped before the end of the input, and whether some line matches. With `-l` the first
-- matching line ends the search, so that no fault is seen.
pub record Report (Fault : Type 0) : Type 0 where
  pub output : List ℕ
  pub fault : Option Fault
  pub matched : Bool

-- of an input with this name, whose bytes up to the fault or the end are `text`
unfoldable pub report : {Fault : Type 0} → Style → List ℕ → (List ℕ → Bool) → List ℕ → Option Fault → Report Fault
report style name has_match text fault = let matches = matches_from 1 has_match (tested_lines (is_none fault) text) in record {
  output = matches_output style name (is_none fault) matches;
  fault = if style.list && any_match matches then None else fault;
  matched = any_match matches;
}
