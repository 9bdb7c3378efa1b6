-- Inside a search of an index: which names are selected, and the errors of the `-f` pattern.
use Rattle.std.specs.Prelude.{ℕ, ◌≡◌, Bool, true, false, List, filter, filter_map, map, Option, Some, None, option_map, slice_get, IsSomeAnd, String, string_bytes}
use Rattle.std.specs.declared.alloc.Global.{Global}
use Rattle.cs_syntax.specs.Matching.{Tree}
use Rattle.cs_syntax.specs.declared.fault.PatternFault.{PatternFault}
use Rattle.cs_syntax.specs.declared.fault.PatternFault.TheVariants as pattern
use Rattle.cs_syntax.specs.declared.fault.PatternError.{PatternError}
use Rattle.cs_match.specs.Automaton.{Automaton}
use Rattle.cs_match.specs.Deciding.{Decides}
use Rattle.cs_args.specs.declared.fault.ToolFault.{ToolFault}
use Rattle.cs_args.specs.declared.fault.ToolFault.TheVariants.{FilePattern, Memory}
use Rattle.cs_search.specs.Refusals.{IsPatternRefused}
use Rattle.cs_search.specs.Programs.{IsProgramOf}

-- the names with these ids
unfoldable pub names_at : List (List ℕ) → List ℕ → List (List ℕ)
names_at names ids = filter_map (slice_get names) ids

-- The test is that of the program. Without a program every name passes.
abbrev pub DecidesNames : (List ℕ → Bool) → Option Tree → Type 0
DecidesNames keeps None = (name : List ℕ) → keeps name ≡ true
DecidesNames keeps (Some program) = Decides keeps program

-- the texts are the names with these ids that the program keeps
abbrev pub AreKept : Option Tree → List (List ℕ) → List ℕ → List (String Global) → Type 0
AreKept file names ids texts =
    (keeps : List ℕ → Bool) → DecidesNames keeps file → map string_bytes texts ≡ filter keeps (names_at names ids)

-- the tree of a matcher, if there is one
abbrev pub matcher_tree : Option Automaton → Option Tree
matcher_tree matcher = option_map (λ m. m.tree) matcher

-- There is a program if there is a text, and it matches what the pattern of the text matches.
abbrev pub IsFileProgram : Option (List ℕ) → Option Tree → Type 0
IsFileProgram None None = Unit {0}
IsFileProgram (Some text) (Some program) = IsProgramOf text false program
IsFileProgram text program = ⊥

abbrev pub file_fault_at : PatternFault → PatternError → ToolFault
file_fault_at pattern.Memory error = Memory
file_fault_at fault error = FilePattern error

-- the error of the `-f` pattern; an allocation failure becomes `Memory`
abbrev pub file_pattern_fault : PatternError → ToolFault
file_pattern_fault error = file_fault_at error.fault error

abbrev pub FileRefused : Option (List ℕ) → ToolFault → Type 0
FileRefused text (FilePattern error) = IsSomeAnd text (λ text. IsPatternRefused text false error)
FileRefused text Memory = Unit {0}
FileRefused text fault = ⊥
