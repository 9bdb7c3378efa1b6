-- Programs of accepted patterns, and errors of patterns.
use Rattle.std.specs.Prelude.{ℕ, ◌≡◌, ◌≤◌, Bool, false, List, Err}
use Rattle.cs_syntax.specs.Matching.{Tree}
use Rattle.cs_syntax.specs.Parsing.{ParsesAs}
use Rattle.cs_syntax.specs.Weight.{weight, max_weight}
use Rattle.cs_match.specs.SameLines.{MatchSameLines}
use Rattle.cs_args.specs.declared.fault.ToolFault.{ToolFault}
use Rattle.cs_search.specs.declared.status.Status.{Status}
use Rattle.cs_search.specs.Cgrep.{PatternFirst}
use Rattle.cs_search.specs.Refusals.{has_write_failed}

-- The text parses as a pattern within the weight limit, and the program matches what the pattern matches.
abbrev pub IsProgramOf : List ℕ → Bool → Tree → Type 0
IsProgramOf text fold program =
    (pattern : Tree) × ParsesAs text fold pattern × (weight pattern ≤ max_weight)
    × MatchSameLines program pattern

-- There is no program for this error, and the error is not a failed write.
abbrev pub RefusesPattern : List ℕ → Bool → ToolFault → Type 0
RefusesPattern text fold fault =
    PatternFirst {A = Status} text fold (Err fault) × (has_write_failed {A = Status} (Err fault) ≡ false)
