-- The patterns of the tools that search, their errors, and what is printed before an error.
-- docs/PATTERNS.md, "Syntax errors"; docs/PROMISES.md, "What is printed".
use Rattle.std.specs.Prelude.{ℕ, ◌≢◌, ◌≤◌, Bool, true, false, List, Result, Ok, Err, IfErr}
use Rattle.cs_syntax.specs.Matching.{Tree}
use Rattle.cs_syntax.specs.Weight.{weight, max_weight}
use Rattle.cs_syntax.specs.Parsing.{ParsesAs}
use Rattle.cs_syntax.specs.ParseErrors.{IsParseError}
use Rattle.cs_syntax.specs.declared.fault.PatternError.{PatternError}
use Rattle.cs_syntax.specs.declared.fault.PatternFault.TheVariants as pattern
use Rattle.cs_match.specs.Deciding.{Decides}
use Rattle.cs_args.specs.declared.fault.ToolFault.{ToolFault}
use Rattle.cs_args.specs.declared.fault.ToolFault.TheVariants.{Write, Memory}

-- the text parses as a tree within the weight limit
abbrev pub IsAccepted : List ℕ → Bool → Type 0
IsAccepted text fold = (t : Tree) × ParsesAs text fold t × (weight t ≤ max_weight)

-- the text parses as a pattern, and the test decides which lines that matches
abbrev pub DecidesText : List ℕ → Bool → (List ℕ → Bool) → Type 0
DecidesText text fold has_match = (pattern : Tree) × ParsesAs text fold pattern × Decides has_match pattern

-- The error is the syntax error of the text, and is not `Memory`.
abbrev pub IsPatternRefused : List ℕ → Bool → PatternError → Type 0
IsPatternRefused text fold error = IsParseError text fold error × (error.fault ≢ pattern.Memory)

-- Nothing is printed before an error other than a failed write and out of memory.
abbrev pub SilentOnError : {A : Type 0} → Result A ToolFault → Type 0 → Type 0
SilentOnError answer Silent = IfErr answer (λ fault. fault ≢ Write → fault ≢ Memory → Silent)

-- a write to one of the outputs failed
abbrev pub has_write_failed : {A : Type 0} → Result A ToolFault → Bool
has_write_failed (Ok answer) = false
has_write_failed (Err Write) = true
has_write_failed (Err fault) = false
