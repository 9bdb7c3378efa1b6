-- What cgrep prints and returns. docs/PROMISES.md, "What is printed".
use Rattle.std.specs.Prelude.{ℕ, ◌≡◌, ◌⊎◌, ◌+◌, Bool, if◌then◌else◌, List, [], ◌∷◌, map, codes, Option, option_map, string_bytes, Result, Ok, Err, MatchBool}
use Rattle.cs_tree.specs.StreamModels.{SourceModel}
use Rattle.cs_tree.specs.ConsumesAtMost.{ConsumesAtMost}
use Rattle.cs_tree.specs.Snapshot.{Snapshot}
use Rattle.cs_tree.specs.TakesPrefix.{EndsAfter}
use Rattle.cs_args.specs.declared.jobs.Tool.TheVariants.{Cgrep}
use Rattle.cs_args.specs.declared.jobs.GrepJob.{GrepJob}
use Rattle.cs_args.specs.declared.fault.ToolFault.{ToolFault}
use Rattle.cs_args.specs.declared.fault.ToolFault.TheVariants.{Pattern, Write, Memory}
use Rattle.cs_search.specs.declared.status.Status.{Status}
use Rattle.cs_search.specs.InputReport.{max_searched}
use Rattle.cs_search.specs.Printed.{Printed, input_printed, searched_by_cgrep, SearchOutputs, PrintsAnswer, PrintsNothing, PrintsFaults}
use Rattle.cs_search.specs.Refusals.{IsAccepted, IsPatternRefused, DecidesText}

abbrev pub standard_name : List ℕ
standard_name = codes "<standard input>"

-- the output for standard input, or for the files in the order of the arguments
unfoldable pub cgrep_printed : ℕ → GrepJob → (List ℕ → Bool) → Option Snapshot → Option SourceModel → Option Printed
cgrep_printed limit job has_match tree input =
    if job.standard then option_map (input_printed limit Cgrep job.style has_match standard_name) input
    else option_map (λ (tree : Snapshot). searched_by_cgrep limit job.style has_match tree (map string_bytes job.files.items)) tree

-- An error of the pattern comes first; everything else comes after the pattern is accepted.
abbrev pub PatternFirst : {A : Type 0} → List ℕ → Bool → Result A ToolFault → Type 0
PatternFirst text fold (Ok status) = IsAccepted text fold
PatternFirst text fold (Err (Pattern error)) = IsPatternRefused text fold error
PatternFirst text fold (Err Write) = IsAccepted text fold
PatternFirst text fold (Err Memory) = Unit {0}
PatternFirst text fold (Err fault) = ⊥

-- The printed faults are those of standard input, or those of the files, which the tree counts.
abbrev pub PrintsFaultsOf : GrepJob → ℕ → ℕ → ℕ → ℕ → (List ℕ → Type 0) → Type 0
PrintsFaultsOf job tree tree' input input' Writes =
    MatchBool job.standard
    ((tree' ≡ tree) × PrintsFaults Cgrep (standard_name ∷ []) input input' Writes)
    ((input' ≡ input) × PrintsFaults Cgrep (map string_bytes job.files.items) tree tree' Writes)

-- What cgrep promises, given the job, the tree's snapshot and its failures, the model of standard input and its failures,
-- the outputs, and the answer.
pub record IsGrep (job : GrepJob) (tree : Option Snapshot) (failed failed' : ℕ) (input input' : Option SourceModel)
    (input_failed input_failed' : ℕ) (outputs : SearchOutputs) (answer : Result Status ToolFault) : Type 0 where
  pub prints : (has_match : List ℕ → Bool) → DecidesText (string_bytes job.pattern) job.fold has_match →
      PrintsAnswer (cgrep_printed max_searched job has_match tree input) outputs answer
  pub begins : PrintsNothing outputs ⊎ IsAccepted (string_bytes job.pattern) job.fold
  pub pattern : PatternFirst (string_bytes job.pattern) job.fold answer
  pub faults : PrintsFaultsOf job failed failed' input_failed input_failed' (λ lines. EndsAfter lines outputs.err outputs.err_then answer)
  pub loses : ConsumesAtMost (max_searched + 1) input input'
