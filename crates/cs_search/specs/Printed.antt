-- What a tool prints and returns for the inputs that it searches, one after another.
-- docs/PROMISES.md, "What is printed".
use Rattle.std.specs.Prelude.{ℕ, ◌≡◌, ◌⊎◌, Bool, true, false, ◌||◌, if◌then◌else◌, List, [], ◌∷◌, ◌++◌, Option, Some, None, IfSome, Result, Ok, Err, MatchResult}
use Rattle.cs_tree.specs.TreeAnswers.{opening_of}
use Rattle.cs_args.specs.FileFaults.{fault_line_of, file_fault_of, is_file_failure}
use Rattle.cs_tree.specs.Failures.{count_if}
use Rattle.std.specs.List.{flat_map, fold}
use Rattle.cs_tree.specs.StreamModels.{SourceModel}
use Rattle.cs_tree.specs.Sinks.{SinkModel, Grows, GrowsFlushed}
use Rattle.cs_tree.specs.Snapshot.{Snapshot, item_at}
use Rattle.cs_tree.specs.declared.fault.TreeFault.{TreeFault}
use Rattle.cs_args.specs.declared.jobs.Tool.{Tool}
use Rattle.cs_args.specs.declared.jobs.Tool.TheVariants.{Cgrep}
use Rattle.cs_args.specs.declared.jobs.Style.{Style}
use Rattle.cs_args.specs.declared.fault.FileFault.{FileFault}
use Rattle.cs_args.specs.declared.fault.FileFault.TheVariants.{Failed, InputTooLong}
use Rattle.cs_args.specs.declared.fault.ToolFault.{ToolFault}
use Rattle.cs_search.specs.declared.status.ReadFault.TheVariants.{Read, TooLong}
use Rattle.cs_search.specs.declared.status.Status.{Status}
use Rattle.cs_search.specs.declared.status.Status.TheVariants.{Matched, NoMatch}
use Rattle.cs_tree.specs.TakesPrefix.{TakesPrefix, MayEnd}
use Rattle.cs_search.specs.InputReport.{input_report}

-- the bytes for both outputs, and whether some line matched
pub record Printed : Type 0 where
  pub output : List ℕ
  pub errors : List ℕ
  pub matched : Bool

module _ (limit : ℕ) (tool : Tool) (style : Style) (has_match : List ℕ → Bool) where
  -- for an input with this name and model: its report, and its fault line
  unfoldable pub input_printed : List ℕ → SourceModel → Printed
  input_printed name model = let report = input_report limit style name has_match model in record {
    output = report.output;
    errors = elim report.fault [ None ↦ [] | Some fault ↦ fault_line_of tool name (elim fault [ Read ↦ Failed | TooLong ↦ InputTooLong ]) ];
    matched = report.matched;
  }

  -- for a file that was opened at this name, or could not be
  abbrev pub opened_printed : List ℕ → Result SourceModel TreeFault → Printed
  opened_printed name (Ok model) = input_printed name model
  opened_printed name (Err fault) = record { output = []; errors = fault_line_of tool name (file_fault_of fault); matched = false }

  -- for the item at this name in the tree
  unfoldable pub file_printed : Snapshot → List ℕ → Printed
  file_printed tree name = opened_printed name (opening_of (item_at tree name))

-- one after the other
abbrev pub both_printed : Printed → Printed → Printed
both_printed first next = record {
  output = first.output ++ next.output;
  errors = first.errors ++ next.errors;
  matched = first.matched || next.matched;
}

-- for inputs with these names, in this order
unfoldable pub all_printed : (List ℕ → Printed) → List (List ℕ) → Printed
all_printed printed [] = record { output = []; errors = []; matched = false }
all_printed printed (name ∷ names) = both_printed (printed name) (all_printed printed names)

-- by cgrep, for files with these names, in this order
unfoldable pub searched_by_cgrep : ℕ → Style → (List ℕ → Bool) → Snapshot → List (List ℕ) → Printed
searched_by_cgrep limit style has_match tree names = all_printed (file_printed limit Cgrep style has_match tree) names

-- ---- the outputs of a search

-- the models of both outputs, before and after the search
pub record SearchOutputs : Type 0 where
  pub out : Option SinkModel
  pub out_then : Option SinkModel
  pub err : Option SinkModel
  pub err_then : Option SinkModel

-- of two sinks
abbrev pub search_outputs : {O E : Type 0} → (O → Option SinkModel) → (E → Option SinkModel) → O → O → E → E → SearchOutputs
search_outputs out_model err_model out out' err err' =
    record { out = out_model out; out_then = out_model out'; err = err_model err; err_then = err_model err' }

-- If what was searched has a model: this was printed, each output was then flushed once, and the status says whether some
-- line matched. After an error each output has a prefix of this, and `out` may have been flushed after all of it. So `err`
-- is flushed last.
abbrev pub PrintsAnswer : Option Printed → SearchOutputs → Result Status ToolFault → Type 0
PrintsAnswer model outputs answer = IfSome model (λ (printed : Printed). MatchResult answer
    (λ status. GrowsFlushed outputs.out outputs.out_then printed.output × GrowsFlushed outputs.err outputs.err_then printed.errors
    × (status ≡ (if printed.matched then Matched else NoMatch)))
    (λ fault. MayEnd printed.output outputs.out outputs.out_then × TakesPrefix printed.errors outputs.err outputs.err_then))

abbrev pub PrintsNothing : SearchOutputs → Type 0
PrintsNothing outputs = Grows outputs.out outputs.out_then [] × Grows outputs.err outputs.err_then []

-- ---- printed faults and counted failures

-- a name, and why its file was not searched to the end
abbrev pub NamedFault : Type 0
NamedFault = List ℕ × FileFault

abbrev pub fault_lines : Tool → List NamedFault → List ℕ
fault_lines tool faults = flat_map (λ (fault : NamedFault). fault_line_of tool fault.0 fault.1) faults

-- the count after these faults
abbrev pub failures_of : List NamedFault → ℕ → ℕ
failures_of faults n = fold (λ count (fault : NamedFault). count_if (is_file_failure fault.1) count) n faults

-- These are faults of some of the names, at most one each, in the order of the names. Each is a failure, or an input
-- that is too long.
abbrev pub AreFaultsOf : List (List ℕ) → List NamedFault → Type 0
AreFaultsOf [] faults = faults ≡ []
AreFaultsOf (name ∷ names) faults =
    AreFaultsOf names faults
    ⊎ ((why : FileFault) × (rest : List NamedFault) × (faults ≡ (name, why) ∷ rest) ×
    ((why ≡ InputTooLong) ⊎ (is_file_failure why ≡ true)) × AreFaultsOf names rest)

-- Only fault lines of some of the names are written, and the counted failures are those among these faults. `Writes`
-- says how the lines are written.
abbrev pub PrintsFaults : Tool → List (List ℕ) → ℕ → ℕ → (List ℕ → Type 0) → Type 0
PrintsFaults tool names failed failed' Writes =
    (faults : List NamedFault) × AreFaultsOf names faults
    × (failed' ≡ failures_of faults failed) × Writes (fault_lines tool faults)
