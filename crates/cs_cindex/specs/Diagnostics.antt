-- The diagnostics of indexing: one for each path that a walk could not read, in path order, then one for each skipped
-- file, in name order. docs/PROMISES.md, "Jobs of cindex"; docs/FORMAT.md, "Which files are text".
use Rattle.std.specs.Prelude.{◌≡◌, ◌≢◌, ℕ, Bool, false, if◌then◌else◌, List, [], ◌∷◌, ◌++◌, map, filter_map, take, length, Option, Some, None, Result, Ok, Err, flat_map}
use Rattle.cs_args.specs.SkipLines.{skip_line_of}
use Rattle.cs_tree.specs.TreeAnswers.{opening_of}
use Rattle.cs_tree.specs.Folders.{IsTree}
use Rattle.cs_tree.specs.PathSet.{Paths}
use Rattle.cs_args.specs.FileFaults.{fault_line_of, file_fault_of, is_file_failure}
use Rattle.cs_trigram.specs.Scans.{ScanOutcome, scan_outcome, text, skipped_for, read_failed}
use Rattle.cs_tree.specs.Failures.{count_if}
use Rattle.cs_tree.specs.Snapshot.{Snapshot, item_at}
use Rattle.cs_tree.specs.StreamModels.{SourceModel}
use Rattle.cs_tree.specs.Sinks.{Grows, SinkModel}
use Rattle.cs_tree.specs.TakesPrefix.{TakesPrefix}
use Rattle.cs_tree.specs.Walks.{FaultEntry, Finds}
use Rattle.cs_tree.specs.declared.fault.TreeFault.{TreeFault}
use Rattle.cs_tree.specs.declared.walking.WalkFault.{WalkFault}
use Rattle.cs_tree.specs.declared.walking.WalkFault.TheVariants as walk
use Rattle.cs_trigram.specs.Text.{limits}
use Rattle.cs_trigram.specs.declared.scan.Reason.{Reason}
use Rattle.cs_args.specs.declared.jobs.Tool.TheVariants.{Cindex}
use Rattle.cs_args.specs.declared.fault.FileFault.{FileFault}
use Rattle.cs_args.specs.declared.fault.FileFault.TheVariants.{Failed, Unnamed, PathTooLong}

-- ---- diagnostics

-- a path or a file has a fault, or a file is not text
pub data Diagnostic : Type 0 where
  faulted : (name : List ℕ) (why : FileFault) → Diagnostic
  skipped : (name : List ℕ) (reason : Reason) → Diagnostic

unfoldable pub line_text : Diagnostic → List ℕ
line_text (faulted name why) = fault_line_of Cindex name why
line_text (skipped name reason) = skip_line_of name reason

abbrev pub text_of : List Diagnostic → List ℕ
text_of lines = flat_map line_text lines

-- ---- of a walk

-- the fault of a path in a walk, as that of a file
abbrev pub walk_fault : WalkFault → FileFault
walk_fault (walk.Tree fault) = file_fault_of fault
walk_fault walk.Unnamed = Unnamed
walk_fault walk.TooLong = PathTooLong

abbrev pub fault_entry_line : FaultEntry → Diagnostic
fault_entry_line left = faulted left.0 (walk_fault left.1)

-- ---- of files

-- for a scan: a fault is always reported, a non-text file only with `-logskip`
abbrev pub finding_line : Bool → List ℕ → ScanOutcome → Option Diagnostic
finding_line log_skip name (text trigrams bytes) = None
finding_line log_skip name (skipped_for reason) = if log_skip then Some (skipped name reason) else None
finding_line log_skip name read_failed = Some (faulted name Failed)

abbrev pub opening_line : Bool → List ℕ → Result SourceModel TreeFault → Option Diagnostic
opening_line log_skip name (Ok model) = finding_line log_skip name (scan_outcome limits model)
opening_line log_skip name (Err fault) = Some (faulted name (file_fault_of fault))

-- for the item at a name
unfoldable pub file_line : Bool → Snapshot → List ℕ → Option Diagnostic
file_line log_skip tree name = opening_line log_skip name (opening_of (item_at tree name))

-- ---- of a job

-- for the names and the faults that a walk finds
abbrev pub lines_for : Bool → Snapshot → List (List ℕ) → List FaultEntry → List Diagnostic
lines_for log_skip tree names faults = map fault_entry_line faults ++ filter_map (file_line log_skip tree) names

-- These are the diagnostics of a job that walks from these paths.
pub record AreLines (log_skip : Bool) (tree : Snapshot) (paths : Paths) (lines : List Diagnostic) : Type 0 where
  pub names : List (List ℕ)
  pub faults : List FaultEntry
  pub finds : Finds tree paths names faults
  pub are : lines ≡ lines_for log_skip tree names faults

-- the same, if the tree is modelled
abbrev pub AreLinesIn : Bool → Option Snapshot → Paths → List Diagnostic → Type 0
AreLinesIn log_skip None paths lines = Unit {0}
AreLinesIn log_skip (Some tree) paths lines = IsTree tree → AreLines log_skip tree paths lines

-- a prefix of them
abbrev pub BeginLinesIn : Bool → Option Snapshot → Paths → List Diagnostic → Type 0
BeginLinesIn log_skip None paths lines = Unit {0}
BeginLinesIn log_skip (Some tree) paths lines =
    IsTree tree → (all : List Diagnostic) → AreLines log_skip tree paths all → lines ≡ take (length lines) all

-- ---- reported failures

-- the diagnostic reports a failed call
abbrev pub is_failure_line : Diagnostic → Bool
is_failure_line (faulted name why) = is_file_failure why
is_failure_line (skipped name reason) = false

-- the count after the failures that diagnostics report, one each
abbrev pub failures_in : List Diagnostic → ℕ → ℕ
failures_in [] n = n
failures_in (line ∷ lines) n = failures_in lines (count_if (is_failure_line line) n)

-- ---- what was printed

-- Exactly the diagnostics were printed, and each counted failure is reported by one of them.
pub record PrintsLines (log_skip : Bool) (tree : Option Snapshot) (paths : Paths) (failed failed' : ℕ)
    (sink sink' : Option SinkModel) : Type 0 where
  pub lines : List Diagnostic
  pub due : AreLinesIn log_skip tree paths lines
  pub counted : failed' ≡ failures_in lines failed
  pub grows : Grows sink sink' (text_of lines)

-- The same for a prefix of the diagnostics and of their text. If there are none, a walk that failed may have counted
-- failures.
pub record PrintsLinesPrefix (log_skip : Bool) (tree : Option Snapshot) (paths : Paths) (failed failed' : ℕ)
    (sink sink' : Option SinkModel) : Type 0 where
  pub lines : List Diagnostic
  pub due : BeginLinesIn log_skip tree paths lines
  pub counted : lines ≢ [] → failed' ≡ failures_in lines failed
  pub prefix : TakesPrefix (text_of lines) sink sink'
