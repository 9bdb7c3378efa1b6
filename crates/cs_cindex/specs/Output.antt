-- What a job prints. docs/PROMISES.md, "Jobs of cindex".
use Rattle.std.specs.Prelude.{◌≡◌, ◌≤◌, ◌^◌, ◌⊎◌, ℕ, List, [], ◌++◌, codes, Option, Some, None, Result, Ok, Err, Bool, true, false, flat_map}
use Rattle.cs_tree.specs.Snapshot.{Snapshot}
use Rattle.cs_tree.specs.Sinks.{SinkModel, Grows}
use Rattle.cs_tree.specs.Failures.{next_count}
use Rattle.cs_tree.specs.Folders.{IsTree}
use Rattle.cs_tree.specs.PathSet.{Paths}
use Rattle.cs_tree.specs.Reachability.{reachable_files}
use Rattle.cs_trigram.specs.Text.{limits, text_trigrams}
use Rattle.cs_index.specs.LeastLength.{least_length}
use Rattle.std.specs.FinMap as map'
use Rattle.cs_index.specs.Opening.{opening}
use Rattle.cs_index.specs.OpenedParts.{Parts}
use Rattle.cs_index.specs.declared.fault.IndexFault.{IndexFault}
use Rattle.cs_args.specs.declared.jobs.IndexJob.{IndexJob}
use Rattle.cs_args.specs.declared.jobs.Reply.{Reply}
use Rattle.cs_args.specs.declared.jobs.Reply.TheVariants.{Done, Refused}
use Rattle.cs_args.specs.declared.fault.CindexFault.{CindexFault}
use Rattle.cs_args.specs.declared.fault.CindexFault.TheVariants.{TooLarge, Write, Memory}
use Rattle.cs_tree.specs.TakesPrefix.{TakesPrefix}
use Rattle.cs_cindex.specs.Diagnostics.{PrintsLines, PrintsLinesPrefix}
use Rattle.cs_cindex.specs.Next.{paths_of_job}
use Rattle.cs_history.specs.JobKinds.{JobKind, lists, clears, walks}
use Rattle.cs_cindex.specs.Refusals.{base, early_walk_fault}

-- ---- the tree and the outputs

-- the tree of a job: its model, and its counted failures before and after the job
pub record JobTree : Type 0 where
  pub snapshot : Option Snapshot
  pub failed : ℕ
  pub failed_then : ℕ

-- the model of an output, and its counted failures
pub record Output : Type 0 where
  pub model : Option SinkModel
  pub failed : ℕ

-- of a tree before and after the job
abbrev pub job_tree : {T : Type 0} → (T → Option Snapshot) → (T → ℕ) → T → T → JobTree
job_tree snapshot failed tree then = record { snapshot = snapshot tree; failed = failed tree; failed_then = failed then }

-- of a sink
abbrev pub output : {S : Type 0} → (S → Option SinkModel) → (S → ℕ) → S → Output
output sink failed stream = record { model = sink stream; failed = failed stream }

-- ---- standard output

-- each path on a line
abbrev pub path_lines : List (List ℕ) → List ℕ
path_lines paths = flat_map (λ path. path ++ codes "\n") paths

abbrev pub paths_lines : Result Parts IndexFault → List ℕ
paths_lines (Ok parts) = path_lines parts.paths
paths_lines (Err fault) = []

abbrev pub index_lines : Option (List ℕ) → List ℕ
index_lines None = []
index_lines (Some bytes) = paths_lines (opening bytes)

-- `-list` prints the paths of the index, in its order
abbrev pub list_lines : JobKind → Option (List ℕ) → List ℕ
list_lines lists old = index_lines old
list_lines clears old = []
list_lines walks old = []

-- The output has all of these bytes, or a prefix of them if the job failed.
abbrev pub WritesBy : Reply → List ℕ → Option SinkModel → Option SinkModel → Type 0
WritesBy Done bytes sink later = Grows sink later bytes
WritesBy (Refused fault) bytes sink later = TakesPrefix bytes sink later

-- ---- standard error

-- a job that walks has printed the diagnostics of its walk and of its files
abbrev pub WalkPrints : IndexJob → JobTree → Option (List ℕ) → Output → Output → Type 0
WalkPrints job tree old err later =
    PrintsLines job.log_skip tree.snapshot (paths_of_job job old) tree.failed tree.failed_then err.model later.model

-- a prefix of them
abbrev pub WalkPrintsPrefix : IndexJob → JobTree → Option (List ℕ) → Output → Output → Type 0
WalkPrintsPrefix job tree old err later =
    PrintsLinesPrefix job.log_skip tree.snapshot (paths_of_job job old) tree.failed tree.failed_then err.model later.model

-- An index of the text files that a walk finds has 2^32 bytes, whatever is added: it need not be made to know that.
abbrev pub AreTooLarge : Option Snapshot → Paths → Type 0
AreTooLarge None paths = Unit {0}
AreTooLarge (Some tree) paths =
    IsTree tree → 2 ^ 32 ≤ least_length (map'.entries (reachable_files (text_trigrams limits) tree paths))

-- nothing was printed on standard error, and no call of the tree failed
abbrev pub IsSilent : JobTree → Output → Output → Type 0
IsSilent tree err later = Grows err.model later.model [] × (tree.failed_then ≡ tree.failed)

-- errors that may come while diagnostics are printed: `err` failed, out of memory, or text files that are too large for an index
abbrev pub IsMidway : CindexFault → Option Snapshot → Paths → Output → Output → Type 0
IsMidway Write tree paths err later = later.failed ≡ next_count err.failed
IsMidway Memory tree paths err later = Unit {0}
IsMidway TooLarge tree paths err later = AreTooLarge tree paths
IsMidway _ tree paths err later = ⊥

-- After an early error nothing was printed; after another error all diagnostics, or a prefix of them if it came
-- midway. So if `out` failed, which is flushed at the end, all of them were printed.
abbrev pub WalkPrintsSome : Option CindexFault → CindexFault → IndexJob → JobTree → Option (List ℕ) → Output →
    Output → Type 0
WalkPrintsSome None fault job tree old err later =
    WalkPrints job tree old err later
    ⊎ (IsMidway fault tree.snapshot (paths_of_job job old) err later × WalkPrintsPrefix job tree old err later)
WalkPrintsSome (Some early) fault job tree old err later = IsSilent tree err later

-- A read of the old index that fails comes before the walk, and nothing was printed, or after it, and all of its
-- diagnostics were printed.
pub data UnreadPrints (job : IndexJob) (tree : JobTree) (IsOld : Option (List ℕ) → Type 0) (err later : Output) : Type 0 where
  before : IsSilent tree err later → UnreadPrints job tree IsOld err later
  after :
      (paths : Paths) → ((old : Option (List ℕ)) → IsOld old → paths ≡ paths_of_job job old) →
      PrintsLines job.log_skip tree.snapshot paths tree.failed tree.failed_then err.model later.model →
      UnreadPrints job tree IsOld err later

-- the diagnostics of a job that walks, by its reply
abbrev pub WalkPrintsBy : Reply → IndexJob → JobTree → Option (List ℕ) → Output → Output → Type 0
WalkPrintsBy Done job tree old err later = WalkPrints job tree old err later
WalkPrintsBy (Refused fault) job tree old err later =
    WalkPrintsSome (early_walk_fault job old) fault job tree old err later

-- Only a job that walks prints on standard error.
abbrev pub JobPrintsBy : JobKind → Reply → IndexJob → JobTree → Option (List ℕ) → Output → Output → Type 0
JobPrintsBy lists reply job tree old err later = IsSilent tree err later
JobPrintsBy clears reply job tree old err later = IsSilent tree err later
JobPrintsBy walks reply job tree old err later = WalkPrintsBy reply job tree (base job old) err later

-- ---- outputs that fail

-- the error is a failed write
abbrev pub is_failed_write : CindexFault → Bool
is_failed_write Write = true
is_failed_write fault = false

-- the reply is a failed write
abbrev pub is_write_refusal : Reply → Bool
is_write_refusal Done = false
is_write_refusal (Refused fault) = is_failed_write fault
