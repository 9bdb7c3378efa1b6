-- Why a job fails, for any bytes of the old index.
-- docs/PROMISES.md, "Jobs of cindex"; the comment of Go's command cindex.
use Rattle.std.specs.Prelude.{◌≡◌, ◌⊎◌, ℕ, false, not, if◌then◌else◌, List, Option, Some, None, option_map, Result, Ok, Err, string_bytes, IsOkAnd}
use Rattle.cs_tree.specs.Folders.{are_distinct}
use Rattle.std.specs.List.{list_all}
use Rattle.std.specs.Option.{option_or}
use Rattle.cs_tree.specs.Cleaning.{is_normalized}
use Rattle.cs_tree.specs.Snapshot.{Snapshot}
use Rattle.cs_index.specs.Opening.{opening}
use Rattle.cs_index.specs.OpenedParts.{Parts, are_whole}
use Rattle.cs_index.specs.declared.fault.IndexFault.{IndexFault}
use Rattle.cs_index.specs.declared.fault.IndexFault.TheVariants.{BadPaths, BadList}
use Rattle.cs_args.specs.Faults.{index_refusal}
use Rattle.cs_args.specs.declared.jobs.IndexJob.{IndexJob}
use Rattle.cs_args.specs.declared.jobs.Reply.{Reply}
use Rattle.cs_args.specs.declared.jobs.Reply.TheVariants.{Done, Refused}
use Rattle.cs_args.specs.declared.fault.CindexFault.{CindexFault}
use Rattle.cs_args.specs.declared.fault.CindexFault.TheVariants.{NoIndex, BadIndex, Unsorted, TooLarge, BadPath, Write, Memory}
use Rattle.cs_history.specs.Jobs.{given_texts, has_no_path}
use Rattle.cs_history.specs.JobKinds.{JobKind, lists, clears, walks, job_kind}
use Rattle.cs_history.specs.Replies.{first_bad}
use Rattle.cs_cindex.specs.Next.{IsNextLong, IsOwnIndex}

-- the base index of a job that walks: the old index, or none with `-reset`
abbrev pub base : IndexJob → Option (List ℕ) → Option (List ℕ)
base job old = if job.reset then None else old

-- ---- before anything is printed

-- the error that a test of an opened index gives; an index that does not open is bad
abbrev pub opening_fault : (Parts → Option CindexFault) → Result Parts IndexFault → Option CindexFault
opening_fault test (Ok parts) = test parts
opening_fault test (Err fault) = Some (index_refusal fault)

-- An index cannot be a base if one of its paths is not normalized, or if it has a name twice.
abbrev pub unfit_parts_fault : Parts → Option CindexFault
unfit_parts_fault parts =
    if not (list_all is_normalized parts.paths) then Some (BadIndex BadPaths)
    else (if not (are_distinct parts.names) then Some Unsorted else None)

-- `-list` needs an index that opens.
abbrev pub list_fault : Option (List ℕ) → Option CindexFault
list_fault None = Some NoIndex
list_fault (Some bytes) = opening_fault (λ _. None) (opening bytes)

-- A job without paths needs a base index.
abbrev pub base_fault : IndexJob → Option (List ℕ) → Option CindexFault
base_fault job None = if has_no_path job then Some NoIndex else None
base_fault job (Some bytes) = opening_fault unfit_parts_fault (opening bytes)

-- the error of a job before it walks: that of its paths, then that of the base index
abbrev pub early_walk_fault : IndexJob → Option (List ℕ) → Option CindexFault
early_walk_fault job old =
    option_or (option_map (λ path_index. BadPath path_index) (first_bad (string_bytes job.cwd) (given_texts job)))
    (base_fault job old)

-- the error of a job before it prints anything
abbrev pub early_fault_of : JobKind → IndexJob → Option (List ℕ) → Option CindexFault
early_fault_of lists job old = list_fault old
early_fault_of clears job old = None
early_fault_of walks job old = early_walk_fault job (base job old)

abbrev pub early_fault : IndexJob → Option (List ℕ) → Option CindexFault
early_fault job old = early_fault_of (job_kind job) job old

-- ---- later

-- an output failed, or out of memory
abbrev pub IsOutputFault : CindexFault → Type 0
IsOutputFault Write = Unit {0}
IsOutputFault Memory = Unit {0}
IsOutputFault _ = ⊥

-- some list of the index is damaged
abbrev pub IsDamaged : Option (List ℕ) → Type 0
IsDamaged None = ⊥
IsDamaged (Some bytes) = IsOkAnd (opening bytes) (λ parts. are_whole parts ≡ false)

-- A job that built its own index fails because a list of the base index is damaged.
pub record IsDamageFault (job : IndexJob) (tree : Option Snapshot) (old : Option (List ℕ))
    (fault : IndexFault) : Type 0 where
  pub is : fault ≡ BadList
  pub damaged : IsDamaged old
  pub own : List ℕ
  pub own_is : IsOwnIndex job tree old own

-- A job that walks also fails if a list of the base index is damaged, or if the index is too large.
abbrev pub IsWalkFault : IndexJob → Option Snapshot → Option (List ℕ) → CindexFault → Type 0
IsWalkFault job tree old (BadIndex fault) = IsDamageFault job tree old fault
IsWalkFault job tree old TooLarge = IsNextLong job tree old
IsWalkFault job tree old Write = Unit {0}
IsWalkFault job tree old Memory = Unit {0}
IsWalkFault job tree old NoIndex = ⊥
IsWalkFault job tree old Unsorted = ⊥
IsWalkFault job tree old (BadPath path_index) = ⊥

abbrev pub IsLateFault : JobKind → IndexJob → Option Snapshot → Option (List ℕ) → CindexFault → Type 0
IsLateFault lists job tree old fault = IsOutputFault fault
IsLateFault clears job tree old fault = IsOutputFault fault
IsLateFault walks job tree old fault = IsWalkFault job tree (base job old) fault

-- ---- replies

-- A job with an early error fails with that error, unless an allocation fails before.
abbrev pub IsEarly : CindexFault → CindexFault → Type 0
IsEarly NoIndex fault = fault ≡ NoIndex
IsEarly early fault = (fault ≡ early) ⊎ (fault ≡ Memory)

abbrev pub EarlyOr : Option CindexFault → Type 0 → CindexFault → Type 0
EarlyOr None late fault = late
EarlyOr (Some early) late fault = IsEarly early fault

-- A job with an early error does not succeed, and each error has its cause.
abbrev pub HasCause : IndexJob → Option Snapshot → Option (List ℕ) → Reply → Type 0
HasCause job tree old Done = early_fault job old ≡ None
HasCause job tree old (Refused fault) =
    EarlyOr (early_fault job old) (IsLateFault (job_kind job) job tree old fault) fault
