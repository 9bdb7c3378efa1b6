-- What a walk answers, by its result.
use Rattle.std.proofs.Common.{◌≡◌, ◌⊎◌, ℕ, Bool, false, List, [], refl, sym, ap, subst, inl, inr, Option, Some, None, Result, Err, IsSomeAnd}
use Rattle.cs_cindex.proofs.Common.{BeginFileLinesIn, CindexFault, Entry, Memory, TooLarge, Write, IsIndexingFault, IsOutputFault, Output, Paths, PrintsFilesPrefix, SinkModel, Snapshot, count_if, is_failed_write, prefix_none}
use Rattle.cs_cindex.specs.Effects.{Effects, PrintsWalkPrefix}
use Rattle.cs_cindex.specs.IndexedFiles.{IndexesFiles, IsFileFailure}
use Rattle.cs_cindex.specs.WalkAnswers.{IndexesWalk, IsWalkFailure}
use Rattle.cs_cindex.proofs.DiagnosticLemmas.{Prefix-none}
use Rattle.cs_cindex.proofs.StoredIndexLemmas.{known_bytes}

-- ---- errors of a walk from some paths

memory_fits : Memory ≡ TooLarge → ⊥
memory_fits e = cc

write_fits : Write ≡ TooLarge → ⊥
write_fits e = cc

-- out of memory before anything is printed
pub nothing_walked : (log_skip : Bool) (paths : Paths) (tree : Option Snapshot) (n n' : ℕ) (err : Output) →
    IsWalkFailure log_skip paths
    (record { tree = record { snapshot = tree; failed = n; failed_then = n' }; err = err; later = err }) Memory
nothing_walked log_skip paths tree n n' err =
    (tt, (λ e. absurd (memory_fits e)), (λ e. absurd (memory_fits e)), Prefix-none log_skip paths tree n n' err.model)

-- an error of an output, or out of memory
pub output_failure : (log_skip : Bool) (paths : Paths) (to : Effects) (fault : CindexFault) → IsOutputFault fault →
    PrintsWalkPrefix log_skip paths to → IsWalkFailure log_skip paths to fault
output_failure log_skip paths to Write only prefix =
    (tt, (λ e. absurd (write_fits e)), (λ e. absurd (write_fits e)), prefix)
output_failure log_skip paths to Memory only prefix =
    (tt, (λ e. absurd (memory_fits e)), (λ e. absurd (memory_fits e)), prefix)
output_failure log_skip paths to _ only prefix = absurd only

pub end_fault : (fault : CindexFault) → (fault ≡ TooLarge) ⊎ (fault ≡ Memory) → IsIndexingFault fault
end_fault fault why = elim why [
  | inl is ↦ subst IsIndexingFault (sym is) tt
  | inr is ↦ subst IsIndexingFault (sym is) tt
]

pub end_written : (fault : CindexFault) → (fault ≡ TooLarge) ⊎ (fault ≡ Memory) → is_failed_write fault ≡ false
end_written fault why = elim why [ inl is ↦ ap is_failed_write is | inr is ↦ ap is_failed_write is ]

-- an error that is passed on
module _ {A : Type 0} (bytes_of : A → List ℕ) (log_skip : Bool) (paths : Paths) (to : Effects) where
  pub walk_failed : (r : Result A CindexFault) (fault was : CindexFault) → r ≡ Err fault → fault ≡ was →
      IsWalkFailure log_skip paths to was → to.later.failed ≡ count_if (is_failed_write was) to.err.failed →
      IndexesWalk r bytes_of log_skip paths to
  walk_failed r fault was is same failure counted =
      subst (λ (x : Result A CindexFault). IndexesWalk x bytes_of log_skip paths to) (sym is)
      (subst (λ (f : CindexFault). IndexesWalk (Err f) bytes_of log_skip paths to) (sym same) (failure, counted))

-- ---- errors of files

pub no_file_walked : (log_skip : Bool) (tree : Option Snapshot) (names : List (List ℕ)) (n : ℕ) (sink : Option SinkModel) →
    PrintsFilesPrefix log_skip tree names n n sink sink
no_file_walked log_skip tree names n sink =
    record { lines = []; due = by_tree tree; counted = refl; prefix = prefix_none [] sink }
  where
    by_tree : (tree : Option Snapshot) → BeginFileLinesIn log_skip tree names []
    by_tree None = tt
    by_tree (Some tree) = λ storable. refl

-- out of memory
pub memory_failure : (log_skip : Bool) (names : List (List ℕ)) (to : Effects) →
    PrintsFilesPrefix log_skip to.tree.snapshot names to.tree.failed to.tree.failed_then to.err.model to.later.model →
    IsFileFailure log_skip names to Memory
memory_failure log_skip names to prefix = (tt, (λ e. absurd (memory_fits e)), prefix)

-- an error that is passed on
module _ {A : Type 0} (log_skip : Bool) (names : List (List ℕ)) (entries : List Entry) (to : Effects) where
  pub files_failed : (r : Result A CindexFault) (fault was : CindexFault) → r ≡ Err fault → fault ≡ was →
      IsFileFailure log_skip names to was → to.later.failed ≡ count_if (is_failed_write was) to.err.failed →
      IndexesFiles log_skip names entries to r
  files_failed r fault was is same failure counted =
      subst (λ (x : Result A CindexFault). IndexesFiles log_skip names entries to x) (sym is)
      (subst (λ (f : CindexFault). IndexesFiles {A = A} log_skip names entries to (Err f)) (sym same) (failure, counted))

-- ---- an index whose bytes are known

pub over_bytes : (P : Option (List ℕ) → Type 0) (model : Option (List ℕ)) → ((bytes : List ℕ) → model ≡ Some bytes → P (Some bytes)) →
    (index : Option (List ℕ)) → IsSomeAnd model (λ bytes. index ≡ Some bytes) → P index
over_bytes P model f index is =
    let k = known_bytes model index is in
    subst P (sym k.index_is) (f k.bytes k.model_is)
