-- Why a job fails, if the index is that of a history.
-- docs/PROMISES.md, "Refusals of cindex".
use Rattle.std.specs.Prelude.{◌≡◌, ◌≢◌, ◌≤◌, ◌^◌, ◌⊎◌, ◌↔◌, ℕ, true, false, if◌then◌else◌, List, [], ◌∷◌, length, position, Option, Some, None, is_some, string_bytes}
use Rattle.std.specs.List.{zip}
use Rattle.cs_tree.specs.Cleaning.{clean_fault}
use Rattle.cs_tree.specs.Snapshot.{Snapshot}
use Rattle.cs_index.specs.declared.fault.IndexFault.{IndexFault}
use Rattle.cs_history.specs.History.{History, nothing, index_of}
use Rattle.cs_history.specs.JobIndex.{update_index}
use Rattle.cs_history.specs.Jobs.{given_texts, has_no_path, update_of, after_done, after}
use Rattle.cs_history.specs.JobKinds.{Walks}
use Rattle.cs_args.specs.declared.jobs.IndexJob.{IndexJob}
use Rattle.cs_args.specs.declared.fault.CindexFault.TheVariants.{NoIndex, BadIndex, Unsorted, TooLarge, BadPath}
use Rattle.cs_args.specs.declared.jobs.Reply.{Reply}
use Rattle.cs_args.specs.declared.jobs.Reply.TheVariants.{Done, Refused}

-- ---- causes

-- the job reads the paths of the index: `-list`, or no path and no `-reset`
abbrev pub NeedsIndex : IndexJob → Type 0
NeedsIndex job = (job.list ≡ true) ⊎ ((job.reset ≡ false) × (has_no_path job ≡ true))

-- the index of the first path that cannot be cleaned
abbrev pub first_bad : List ℕ → List (List ℕ) → Option ℕ
first_bad folder given_texts = position (λ text. is_some (clean_fault folder text)) given_texts

-- this path is the first that cannot be cleaned; `-list` ignores its paths
pub record IsFirstBad (job : IndexJob) (path_index : ℕ) : Type 0 where
  pub unlisted : job.list ≡ false
  pub first : first_bad (string_bytes job.cwd) (given_texts job) ≡ Some path_index

-- the index of what the job finds
abbrev pub own_index : History → IndexJob → Snapshot → List ℕ
own_index before job tree =
    update_index (update_of job tree) (if job.reset then nothing else before)

-- the index has 2^32 bytes or more
abbrev pub IsLong : Option (List ℕ) → Type 0
IsLong None = ⊥
IsLong (Some bytes) = 2 ^ 32 ≤ length bytes

-- the job walks, and its own index or the index after it has 2^32 bytes or more
pub record IsTooLarge (before : History) (job : IndexJob) (tree : Snapshot) : Type 0 where
  pub walks : Walks job
  pub long : IsLong (Some (own_index before job tree)) ⊎ IsLong (index_of (after_done before job tree))

-- ---- replies

-- Each error has its cause, and a job that is too large does not succeed. The index of a history is never bad, and
-- no name occurs twice in it.
pub record IsRightReply (before : History) (job : IndexJob) (tree : Snapshot) (reply : Reply) : Type 0 where
  pub no_index : (reply ≡ Refused NoIndex) ↔ ((before ≡ nothing) × NeedsIndex job)
  pub bad_path : (path_index : ℕ) → reply ≡ Refused (BadPath path_index) → IsFirstBad job path_index
  pub too_large : reply ≡ Refused TooLarge → IsTooLarge before job tree
  pub fits : reply ≡ Done → IsTooLarge before job tree → ⊥
  pub bad_index : (fault : IndexFault) → reply ≢ Refused (BadIndex fault)
  pub unsorted : reply ≢ Refused Unsorted

-- jobs in order, each with its tree and a reply that is right after the jobs before it
abbrev pub AreRightAfter : History → List (IndexJob × (Snapshot × Reply)) → Type 0
AreRightAfter before [] = Unit {0}
AreRightAfter before (one ∷ more) =
    IsRightReply before one.0 one.1.0 one.1.1 × AreRightAfter (after before one.0 one.1.0 one.1.1) more

abbrev pub AreRightReplies : History → List IndexJob → List Snapshot → List Reply → Type 0
AreRightReplies before jobs trees replies = AreRightAfter before (zip jobs (zip trees replies))
