-- The paths of a job that walks, and their errors.
use Rattle.std.specs.Prelude.{◌≡◌, ◌≢◌, ℕ, true, List, [], ◌∷◌, map, Some, None, is_some, string_bytes}
use Rattle.cs_tree.specs.Clean.{clean_path}
use Rattle.cs_tree.specs.Cleaning.{clean_fault}
use Rattle.cs_tree.specs.Cover.{least}
use Rattle.cs_tree.specs.PathSet as set
use Rattle.cs_tree.specs.PathSet.{Paths}
use Rattle.cs_args.specs.declared.jobs.IndexJob.{IndexJob}
use Rattle.cs_args.specs.declared.fault.CindexFault.{CindexFault}
use Rattle.cs_args.specs.declared.fault.CindexFault.TheVariants.{BadPath, Memory}
use Rattle.cs_history.specs.Jobs.{given_texts}
use Rattle.cs_history.specs.Replies.{first_bad}

-- ---- the paths

-- why a text cannot be cleaned
abbrev pub IsCleanFault : List ℕ → List ℕ → ℕ → CindexFault → Type 0
IsCleanFault folder text path_index (BadPath at) = (at ≡ path_index) × (is_some (clean_fault folder text) ≡ true)
IsCleanFault folder text path_index Memory = Unit {0}
IsCleanFault folder text path_index _ = ⊥

-- why texts cannot be cleaned: the first text with an error, or out of memory if there is a text
abbrev pub AreCleanFault : List ℕ → List (List ℕ) → CindexFault → Type 0
AreCleanFault folder given_texts (BadPath path_index) = first_bad folder given_texts ≡ Some path_index
AreCleanFault folder given_texts Memory = given_texts ≢ []
AreCleanFault folder given_texts _ = ⊥

-- the cleaned paths of the job
pub record AreCleaned (job : IndexJob) (given : List (List ℕ)) : Type 0 where
  pub are : given ≡ map (λ text. clean_path (string_bytes job.cwd) text) (given_texts job)
  pub none_bad : first_bad (string_bytes job.cwd) (given_texts job) ≡ None

-- the paths at which a walk starts: the job's own, or, if it has none, those of the index
abbrev pub starts : List (List ℕ) → List (List ℕ) → List (List ℕ)
starts [] recorded = recorded
starts (path ∷ given) recorded = path ∷ given

-- the same, without those that another one covers
abbrev pub walk_starts : List (List ℕ) → List (List ℕ) → Paths
walk_starts given recorded = least (set.from_list (starts given recorded))
