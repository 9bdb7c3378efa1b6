-- How jobs and their replies extend a history.
-- docs/PROMISES.md, "Histories"; the comment of Go's command cindex.
use Rattle.std.specs.Prelude.{◌≡◌, ℕ, Bool, true, false, nat_eq, if◌then◌else◌, List, None, map, string_bytes, length}
use Rattle.cs_tree.specs.PathSet.{Paths}
use Rattle.std.specs.List.{AllByRecursion, fold, zip}
use Rattle.cs_tree.specs.PathSet as set
use Rattle.cs_tree.specs.Snapshot.{Snapshot}
use Rattle.cs_tree.specs.Cover.{is_absolute}
use Rattle.cs_tree.specs.Clean.{clean_path}
use Rattle.cs_tree.specs.Cleaning.{clean_fault}
use Rattle.cs_history.specs.History.{History, nothing, ◌⊳◌, Update}
use Rattle.cs_args.specs.declared.jobs.IndexJob.{IndexJob}
use Rattle.cs_args.specs.declared.jobs.Reply.{Reply}
use Rattle.cs_args.specs.declared.jobs.Reply.TheVariants.{Done, Refused}

-- the current folder of the job is absolute
abbrev pub HasAbsoluteFolder : IndexJob → Type 0
HasAbsoluteFolder job = is_absolute (string_bytes job.cwd) ≡ true

-- ---- the paths of a job

-- the paths of the job, as given
abbrev pub given_texts : IndexJob → List (List ℕ)
given_texts job = map string_bytes job.paths.items

-- the set of the paths, each made absolute and clean
abbrev pub given_paths : IndexJob → Paths
given_paths job = set.from_list (map (λ text. clean_path (string_bytes job.cwd) text) (given_texts job))

abbrev pub has_no_path : IndexJob → Bool
has_no_path job = nat_eq (length job.paths.items) 0

-- all paths of the job can be cleaned
abbrev pub AreCleanable : IndexJob → Type 0
AreCleanable job = AllByRecursion (λ text. clean_fault (string_bytes job.cwd) text ≡ None) (given_texts job)

-- the paths of a job that succeeded can be cleaned; `-list` ignores its paths
abbrev pub IsFitting : IndexJob → Reply → Type 0
IsFitting job Done = job.list ≡ false → AreCleanable job
IsFitting job (Refused fault) = Unit {0}

-- ---- one job after another

-- the job over its tree
abbrev pub update_of : IndexJob → Snapshot → Update
update_of job tree = record { given = given_paths job; tree = tree }

-- after `-reset` the history has this job alone, and without paths it is empty
abbrev pub reset_history : IndexJob → Snapshot → History
reset_history job tree = if has_no_path job then nothing else update_of job tree ⊳ nothing

-- after a job that succeeded: `-list` adds nothing, `-reset` starts anew, any other job is added
abbrev pub after_done : History → IndexJob → Snapshot → History
after_done before job tree = if job.list then before else (if job.reset then reset_history job tree else update_of job tree ⊳ before)

-- a job that fails adds nothing
abbrev pub after : History → IndexJob → Snapshot → Reply → History
after before job tree Done = after_done before job tree
after before job tree (Refused fault) = before

-- jobs in order, each with its tree and its reply
abbrev pub history_after : History → List IndexJob → List Snapshot → List Reply → History
history_after before jobs trees replies =
    fold (λ so_far one. after so_far one.0 one.1.0 one.1.1) before (zip jobs (zip trees replies))
