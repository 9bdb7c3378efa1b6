-- What the program does over the index file in a folder: it opens the file, claims it if the job may update it, does the
-- job, and updates the file. docs/PROMISES.md, "The program".
use Rattle.std.specs.Prelude.{◌≡◌, ℕ, nat_lt, List, Option, Some, None, true, IfSome, IsSomeAnd, Result, Ok, Err, ◌⊎◌, if◌then◌else◌}
use Rattle.cs_args.specs.declared.jobs.Tool.{Tool}
use Rattle.cs_args.specs.declared.jobs.Tool.TheVariants.{Cgrep}
use Rattle.cs_storage.specs.FileAfter.{file_after, IsChange}
use Rattle.cs_storage.specs.Storing.{Folder, Moves, IsFree, IsRefusedBy, left_after}
use Rattle.cs_storage.specs.declared.folder.StorageFault.{StorageFault}
use Rattle.cs_storage.specs.declared.folder.StorageFault.TheVariants.{Failed}
use Rattle.cs_storage.specs.declared.update.IndexUpdate.{IndexUpdate}
use Rattle.cs_storage.specs.declared.update.IndexUpdate.TheVariants.{Keep}
use Rattle.codesearch.specs.Program.{IndexFile, Surroundings, Runs, Refuses, may_update, update_of, writing_line}
use Rattle.codesearch.specs.declared.call.Call.{Call}
use Rattle.codesearch.specs.declared.outcome.Outcome.{Outcome}

-- The index of a run is what stood at FILE when it was opened; `cgrep` opens none.
abbrev pub IsReadIndex : Tool → Option Folder → Option (List ℕ) → Type 0
IsReadIndex Cgrep folder index = index ≡ None
IsReadIndex _ folder index = IsSomeAnd folder (λ folder. folder.seen ≡ Some (Ok index))

-- this run changes nothing at FILE
abbrev pub LeavesFile : Folder → Folder → Type 0
LeavesFile old new = new.replaced ≡ old.replaced

-- What stood at FILE was what this run had read, and FILE is now what the update makes of it.
abbrev pub ReplacesFile : IndexUpdate → Folder → Folder → Type 0
ReplacesFile Keep old new = LeavesFile old new
ReplacesFile update old new = (index : Option (List ℕ)) × (new.seen ≡ Some (Ok index)) × (new.replaced ≡ Some index)
    × (new.file ≡ file_after update index)

-- FILE is updated, a crash at any moment leaves what would be there without this run or what is asked, whole, and FILE~ is
-- not left behind.
pub record Stores (update : IndexUpdate) (old new : Folder) : Type 0 where
  pub file : ReplacesFile update old new
  pub crash : new.added ≡ left_after update old.added
  pub free : old.own ≡ None → IsFree old new

-- A run ends as its job does. If the index file cannot be updated after a job that is done, it ends with the line of the
-- call that failed.
abbrev pub EndsWith : List ℕ → List ℕ → Option Folder → Outcome → Outcome → Type 0
EndsWith name temp after job outcome = (outcome ≡ job)
    ⊎ ((fault : StorageFault) × IsRefusedBy fault after × IsChange (update_of job)
    × Refuses outcome (writing_line name temp fault))

-- how many reads of the opened index file failed
abbrev pub failed_reads : {S : Type 0} → (S → ℕ) → Option S → ℕ
failed_reads failed None = 0
failed_reads failed (Some store) = failed store

-- The index file was opened, and so many reads of it failed; this is why it is unreadable, if it is.
abbrev pub WasOpened : Option (Result (Option (List ℕ)) StorageFault) → ℕ → Option StorageFault → Type 0
WasOpened None failed unreadable = ⊥
WasOpened (Some (Ok None)) failed unreadable = unreadable ≡ None
WasOpened (Some (Ok (Some index))) failed unreadable = unreadable ≡ (if nat_lt 0 failed then Some Failed else None)
WasOpened (Some (Err fault)) failed unreadable = unreadable ≡ Some fault

-- Why the index file of a run is unreadable, if it is; `cgrep` opens none.
abbrev pub IsOpening : Tool → Option Folder → ℕ → Option StorageFault → Type 0
IsOpening Cgrep folder failed unreadable = unreadable ≡ None
IsOpening _ folder failed unreadable = IfSome folder (λ folder. WasOpened folder.seen failed unreadable)

-- What the program does between two moments of the folder and of the other surroundings. So many reads of the opened index
-- file failed.
pub record Executes (call : Call) (name temp : List ℕ) (before after : Option Folder) (failed : ℕ) (old new : Surroundings)
    (outcome : Outcome) : Type 0 where
  pub file : IndexFile
  pub names : (file.name ≡ name) × (file.temp ≡ temp)
  pub opened : IsOpening call.tool after failed file.unreadable
  pub claimed : IfSome file.unclaimed (λ fault. (may_update call.job ≡ true) × IsRefusedBy fault after)
  pub job : Outcome
  pub runs : Runs call.given.now file (IsReadIndex call.tool after) old new job
  pub ends : EndsWith name temp after job outcome
  pub stores : Moves (Stores (update_of outcome)) before after
