-- What the program does once the index file is opened.
use Rattle.std.specs.Prelude.{◌≡◌, ℕ, Bool, true, List, Option, Some, None, IfSome, if◌then◌else◌}
use Rattle.cs_storage.specs.Storing.{Folder, Moves, IsFree, IsRefusedBy, LeavesAsked}
use Rattle.cs_storage.specs.declared.folder.StorageFault.TheVariants.{Failed}
use Rattle.cs_storage.specs.declared.update.IndexUpdate.{IndexUpdate}
use Rattle.codesearch.specs.Program.{IndexFile, Surroundings, Runs, may_update, update_of}
use Rattle.codesearch.specs.Execution.{ReplacesFile, Stores, EndsWith}
use Rattle.codesearch.specs.declared.call.Call.{Call}
use Rattle.codesearch.specs.declared.outcome.Outcome.{Outcome}

-- FILE is updated, and what was opened stays what was opened.
pub record StoresOpened (update : IndexUpdate) (old new : Folder) : Type 0 where
  pub seen : new.seen ≡ old.seen
  pub stores : Stores update old new

-- A claimed FILE is updated from what was opened, a crash leaves what one before might have left or what is asked, whole, and
-- FILE~ is given back.
pub record Finishes (update : IndexUpdate) (old new : Folder) : Type 0 where
  pub seen : new.seen ≡ old.seen
  pub file : ReplacesFile update old new
  pub crash : LeavesAsked update old new
  pub free : IsFree old new

-- The job runs over the opened index, and the file is updated. `HasFailed` says whether a read of the index failed.
pub record ExecutesOpened (call : Call) (name temp : List ℕ) (IsIndex : Option (List ℕ) → Type 0) (HasFailed : Bool → Type 0)
    (before after : Option Folder) (old new : Surroundings) (outcome : Outcome) : Type 0 where
  pub file : IndexFile
  pub names : (file.name ≡ name) × (file.temp ≡ temp)
  pub read : (failed : Bool) × HasFailed failed × (file.unreadable ≡ (if failed then Some Failed else None))
  pub claimed : IfSome file.unclaimed (λ fault. (may_update call.job ≡ true) × IsRefusedBy fault after)
  pub job : Outcome
  pub runs : Runs call.given.now file IsIndex old new job
  pub ends : EndsWith name temp after job outcome
  pub stores : Moves (StoresOpened (update_of outcome)) before after
