-- The two halves of an update.
use Rattle.std.specs.Prelude.{◌≡◌, ℕ, List, [], ◌∷◌, ◌++◌, Option, Some, None, IfOk, IfErr, Result, Ok, Err}
use Rattle.cs_storage.specs.declared.folder.StorageFault.{StorageFault}
use Rattle.cs_storage.specs.Storing.{Folder, Left, FillsOwn, Fails, left_whole, whole, IsFree}

-- What a crash may leave has this outcome more.
abbrev pub LeavesAlso : Left → Folder → Folder → Type 0
LeavesAlso left old new =
    (new.since ≡ old.since ++ left ∷ []) × (new.now ≡ old.now ++ left ∷ []) × (new.added ≡ old.added ++ left ∷ [])

-- FILE gets these bytes, or is removed
pub record Replaces (wanted : Option (List ℕ)) (result : Result (Unit {0}) StorageFault) (old new : Folder) : Type 0 where
  pub file : IfOk result (λ _. new.file ≡ wanted)
  pub was_seen : IfOk result (λ _. old.seen ≡ Some (Ok old.file))
  pub replaced : IfOk result (λ _. new.replaced ≡ Some old.file)
  pub crash : IfOk result (λ _. LeavesAlso (left_whole wanted) old new)
  pub error : IfErr result (λ fault. Fails fault old new)
  pub seen : new.seen ≡ old.seen
  pub free : IsFree old new

-- FILE~, with these bytes, is synced and renamed to FILE; on error it stays held
abbrev pub RenamesSynced : List ℕ → Result (Unit {0}) StorageFault → Folder → Folder → Type 0
RenamesSynced bytes (Ok _) old new = (old.seen ≡ Some (Ok old.file)) × (new ≡ record old {
  file = Some bytes;
  own = None;
  now = old.now ++ whole bytes ∷ [];
  since = old.since ++ whole bytes ∷ [];
  replaced = Some old.file;
  added = old.added ++ whole bytes ∷ [];
  refused = None;
})
RenamesSynced bytes (Err fault) old new = FillsOwn (record old { refused = Some fault }) new
