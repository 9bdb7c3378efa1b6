-- Storing the index file so that no crash damages it and no other run's work is lost.
--
-- A run writes the new index to FILE~, which it makes beside FILE and locks, and then renames FILE~ to FILE. Every run
-- changes FILE only while it holds FILE~; so while a run holds FILE~, FILE changes by its own calls alone, and while
-- it does not, FILE may be anything after each call.
-- docs/PROMISES.md, "Storing"; docs/DECISIONS.md, "The index file".
use Rattle.std.specs.Prelude.{◌≡◌, ◌⊎◌, ℕ, Bool, true, false, List, [], ◌∷◌, ◌++◌, Option, Some, None, IsSome, IsSomeAnd, IfSome, MatchOption, IfOk, IfErr, Result, Ok, Err, if◌then◌else◌}
use Rattle.cs_tree.specs.Failures.{next_count}
use Rattle.cs_storage.specs.declared.folder.StorageFault.{StorageFault}
use Rattle.cs_storage.specs.declared.folder.StorageFault.TheVariants.{Failed}
use Rattle.cs_storage.specs.declared.update.IndexUpdate.{IndexUpdate}
use Rattle.cs_storage.specs.declared.update.IndexUpdate.TheVariants.{Keep, Write, Remove}
use Rattle.cs_storage.specs.FileAfter.{file_after, IsChange}

-- what a crash may leave at FILE: no file, a file with exactly these bytes, or a file with any bytes
pub data Left : Type 0 where
  absent : Left
  whole : (bytes : List ℕ) → Left
  torn : Left

-- FILE~, made and locked by this run: its bytes, and whether they are synced
pub record OwnFile : Type 0 where
  pub bytes : List ℕ
  pub synced : Bool

-- The index file and its surroundings at one moment.
pub record Folder : Type 0 where
  -- the bytes at FILE, if there is a file
  pub file : Option (List ℕ)
  -- what stood at FILE when this run opened it, or why it could not be opened; none before
  pub seen : Option (Result (Option (List ℕ)) StorageFault)
  -- FILE~, if this run holds it
  pub own : Option OwnFile
  -- what a crash at this moment may leave at FILE
  pub now : List Left
  -- what a crash at some moment since this run made FILE~ may have left there
  pub since : List Left
  -- how often FILE~ could not be taken away
  pub stuck : ℕ
  -- what this run replaced at FILE when it last changed FILE, if it did
  pub replaced : Option (Option (List ℕ))
  -- what the changes of FILE by this run have added to what a crash may leave there
  pub added : List Left
  -- why the last call failed that was to make, sync, rename or remove a file, or to find FILE unchanged; none if it succeeded
  pub refused : Option StorageFault

-- ---- the calls of a folder

-- A call leads from one moment to another. An unmodelled folder stays unmodelled, and nothing is said of it.
abbrev pub Moves : (Folder → Folder → Type 0) → Option Folder → Option Folder → Type 0
Moves step None new = new ≡ None
Moves step (Some old) new = IsSomeAnd new (step old)

-- The call changes neither FILE nor FILE~.
pub record LeavesFiles (old new : Folder) : Type 0 where
  pub own : new.own ≡ old.own
  pub stuck : new.stuck ≡ old.stuck
  pub replaced : new.replaced ≡ old.replaced
  pub added : new.added ≡ old.added
  pub refused : new.refused ≡ old.refused

-- The call changes nothing. Other runs may change FILE, unless this run holds FILE~.
pub record ChangesNothing (old new : Folder) : Type 0 where
  pub leaves : LeavesFiles old new
  pub seen : new.seen ≡ old.seen
  pub held : IsSome old.own → new ≡ old

-- the opened file, if there is one, has the bytes at FILE
abbrev pub HasBytesOf : {I : Type 0} → (I → Option (List ℕ)) → Option I → Option (List ℕ) → Type 0
HasBytesOf model None file = file ≡ None
HasBytesOf model (Some index) file = IsSome file × (model index ≡ file)

-- FILE is opened, and from then on counts as seen; or it is known why it could not be opened.
abbrev pub Looks : {I : Type 0} → (I → Option (List ℕ)) → Result (Option I) StorageFault → Folder → Folder → Type 0
Looks model (Ok index) old new = LeavesFiles old new × (new.seen ≡ Some (Ok new.file)) × HasBytesOf model index new.file
Looks model (Err fault) old new = LeavesFiles old new × (new.seen ≡ Some (Err fault))

-- FILE~ is not held, or could not be taken away
abbrev pub IsFree : Folder → Folder → Type 0
IsFree old new = (new.own ≡ None) ⊎ (new.stuck ≡ next_count old.stuck)

-- FILE~ is made, empty and locked; before that, other runs may change FILE.
abbrev pub Claims : Result (Unit {0}) StorageFault → Folder → Folder → Type 0
Claims (Ok _) old new =
    (new.seen ≡ old.seen) × (new.own ≡ Some (record { bytes = []; synced = false })) × (new.since ≡ new.now)
    × (new.stuck ≡ old.stuck) × (new.replaced ≡ old.replaced) × (new.added ≡ old.added) × (new.refused ≡ None)
Claims (Err fault) old new =
    (new.seen ≡ old.seen) × (new.replaced ≡ old.replaced) × IsFree old new × (new.added ≡ old.added)
    × (new.refused ≡ Some fault)

-- whether FILE is still what was seen; if it is not, or cannot be compared, the update is refused
abbrev pub Compares : Bool → Folder → Folder → Type 0
Compares true old new = ChangesNothing old new × (new.seen ≡ Some (Ok new.file))
Compares false old new = ChangesNothing (record old { refused = Some Failed }) new

-- FILE~ is held and has any bytes; nothing else changes
abbrev pub FillsOwn : Folder → Folder → Type 0
FillsOwn old new = (own : OwnFile) × (new ≡ record old { own = Some own })

-- Bytes are appended to FILE~. Until it is synced, it may have any bytes.
abbrev pub Fills : Folder → Folder → Type 0
Fills old new = MatchOption old.own (ChangesNothing old new) (λ _. FillsOwn old new)

-- FILE~ has exactly these bytes, synced; after an error it has any bytes
abbrev pub Syncs : List ℕ → Result (Unit {0}) StorageFault → Folder → Folder → Type 0
Syncs bytes (Ok _) old new = new ≡ record old { own = Some (record { bytes = bytes; synced = true }); refused = None }
Syncs bytes (Err fault) old new = FillsOwn (record old { refused = Some fault }) new

-- what a crash may leave of a file that is renamed to FILE: all its bytes if they are synced
abbrev pub left_renamed : OwnFile → Left
left_renamed own = if own.synced then whole own.bytes else torn

-- FILE~ becomes FILE, and is held no more. A crash may still undo this.
abbrev pub Renames : Result (Unit {0}) StorageFault → Folder → Folder → Type 0
Renames (Ok _) old new = IfSome old.own (λ own. new ≡ record old {
  file = Some own.bytes;
  own = None;
  now = old.now ++ left_renamed own ∷ [];
  since = old.since ++ left_renamed own ∷ [];
  replaced = Some old.file;
  added = old.added ++ left_renamed own ∷ [];
  refused = None;
})
Renames (Err fault) old new = new ≡ record old { refused = Some fault }

-- FILE is removed, if it is there. A crash may still undo this.
abbrev pub Removes : Result (Unit {0}) StorageFault → Folder → Folder → Type 0
Removes (Ok _) old new = new ≡ record old {
  file = None;
  now = old.now ++ absent ∷ [];
  since = old.since ++ absent ∷ [];
  replaced = Some old.file;
  added = old.added ++ absent ∷ [];
  refused = None;
}
Removes (Err fault) old new = new ≡ record old { refused = Some fault }

-- FILE~ is taken away, unless the system refuses
abbrev pub Releases : Folder → Folder → Type 0
Releases old new = MatchOption old.own (ChangesNothing old new)
    (λ _. (new ≡ record old { own = None }) ⊎ (new ≡ record old { stuck = next_count old.stuck }))

-- ---- an update of the index file

-- a modelled folder's FILE~ is held
abbrev pub IsHeld : Option Folder → Type 0
IsHeld folder = IfSome folder (λ folder. IsSome folder.own)

-- this is why the last call of a modelled folder failed
abbrev pub IsRefusedBy : StorageFault → Option Folder → Type 0
IsRefusedBy fault folder = IfSome folder (λ folder. folder.refused ≡ Some fault)

-- At the begin FILE~ is made, and FILE is what was seen. The error is that of the call that failed, and FILE~ is free.
abbrev pub Begins : Result (Unit {0}) StorageFault → Folder → Folder → Type 0
Begins (Ok _) old new =
    IsSome new.own × (new.seen ≡ old.seen) × (new.seen ≡ Some (Ok new.file)) × (new.since ≡ new.now)
    × (new.stuck ≡ old.stuck) × (new.replaced ≡ old.replaced) × (new.added ≡ old.added)
Begins (Err fault) old new =
    (new.seen ≡ old.seen) × (new.replaced ≡ old.replaced) × IsFree old new × (new.added ≡ old.added)
    × (new.refused ≡ Some fault)

-- a file or none, whole
abbrev pub left_whole : Option (List ℕ) → Left
left_whole None = absent
left_whole (Some bytes) = whole bytes

-- what a crash may leave after an update: what it might have left before, or what is asked, whole
abbrev pub left_after : IndexUpdate → List Left → List Left
left_after Keep before = before
left_after (Write sent) before = before ++ whole sent.bytes ∷ []
left_after Remove before = before ++ absent ∷ []

-- A crash leaves what one before might have left, or what is asked, whole.
abbrev pub LeavesAsked : IndexUpdate → Folder → Folder → Type 0
LeavesAsked update old new =
    (new.since ≡ left_after update old.since) × (new.now ≡ left_after update old.now)
    × (new.added ≡ left_after update old.added)

-- Nothing has changed at FILE, also after a crash, and the error is that of the call that failed.
abbrev pub Fails : StorageFault → Folder → Folder → Type 0
Fails fault old new =
    (new.file ≡ old.file) × (new.replaced ≡ old.replaced) × LeavesAsked Keep old new × (new.refused ≡ Some fault)

-- what this run has replaced after an update
abbrev pub replaced_after : IndexUpdate → Folder → Option (Option (List ℕ))
replaced_after Keep old = old.replaced
replaced_after _ old = Some old.file

-- After an update FILE is as asked, and what it replaced is what was seen. After an error FILE is as before. A crash at
-- any moment leaves what one before the update might have left, or what is asked, whole.
pub record Updates (update : IndexUpdate) (result : Result (Unit {0}) StorageFault) (old new : Folder) : Type 0 where
  pub file : IfOk result (λ _. new.file ≡ file_after update old.file)
  pub was_seen : IfOk result (λ _. IsChange update → old.seen ≡ Some (Ok old.file))
  pub replaced : IfOk result (λ _. new.replaced ≡ replaced_after update old)
  pub crash : IfOk result (λ _. LeavesAsked update old new)
  pub error : IfErr result (λ fault. Fails fault old new)
  pub seen : new.seen ≡ old.seen
  pub free : IsFree old new
