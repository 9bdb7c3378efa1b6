-- The index file before, while and after the job is done.
use Rattle.std.proofs.Common.{◌≡◌, ◌≢◌, ℕ, List, Option, Some, None, Result, Ok, Err, refl, sym, ap, subst, ◌∙◌, inl, inr}
use Rattle.std.specs.Prelude.{Bool, true, false, nat_lt, IsSomeAnd, IfSome, if◌then◌else◌}
use Rattle.cs_tree.specs.Failures.{next_count, count_if}
use Rattle.cs_args.specs.declared.jobs.Tool.{Tool}
use Rattle.cs_args.specs.declared.jobs.Tool.TheVariants.{Cindex, Csearch, Cgrep}
use Rattle.cs_storage.specs.FileAfter.{file_after, IsChange}
use Rattle.cs_storage.specs.Storing.{Folder, Left, Moves, LeavesFiles, HasBytesOf, Looks, IsFree, Fills, IsHeld, IsRefusedBy, Begins, Updates, left_after, replaced_after}
use Rattle.cs_storage.specs.NewFiles.{folder_filled, FillsOn}
use Rattle.cs_storage.specs.declared.folder.NewFile.{NewFile}
use Rattle.cs_storage.proofs.FillLemmas.{fills, fills_keeps, stays_held}
use Rattle.cs_storage.specs.declared.folder.StorageFault.{StorageFault}
use Rattle.cs_storage.specs.declared.update.IndexUpdate.{IndexUpdate}
use Rattle.cs_storage.specs.declared.update.IndexUpdate.TheVariants.{Keep, Write, Remove}
use Rattle.cs_cindex.specs.OldIndex.{IsIndex, IsUnreadable}
use Rattle.codesearch.specs.Program.{IndexFile, Surroundings, IsUntouched, Refuses, Runs, IsCall, opened_file, may_update, exit_status, update_of, reading_line, writing_line}
use Rattle.codesearch.specs.Execution.{IsReadIndex, LeavesFile, ReplacesFile, Stores, EndsWith, WasOpened, IsOpening, failed_reads, Executes}
use Rattle.codesearch.specs.Opened.{StoresOpened, Finishes, ExecutesOpened}
use Rattle.cs_args.specs.declared.fault.WordFault.{WordFault}
use Rattle.cs_args.specs.declared.jobs.Job.{Job}
use Rattle.cs_storage.specs.declared.folder.StorageFault.TheVariants.{Failed}
use Rattle.codesearch.specs.declared.call.Call.{Call}
use Rattle.codesearch.specs.declared.running.FoundFile.{FoundFile}
use Rattle.codesearch.specs.declared.outcome.Outcome.{Outcome}
use Rattle.codesearch.specs.declared.outcome.Outcome.TheVariants.{Done, Searched, Refused}
use Rattle.codesearch.proofs.CallLemmas.{runs_over, refuses_reading, refuses_claim}

-- ---- steps of a folder

pub moves_on : (P Q : Folder → Folder → Type 0) (old new : Option Folder) → ((f g : Folder) → P f g → Q f g) →
    Moves P old new → Moves Q old new
moves_on P Q None new on step = step
moves_on P Q (Some f) None on step = absurd step
moves_on P Q (Some f) (Some g) on step = on f g step

pub moves_twice : (P Q R : Folder → Folder → Type 0) (old mid new : Option Folder) →
    ((f g h : Folder) → P f g → Q g h → R f h) → Moves P old mid → Moves Q mid new → Moves R old new
moves_twice P Q R None mid new on first second = subst (λ mid. Moves Q mid new → new ≡ None) (sym first) (λ none. none) second
moves_twice P Q R (Some f) None new on first second = absurd first
moves_twice P Q R (Some f) (Some g) None on first second = absurd second
moves_twice P Q R (Some f) (Some g) (Some h) on first second = on f g h first second

-- ---- what becomes of FILE

stores_nothing : (old new : Folder) → LeavesFiles old new → Stores Keep old new
stores_nothing old new leaves = record { file = leaves.replaced; crash = leaves.added; free = λ none. inl (leaves.own ∙ none) }

pub unread_stores : {I : Type 0} (model : I → Option (List ℕ)) (fault : StorageFault) (old new : Option Folder) →
    Moves (Looks model (Err fault)) old new → Moves (Stores Keep) old new
unread_stores model fault old new looks = moves_on (Looks model (Err fault)) (Stores Keep) old new (λ f g l. stores_nothing f g l.0) looks

unclaimed_at : (fault : StorageFault) (old new : Folder) → Begins (Err fault) old new → StoresOpened Keep old new
unclaimed_at fault old new begins =
    record { seen = begins.0; stores = record { file = begins.1; crash = begins.3; free = λ none. begins.2 } }

pub unclaimed_stores : (fault : StorageFault) (old new : Option Folder) → Moves (Begins (Err fault)) old new →
    Moves (StoresOpened Keep) old new
unclaimed_stores fault old new begins = moves_on (Begins (Err fault)) (StoresOpened Keep) old new (unclaimed_at fault) begins

-- ---- what an output over FILE~ has done

filled_at : (old new : Folder) → Fills old new → StoresOpened Keep old new
filled_at old new filled = let keeps = fills_keeps old new filled in
    record { seen = keeps.0; stores = record { file = keeps.2; crash = keeps.3; free = λ none. inl (keeps.4 none) } }

pub filled_opened : (old new : Option Folder) {update : IndexUpdate} → update ≡ Keep → Moves Fills old new →
    Moves (StoresOpened update) old new
filled_opened old new is filled = subst (λ update. Moves (StoresOpened update) old new) (sym is)
    (moves_on Fills (StoresOpened Keep) old new filled_at filled)

-- an output over FILE~ of a folder that it leaves so
pub filled_by : {F : Type 0} (model : F → Option Folder) (before : F) (made left : NewFile F) → folder_filled made ≡ before →
    FillsOn (model (folder_filled made)) (model (folder_filled left)) → Moves Fills (model before) (model (folder_filled left))
filled_by model before made left same on = fills (model before) (model (folder_filled left))
    (subst (λ folder. FillsOn (model folder) (model (folder_filled left))) same on)

pub filled_leaves : (old new : Option Folder) → Moves Fills old new → Moves LeavesFile old new
filled_leaves old new filled = moves_on Fills LeavesFile old new (λ f g fills. (filled_at f g fills).stores.file) filled

replaces_from : (update : IndexUpdate) (first old new : Folder) → old.replaced ≡ first.replaced →
    ReplacesFile update old new → ReplacesFile update first new
replaces_from Keep first old new same file = file ∙ same
replaces_from (Write bytes) first old new same file = file
replaces_from Remove first old new same file = file

free_from : (first old new : Folder) → old.stuck ≡ first.stuck → IsFree old new → IsFree first new
free_from first old new same (inl none) = inl none
free_from first old new same (inr stuck) = inr (stuck ∙ ap next_count same)

-- how a claimed FILE is updated, from any earlier moment at which it was claimed
record Ends (update : IndexUpdate) (old new : Folder) : Type 0 where
  seen : new.seen ≡ old.seen
  file : ReplacesFile update old new
  crash : new.added ≡ left_after update old.added
  free : IsFree old new

crash_from : (update : IndexUpdate) {first old new : List Left} → old ≡ first → new ≡ left_after update old → new ≡ left_after update first
crash_from update same crash = crash ∙ ap (left_after update) same

ends_at : (update : IndexUpdate) (old mid new : Folder) → Fills old mid → Finishes update mid new → Ends update old new
ends_at update old mid new filled ends = let keeps = fills_keeps old mid filled in
    record {
      seen = ends.seen ∙ keeps.0;
      file = replaces_from update old mid new keeps.2 ends.file;
      crash = crash_from update keeps.3 ends.crash.2;
      free = free_from old mid new keeps.1 ends.free;
    }

claimed_at : (update : IndexUpdate) (old mid new : Folder) → Begins (Ok tt) old mid → Ends update mid new → StoresOpened update old new
claimed_at update old mid new begins ends = record {
  seen = ends.seen ∙ begins.1;
  stores = record {
    file = replaces_from update old mid new begins.5 ends.file;
    crash = crash_from update begins.6 ends.crash;
    free = λ none. free_from old mid new begins.4 ends.free;
  };
}

-- FILE~ is made, an output over it is filled, and FILE is updated
pub claimed_stores : (update : IndexUpdate) (old mid filled new : Option Folder) → Moves (Begins (Ok tt)) old mid →
    Moves Fills mid filled → Moves (Finishes update) filled new → Moves (StoresOpened update) old new
claimed_stores update old mid filled new begins fills ends = moves_twice (Begins (Ok tt)) (Ends update) (StoresOpened update) old
    mid new (claimed_at update) begins (moves_twice Fills (Finishes update) (Ends update) mid filled new (ends_at update) fills ends)

pub claims : {result : Result (Unit {0}) StorageFault} (old mid : Option Folder) → result ≡ Ok tt → Moves (Begins result) old mid →
    Moves (Begins (Ok tt)) old mid
claims old mid is begins = subst (λ result. Moves (Begins result) old mid) is begins

-- FILE~ stays held
begun : (old mid : Option Folder) → Moves (Begins (Ok tt)) old mid → IsHeld mid
begun None mid begins = subst IsHeld (sym begins) tt
begun (Some f) None begins = absurd begins
begun (Some f) (Some g) begins = begins.0

pub claimed_held : (old mid filled : Option Folder) → Moves (Begins (Ok tt)) old mid → Moves Fills mid filled → IsHeld filled
claimed_held old mid filled begins fills = stays_held mid filled (begun old mid begins) fills

-- after an error FILE is as it was
failed_keeps : (outcome : Outcome) → exit_status outcome ≢ 0 → update_of outcome ≡ Keep
failed_keeps (Done update) failed = absurd (failed refl)
failed_keeps (Searched status) failed = refl
failed_keeps (Refused fault) failed = refl

pub failed_leaves : (outcome : Outcome) (old new : Option Folder) → exit_status outcome ≢ 0 →
    Moves (StoresOpened (update_of outcome)) old new → Moves LeavesFile old new
failed_leaves outcome old new failed stores = moves_on (StoresOpened Keep) LeavesFile old new (λ f g stores. stores.stores.file)
    (subst (λ update. Moves (StoresOpened update) old new) (failed_keeps outcome failed) stores)

-- why FILE~ could not be made
refused_claim : (fault : StorageFault) (old new : Option Folder) → Moves (Begins (Err fault)) old new → IsRefusedBy fault new
refused_claim fault old None begins = tt
refused_claim fault None (Some g) begins = absurd (let e : Some g ≡ None = begins in cc)
refused_claim fault (Some f) (Some g) begins = begins.4

-- ---- the end of an update

finished_file : (update : IndexUpdate) (old new : Folder) → new.file ≡ file_after update old.file →
    (IsChange update → old.seen ≡ Some (Ok old.file)) → new.replaced ≡ replaced_after update old → new.seen ≡ old.seen →
    ReplacesFile update old new
finished_file Keep old new file was replaced seen = replaced
finished_file (Write bytes) old new file was replaced seen = (old.file, seen ∙ was tt, replaced, file)
finished_file Remove old new file was replaced seen = (old.file, seen ∙ was tt, replaced, file)

finished_at : (update : IndexUpdate) (old new : Folder) → Updates update (Ok tt) old new → Finishes update old new
finished_at update old new is = record {
  seen = is.seen;
  file = finished_file update old new is.file is.was_seen
      is.replaced is.seen;
  crash = is.crash;
  free = is.free;
}

pub finish_done : (update : IndexUpdate) (old new : Option Folder) → Moves (Updates update (Ok tt)) old new →
    Moves (Finishes update) old new
finish_done update old new is = moves_on (Updates update (Ok tt)) (Finishes update) old new (finished_at update) is

unfinished_at : (update : IndexUpdate) (fault : StorageFault) (old new : Folder) → Updates update (Err fault) old new →
    Finishes Keep old new
unfinished_at update fault old new is =
    record { seen = is.seen; file = is.error.1; crash = is.error.2; free = is.free }

pub finish_failed : (update : IndexUpdate) (fault : StorageFault) (old new : Option Folder) →
    Moves (Updates update (Err fault)) old new → Moves (Finishes Keep) old new
finish_failed update fault old new is = moves_on (Updates update (Err fault)) (Finishes Keep) old new (unfinished_at update fault) is

-- why FILE could not be updated
pub finish_refused : (update : IndexUpdate) (fault : StorageFault) (old new : Option Folder) →
    Moves (Updates update (Err fault)) old new → IsRefusedBy fault new
finish_refused update fault old None is = tt
finish_refused update fault None (Some g) is = absurd (let e : Some g ≡ None = is in cc)
finish_refused update fault (Some f) (Some g) is = is.error.3

-- ---- the whole

was_read : (tool : Tool) (folder : Option Folder) (index : Option (List ℕ)) → tool ≢ Cgrep →
    IsReadIndex tool folder index → IsSomeAnd folder (λ folder. folder.seen ≡ Some (Ok index))
was_read Cindex folder index other is = is
was_read Csearch folder index other is = is
was_read Cgrep folder index other is = absurd (other refl)

is_opening : (tool : Tool) (folder : Option Folder) (failed : ℕ) (unreadable : Option StorageFault) → tool ≢ Cgrep →
    IfSome folder (λ folder. WasOpened folder.seen failed unreadable) → IsOpening tool folder failed unreadable
is_opening Cindex folder failed unreadable other is = is
is_opening Csearch folder failed unreadable other is = is
is_opening Cgrep folder failed unreadable other is = absurd (other refl)

abbrev why_unread : Bool → Option StorageFault
why_unread failed = if failed then Some Failed else None

-- a file, none of whose reads had failed, is unreadable if one has failed
counted : (failed : Bool) (n : ℕ) → n ≡ count_if failed 0 → why_unread failed ≡ (if nat_lt 0 n then Some Failed else None)
counted true n is = rw (is) refl
counted false n is = rw (is) refl

same_seen : {one other : Option (List ℕ)} → ◌≡◌ {A = Option (Result (Option (List ℕ)) StorageFault)} (Some (Ok one))
    (Some (Ok other)) → one ≡ other
same_seen e = let f = e in cc

module _ {I : Type 0} (model : I → Option (List ℕ)) where
  is_index : (opened : Option I) (file index : Option (List ℕ)) → HasBytesOf model opened file → index ≡ file → IsIndex model opened index
  is_index None file index has is = is ∙ has
  is_index (Some store) None index has is = absurd (let e = has.0 in cc)
  is_index (Some store) (Some bytes) index has is = subst (λ known. IsSomeAnd known (λ bytes. index ≡ Some bytes)) (sym has.1) is

  index_read : (opened : Option I) (before mid after : Option Folder) (update : IndexUpdate) (index : Option (List ℕ)) →
      Moves (Looks model (Ok opened)) before mid → Moves (StoresOpened update) mid after →
      IsSomeAnd after (λ folder. folder.seen ≡ Some (Ok index)) → IsIndex model opened index
  index_read opened before mid None update index looks stores is = absurd is
  index_read opened None mid (Some a) update index looks stores is =
      absurd (let e : Some a ≡ None = subst (λ mid. Moves (StoresOpened update) mid (Some a)) looks stores in cc)
  index_read opened (Some b) None (Some a) update index looks stores is = absurd looks
  index_read opened (Some b) (Some m) (Some a) update index looks stores is = is_index opened m.file index looks.2
      (same_seen (sym is ∙ stores.seen ∙ looks.1))

  was_read_at : (failed : I → ℕ) (opened read : Option I) (file : Option (List ℕ)) (fails : Bool) →
      HasBytesOf model opened file → IfSome opened (λ index. failed index ≡ 0) → IsUnreadable failed opened read fails →
      WasOpened (Some (Ok file)) (failed_reads failed read) (if fails then Some Failed else None)
  was_read_at failed None read file fails has fresh unread =
      subst (λ file. WasOpened (Some (Ok file)) (failed_reads failed read) (if fails then Some Failed else None)) (sym has)
      (ap why_unread unread)
  was_read_at failed (Some store) None file fails has fresh unread = absurd unread
  was_read_at failed (Some store) (Some read) None fails has fresh unread = absurd (let e = has.0 in cc)
  was_read_at failed (Some store) (Some read) (Some bytes) fails has fresh unread =
      counted fails (failed read) (unread ∙ ap (count_if fails) fresh)

  was_opened : (failed : I → ℕ) (opened read : Option I) (before mid after : Option Folder) (update : IndexUpdate)
      (fails : Bool) → Moves (Looks model (Ok opened)) before mid → Moves (StoresOpened update) mid after →
      IfSome opened (λ index. failed index ≡ 0) → IsUnreadable failed opened read fails →
      IfSome after (λ folder. WasOpened folder.seen (failed_reads failed read) (if fails then Some Failed else None))
  was_opened failed opened read before mid None update fails looks stores fresh unread = tt
  was_opened failed opened read None mid (Some a) update fails looks stores fresh unread =
      absurd (let e : Some a ≡ None = subst (λ mid. Moves (StoresOpened update) mid (Some a)) looks stores in cc)
  was_opened failed opened read (Some b) None (Some a) update fails looks stores fresh unread = absurd looks
  was_opened failed opened read (Some b) (Some m) (Some a) update fails looks stores fresh unread =
      subst (λ seen. WasOpened seen (failed_reads failed read) (if fails then Some Failed else None)) (sym (stores.seen ∙ looks.1))
      (was_read_at failed opened read m.file fails looks.2 fresh unread)

  opened_at : (opened : Option I) (update : IndexUpdate) (before mid after : Folder) →
      Looks model (Ok opened) before mid → StoresOpened update mid after → Stores update before after
  opened_at opened update before mid after looks stores =
      let leaves : LeavesFiles before mid = looks.0 in
      record {
        file = replaces_from update before mid after leaves.replaced stores.stores.file;
        crash = crash_from update leaves.added stores.stores.crash;
        free = λ none. free_from before mid after leaves.stuck (stores.stores.free (leaves.own ∙ none));
      }

  pub executes : (failed : I → ℕ) (opened read : Option I) (call : Call) (name temp : List ℕ)
      (before mid after : Option Folder) (old new : Surroundings) (outcome : Outcome) → call.tool ≢ Cgrep →
      Moves (Looks model (Ok opened)) before mid → IfSome opened (λ index. failed index ≡ 0) →
      ExecutesOpened call name temp (IsIndex model opened) (IsUnreadable failed opened read) mid after old new outcome →
      Executes call name temp before after (failed_reads failed read) old new outcome
  executes failed opened read call name temp before mid after old new outcome other looks fresh is = record {
    file = is.file;
    names = is.names;
    opened = is_opening call.tool after (failed_reads failed read) is.file.unreadable other
        (subst (λ unreadable. IfSome after (λ folder. WasOpened folder.seen (failed_reads failed read) unreadable))
        (sym is.read.2) (was_opened failed opened read before mid after (update_of outcome) is.read.0 looks is.stores fresh is.read.1));
    claimed = is.claimed;
    job = is.job;
    runs = runs_over call.given.now is.file (IsIndex model opened) (IsReadIndex call.tool after) old new is.job
        (λ index read. index_read opened before mid after (update_of outcome) index looks is.stores
        (was_read call.tool after index other read)) is.runs;
    ends = is.ends;
    stores = moves_twice (Looks model (Ok opened)) (StoresOpened (update_of outcome)) (Stores (update_of outcome)) before mid after
        (opened_at opened (update_of outcome)) looks is.stores;
  }

  -- the index file could not be opened
  unopened : (fault : StorageFault) (failed : ℕ) (before after : Option Folder) →
      Moves (Looks model (Err fault)) before after → IfSome after (λ folder. WasOpened folder.seen failed (Some fault))
  unopened fault failed before None looks = tt
  unopened fault failed None (Some a) looks = absurd (let e : Some a ≡ None = looks in cc)
  unopened fault failed (Some b) (Some a) looks = subst (λ seen. WasOpened seen failed (Some fault)) (sym looks.1) refl

  pub executes_unread : (fault : StorageFault) (call : Call) (name temp : List ℕ) (before after : Option Folder)
      (failed : ℕ) (old new : Surroundings) (outcome : Outcome) → call.tool ≢ Cgrep → IsCall call → Moves (Looks model (Err fault)) before after →
      Refuses outcome (reading_line name fault) → update_of outcome ≡ Keep → IsUntouched old new →
      Executes call name temp before after failed old new outcome
  executes_unread fault call name temp before after failed old new outcome other is looks refuses keeps untouched = record {
    file = record { name = name; temp = temp; unreadable = Some fault; unclaimed = None };
    names = (refl, refl);
    opened = is_opening call.tool after failed (Some fault) other (unopened fault failed before after looks);
    claimed = tt;
    job = outcome;
    runs = refuses_reading call (record { name = name; temp = temp; unreadable = Some fault; unclaimed = None }) fault
        (IsReadIndex call.tool after) old new outcome is refl refuses untouched;
    ends = inl refl;
    stores = subst (λ update. Moves (Stores update) before after) (sym keeps) (unread_stores model fault before after looks);
  }

-- `cgrep` opens no index file
keeps_stores : (folder : Option Folder) {update : IndexUpdate} → update ≡ Keep → Moves (Stores update) folder folder
keeps_stores folder is = subst (λ update. Moves (Stores update) folder folder) (sym is) (stays folder)
  where
    stays : (folder : Option Folder) → Moves (Stores Keep) folder folder
    stays None = refl
    stays (Some f) = stores_nothing f f (record { own = refl; stuck = refl; replaced = refl; added = refl; refused = refl })

abbrev pub grep_file : List ℕ → List ℕ → IndexFile
grep_file name temp = record { name = name; temp = temp; unreadable = None; unclaimed = None }

pub executes_cgrep : (call : Call) (name temp : List ℕ) (folder : Option Folder) (failed : ℕ) (old new : Surroundings)
    (outcome : Outcome) → call.tool ≡ Cgrep → update_of outcome ≡ Keep →
    Runs call.given.now (grep_file name temp) (IsReadIndex call.tool folder) old new outcome →
    Executes call name temp folder folder failed old new outcome
executes_cgrep call name temp folder failed old new outcome grep keeps runs = record {
  file = grep_file name temp;
  names = (refl, refl);
  opened = subst (λ tool. IsOpening tool folder failed None) (sym grep) refl;
  claimed = tt;
  job = outcome;
  runs = runs;
  ends = inl refl;
  stores = keeps_stores folder keeps;
}

-- ---- over the opened file

-- the job runs, and then the file is updated
pub executes_opened : {S : Type 0} (IsOne : Option (List ℕ) → Type 0) (HasFailed : Bool → Type 0) (call : Call)
    (file : FoundFile S) (unreadable : Bool) (before after : Option Folder) (old new : Surroundings)
    (job outcome : Outcome) → HasFailed unreadable → Runs call.given.now (opened_file file unreadable) IsOne old new job →
    EndsWith file.name.now file.temp.now after job outcome → Moves (StoresOpened (update_of outcome)) before after →
    ExecutesOpened call file.name.now file.temp.now IsOne HasFailed before after old new outcome
executes_opened IsOne HasFailed call file unreadable before after old new job outcome failed runs ends stores = record {
  file = opened_file file unreadable;
  names = (refl, refl);
  read = (unreadable, failed, refl);
  claimed = tt;
  job = job;
  runs = runs;
  ends = ends;
  stores = stores;
}

-- the file cannot be claimed
pub executes_unclaimed : {S : Type 0} (IsOne : Option (List ℕ) → Type 0) (HasFailed : Bool → Type 0) (call : Call) (job : Job)
    (file : FoundFile S) (fault : StorageFault) (before after : Option Folder) (old new : Surroundings)
    (outcome : Outcome) → HasFailed false → IsCall call → call.job ≡ Ok job → may_update call.job ≡ true →
    Moves (Begins (Err fault)) before after → Refuses outcome (writing_line file.name.now file.temp.now fault) →
    update_of outcome ≡ Keep → IsUntouched old new →
    ExecutesOpened call file.name.now file.temp.now IsOne HasFailed before after old new outcome
executes_unclaimed IsOne HasFailed call job file fault before after old new outcome unfailed is job-is may begins refuses keeps
    untouched =
    let unclaimed : IndexFile = record { name = file.name.now; temp = file.temp.now; unreadable = None; unclaimed = Some fault } in
    record {
      file = unclaimed;
      names = (refl, refl);
      read = (false, unfailed, refl);
      claimed = (may, refused_claim fault before after begins);
      job = outcome;
      runs = refuses_claim call job unclaimed fault IsOne old new outcome is job-is refl refl refuses untouched;
      ends = inl refl;
      stores = subst (λ update. Moves (StoresOpened update) before after) (sym keeps) (unclaimed_stores fault before after begins);
    }

-- a job that may update the file is there
pub has_job : (parsed : Result Job WordFault) → may_update parsed ≡ true → (job : Job) × (parsed ≡ Ok job)
has_job (Ok job) may = (job, refl)
has_job (Err fault) may = absurd (let e = may in cc)
