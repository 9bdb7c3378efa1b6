-- The model of a folder in memory.
use Rattle.std.specs.Prelude.{ℕ, ◌-◌, ◌^◌, Bool, false, List, map, drop, Option, Some, None, option_map, is_some, unwrap_or, if◌then◌else◌, Vec, Result, Ok, Err}
use Rattle.std.specs.declared.alloc.Global.{Global}
use Rattle.cs_storage.specs.Storing.{Folder, OwnFile, Left, absent, whole, torn}
use Rattle.cs_storage.specs.declared.folder.StorageFault.{StorageFault}
use Rattle.cs_fakes.specs.declared.types.MemFolder.{MemFolder}
use Rattle.cs_fakes.specs.declared.types.MemFile.{MemFile}
use Rattle.cs_fakes.specs.declared.types.MemIndex.{MemIndex}
use Rattle.cs_fakes.specs.declared.types.MemVisit.{MemVisit}
use Rattle.cs_fakes.specs.declared.types.MemLeft.{MemLeft}
use Rattle.cs_fakes.specs.declared.types.MemLeft.TheVariants.{Absent, Whole, Torn}

abbrev pub left_view : MemLeft → Left
left_view Absent = absent
left_view (Whole bytes) = whole bytes.items
left_view Torn = torn

abbrev pub own_view : MemFile → OwnFile
own_view file = record { bytes = file.bytes.items; synced = file.synced }

abbrev pub bytes_view : Option (Vec ℕ Global) → Option (List ℕ)
bytes_view = option_map (λ bytes. bytes.items)

abbrev pub seen_view : Result (Option (Vec ℕ Global)) StorageFault → Result (Option (List ℕ)) StorageFault
seen_view (Ok file) = Ok (bytes_view file)
seen_view (Err fault) = Err fault

-- the model of an opened file
abbrev pub mem_bytes : MemIndex → Option (List ℕ)
mem_bytes index = Some index.bytes.items

-- what a crash from the n-th outcome on may leave
abbrev pub lefts_from : ℕ → List MemLeft → List Left
lefts_from n lefts = drop n (map left_view lefts)

abbrev pub folder_view : MemFolder → Folder
folder_view m = record {
  file = bytes_view m.file;
  seen = option_map seen_view m.seen;
  own = option_map own_view m.own;
  now = lefts_from m.now_at m.lefts.items;
  since = lefts_from m.since_at m.lefts.items;
  stuck = m.stuck;
  replaced = option_map bytes_view m.replaced;
  added = map left_view m.added.items;
  refused = m.refused;
}

-- the folder after a call with this answer
abbrev pub answered : Result (Unit {0}) StorageFault → Folder → Folder
answered (Ok _) folder = record folder { refused = None }
answered (Err fault) folder = record folder { refused = Some fault }

-- ---- what a test plans

-- After how many calls the run crashes; whether another run holds FILE~; and what another run makes of FILE before the
-- next call for which this run does not hold FILE~, if it acts.
pub record Plan : Type 0 where
  pub calls : ℕ
  pub taken : Bool
  pub visit : Option (Option (List ℕ))

abbrev pub visit_view : MemVisit → Option (List ℕ)
visit_view visit = bytes_view visit.file

abbrev pub plan_of : MemFolder → Plan
plan_of m = record { calls = m.calls; taken = m.taken; visit = option_map visit_view m.next }

-- the plan of a new folder: no crash, and no other run
abbrev pub no_plan : Plan
no_plan = record { calls = 2 ^ 64 - 1; taken = false; visit = None }

-- the plan after one more call
abbrev pub plan_after : MemFolder → Plan
plan_after m = record { calls = m.calls - 1; taken = m.taken; visit = if is_some m.own then (plan_of m).visit else None }

-- FILE when the next call acts
abbrev pub file_met : MemFolder → Option (List ℕ)
file_met m = if is_some m.own then bytes_view m.file else unwrap_or (plan_of m).visit (bytes_view m.file)
