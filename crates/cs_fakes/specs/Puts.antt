-- Which items can be put into a tree in memory. docs/FORMAT.md, "Paths and names".
use Rattle.std.specs.Prelude.{◌≡◌, not, ◌&&◌, ◌||◌, ℕ, List, [], ◌∷◌, if◌then◌else◌, Option, Some, None, Result, Ok, Err, bytes_eq}
use Rattle.std.specs.Path.{slash}
use Rattle.cs_tree.specs.Clean.{is_clean, has_nul}
use Rattle.cs_tree.specs.Snapshot.{Snapshot, Item, item_at}
use Rattle.cs_fakes.specs.Changes.{is_folder, has_entries, parent_of}
use Rattle.cs_fakes.specs.declared.mem_tree.PutFault.{PutFault}
use Rattle.cs_fakes.specs.declared.mem_tree.PutFault.TheVariants.{BadPath, NoFolder, HasEntries, Memory}

-- the error of the first failed test, if any
abbrev pub put_fault : Snapshot → List ℕ → Item → Option PutFault
put_fault tree path item =
    if bytes_eq path (slash ∷ []) || not (is_clean path) || has_nul path then Some BadPath
    else (if not (is_folder (item_at tree (parent_of path))) then Some NoFolder
    else (if has_entries (item_at tree path) && not (is_folder item) then Some HasEntries else None))

-- The error is that of the first failed test. If no test fails, the only error is an allocation failure.
abbrev pub PutAnswers : Option PutFault → Result (Unit {0}) PutFault → Type 0
PutAnswers (Some fault) answer = answer ≡ Err fault
PutAnswers None (Ok _) = Unit {0}
PutAnswers None (Err Memory) = Unit {0}
PutAnswers None (Err fault) = ⊥
