-- What a run learns of the files that it has seen, by the items and the stamps of the project at their names.
use Rattle.std.specs.Prelude.{◌≡◌, ℕ, Bool, ◌&&◌, nat_le, nat_lt, if◌then◌else◌, List, [], ◌∷◌, ◌++◌, length, map, Option, None, option_map, filter_map, string_bytes}
use Rattle.std.specs.List.{AllByRecursion, list_all}
use Rattle.cs_tree.specs.Snapshot.{Snapshot, item_at}
use Rattle.cs_tree.specs.declared.tree.Stamp.{Stamp}
use Rattle.cs_tree.specs.Cover.{is_absolute}
use Rattle.cs_index.specs.Built.{Built}
use Rattle.cs_index.specs.Encoding.{Entry}
use Rattle.cs_state.specs.Known.{HasNumbers, Known, is_old}
use Rattle.cs_state.specs.StampedNames.{IsLearnable, stamped}
use Rattle.cs_known.specs.Learned.{Run}
use Rattle.cs_known.specs.Unprinted.{view_below}
use Rattle.cs_known.specs.declared.types.SeenFile.{SeenFile}
use Rattle.cs_update.specs.Contents.{Content, seen_content}
use Rattle.cs_update.specs.declared.types.UpdateCall.{UpdateCall}

-- ---- files that are seen

-- a name with the stamp that was seen
abbrev pub Seen : Type 0
Seen = List ℕ × Stamp

abbrev pub seen_of : SeenFile → Seen
seen_of file = (string_bytes file.name, file.stamp)

abbrev pub seen_by : UpdateCall → List Seen
seen_by call = map seen_of call.files.now

-- the run of a call over a tree with these items and stamps
abbrev pub run_of : UpdateCall → Snapshot → (List ℕ → Option Stamp) → Run
run_of call items stamps = record { view = view_below call.root.now (item_at items) stamps; moment = call.moment }

-- whether a file with this name can be learned: `IsLearnable`, of a name that is UTF-8
abbrev pub is_learnable : List ℕ → Bool
is_learnable name = is_absolute name && list_all (λ b. nat_lt 1 b) name && nat_le (length name) 4000

-- whether a file that was seen is read: it can be learned, and its stamp is old
abbrev pub is_read : ℕ → Seen → Bool
is_read moment seen = is_old moment seen.1 && is_learnable seen.0

-- ---- what is learned

-- A file, with the stamp that was seen, and its content.
pub record LearnedFile : Type 0 where
  pub name : List ℕ
  pub stamp : Stamp
  pub content : Content

abbrev pub learned_as : Seen → Content → LearnedFile
learned_as seen content = record { name = seen.0; stamp = seen.1; content = content }

abbrev pub with_learned : List LearnedFile → SeenFile → Content → List LearnedFile
with_learned files file content = files ++ learned_as (seen_of file) content ∷ []

module _ (run : Run) where
  -- a file that can be learned, whose stamp is old and still the same, and that can be read to its end
  abbrev pub learned_if_old : Seen → Option LearnedFile
  learned_if_old seen =
      if is_read run.moment seen
      then option_map (learned_as seen) (seen_content seen.1 (run.view.stamp seen.0) (run.view.item seen.0)) else None

  abbrev pub all_learned : List Seen → List LearnedFile
  all_learned seen = filter_map learned_if_old seen

-- ---- the own index

-- what is known of the file
abbrev pub known_in : LearnedFile → Known
known_in file = record { name = file.name; stamp = file.stamp; kept = file.content.kept }

-- its entry: its stamped name, with the trigrams of a text
abbrev pub entry_in : LearnedFile → Entry
entry_in file = (stamped (known_in file), file.content.trigrams)

-- The index has the entries of these files, each of which can be learned.
pub record HasLearned (own : Built) (files : List LearnedFile) : Type 0 where
  pub entries : own.entries ≡ map entry_in files
  pub names : AllByRecursion (λ (file : LearnedFile). IsLearnable file.name) files
  pub numbers : AllByRecursion (λ (file : LearnedFile). HasNumbers file.stamp) files
