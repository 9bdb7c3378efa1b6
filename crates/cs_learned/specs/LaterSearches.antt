-- The promise of a search after a run that noted files: what the run saw of them is proved by how they were noted.
use Rattle.std.specs.Prelude.{◌≡◌, ◌⊎◌, ℕ, Bool, true, List, [], ◌∷◌, map, Option, string_bytes}
use Rattle.std.specs.FinMap as map'
use Rattle.std.specs.List.{AllByRecursion}
use Rattle.cs_tree.specs.Snapshot.{Item}
use Rattle.cs_tree.specs.declared.tree.Stamp.{Stamp}
use Rattle.cs_trigram.specs.declared.queries.Query.{Query}
use Rattle.cs_index.specs.OpenedParts.{Parts, files_in}
use Rattle.cs_lines.specs.Findings.{Finding}
use Rattle.cs_lines.specs.declared.form.ShowOptions.{ShowOptions}
use Rattle.cs_lines.specs.declared.search.LineSearch.{LineSearch}
use Rattle.cs_project.specs.Noted.{AreSeen}
use Rattle.cs_state.specs.Known.{HasNumbers, Known, is_old}
use Rattle.cs_state.specs.StampedNames.{Knows, stamped}
use Rattle.cs_known.specs.Learned.{IsLearnedIn, ReadsAs, ReadsAsBefore, Run, View}
use Rattle.cs_known.specs.Unprinted.{IsQueryOf, view_below}
use Rattle.cs_known.specs.declared.types.SeenFile.{SeenFile}
use Rattle.cs_learned.specs.Fresh.{ListedFile, PrintAlike, ReadsUnskipped, item_now, items_read}
use Rattle.cs_learned.specs.NotedFiles.{noted_below}

-- a run over the items and stamps of a tree, below a folder
abbrev pub run_below : List ℕ → (List ℕ → Item) → (List ℕ → Option Stamp) → ℕ → Run
run_below root items stamps moment = record { view = view_below root items stamps; moment = moment }

-- the file was noted, with its stamp
abbrev pub IsNoted : List SeenFile → Known → Type 0
IsNoted [] one = ⊥
IsNoted (file ∷ files) one = ((string_bytes file.name ≡ one.name) × (file.stamp ≡ one.stamp)) ⊎ IsNoted files one

-- It was noted, with a stamp that was old at the moment of the run, which then read it so.
pub record IsLearnedOf (run : Run) (files : List SeenFile) (parts : Parts) (one : Known) : Type 0 where
  pub noted : IsNoted files one
  pub old : is_old run.moment one.stamp ≡ true
  pub read : ReadsAs one.kept (map'.get (files_in parts) (stamped one)) (run.view.item one.name)

-- Over a state that knows what earlier runs learned, and what a run learned of the files that a search of the same tree noted, a
-- later search is a search of every file as it is now.
abbrev pub LaterSearchesAreFresh : Type 0
LaterSearchesAreFresh = (root : List ℕ) (items : List ℕ → Item) (stamps : List ℕ → Option Stamp) (moment : ℕ) (noted : List SeenFile) →
    AreSeen stamps (noted_below root noted) → let run = run_below root items stamps moment in
    (runs : List Run) (parts : Parts) →
    ((one : Known) → HasNumbers one.stamp → Knows parts one → IsLearnedIn runs parts one ⊎ IsLearnedOf run noted parts one) →
    (now : View) → AllByRecursion (ReadsAsBefore now) (run ∷ runs) →
    (options : ShowOptions) (takes_binary : Bool) (search : LineSearch) (finding : Finding) (query : Query) →
    IsQueryOf search finding query → (is_read : ListedFile → Bool) →
    ReadsUnskipped options takes_binary query parts now is_read → (files : List ListedFile) →
    PrintAlike options takes_binary finding (items_read now is_read files) (map (item_now now) files)
