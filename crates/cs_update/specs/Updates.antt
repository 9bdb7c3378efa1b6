-- What an update of a state does, and which states runs leave.
-- A state is an index of stamped names, which is merged with that of the files that were read anew (`merge_files` of cs_merge).
use Rattle.std.specs.Prelude.{◌≡◌, ◌⊎◌, true, List, [], ◌∷◌, Some, IsSome}
use Rattle.std.specs.FinMap as map'
use Rattle.cs_tree.specs.PathSet.{Paths}
use Rattle.cs_index.specs.Encoding.{Files}
use Rattle.cs_index.specs.OpenedParts.{Parts, files_in}
use Rattle.cs_merge.specs.Content.{LieUnder}
use Rattle.cs_merge.specs.Merge.{merge_files}
use Rattle.cs_state.specs.Known.{HasNumbers, Known, is_old}
use Rattle.cs_state.specs.StampedNames.{IsLearnable, stamped}
use Rattle.cs_known.specs.Learned.{Run, ReadsAs, IsLearned}

-- This run read the file, whose stamp was old, and it reads as what it is known as; the own index has its trigrams.
pub record IsReadAnew (now : Run) (own : Files) (one : Known) : Type 0 where
  pub stamp : now.view.stamp one.name ≡ Some one.stamp
  pub old : is_old now.moment one.stamp ≡ true
  pub read : ReadsAs one.kept (map'.get own (stamped one)) (now.view.item one.name)

-- `paths` cover the names of the files that were looked at anew, and `own` is the index of those that were learned. Each file
-- whose stamped name is in it was read anew.
pub record Updates (now : Run) (paths : Paths) (own : Files) (old new : Parts) : Type 0 where
  pub under : LieUnder paths own
  pub files : files_in new ≡ merge_files paths (files_in old) own
  pub anew : (one : Known) → IsLearnable one.name → HasNumbers one.stamp → IsSome (map'.get own (stamped one)) → IsReadAnew now own one

-- An update keeps the premise of the next search.
abbrev pub UpdatesKeepLearned : Type 0
UpdatesKeepLearned = (now : Run) (paths : Paths) (own : Files) (old new : Parts) → Updates now paths own old new →
    (runs : List Run) → IsLearned runs old → IsLearned (now ∷ runs) new

-- ---- all runs of a project

-- Before the first run nothing is known. A run leaves a state that an earlier one left, or an update of it.
abbrev pub IsLeftBy : List Run → Parts → Type 0
IsLeftBy [] state = state.names ≡ []
IsLeftBy (run ∷ runs) state = IsLeftBy runs state
    ⊎ ((old : Parts) × (paths : Paths) × (own : Files) × IsLeftBy runs old × Updates run paths own old state)

-- All that a state knows which runs left was learned in these runs.
abbrev pub LeftStatesAreLearned : Type 0
LeftStatesAreLearned = (runs : List Run) (state : Parts) → IsLeftBy runs state → IsLearned runs state
