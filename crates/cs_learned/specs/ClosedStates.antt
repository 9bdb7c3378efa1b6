-- A state file that is not read yet, and what is known by a state however far its file is read.
use Rattle.std.specs.Prelude.{◌≡◌, ℕ, List, Option, Some, IfSome, false}
use Rattle.cs_lines.specs.declared.search.LineSearch.{LineSearch}
use Rattle.cs_trigram.specs.declared.queries.Query.{Query}
use Rattle.cs_index.specs.OpenedParts.{Parts}
use Rattle.cs_project.specs.Knowledge.{SearchedTree}
use Rattle.cs_project.specs.Searched.{binary_as}
use Rattle.cs_state.specs.StateFile.{IsState}
use Rattle.cs_known.specs.KnownFiles.{AreOptions}
use Rattle.cs_known.specs.Learned.{Run, StillHolds}
use Rattle.cs_known.specs.Unprinted.{IsQueryOf, view_below}
use Rattle.cs_known.specs.declared.types.KnownFiles.{KnownFiles}
use Rattle.cs_known.specs.declared.types.SkipOptions.{SkipOptions}
use Rattle.cs_learned.specs.KnownProjects.{IsKnownFor}
use Rattle.cs_learned.specs.declared.closed_state.ClosedState.{ClosedState}
use Rattle.cs_learned.specs.declared.closed_state.PreparedState.{PreparedState}

-- Files are asked for by a query that loses no line of the search, and skipped by its options.
abbrev pub AsksFor : SkipOptions → Query → SearchedTree → Type 0
AsksFor options query tree = (search : LineSearch) × IsQueryOf search tree.finding query
    × AreOptions tree.options (binary_as tree.binary false) options

module _ {S : Type 0} (model : S → Option (List ℕ)) where
  -- The file is a state of the key that earlier runs learned below the folder, and still holds for the items and stamps of the tree.
  pub record IsLeftFor (root : List ℕ) (tree : SearchedTree) (closed : ClosedState S) : Type 0 where
    pub bytes : List ℕ
    pub parts : Parts
    pub runs : List Run
    pub file : model closed.file ≡ Some bytes
    pub is_state : IsState closed.key bytes parts
    pub holds : StillHolds runs parts (view_below root tree.items tree.stamps)

  abbrev pub IsPreparedFor : List ℕ → SearchedTree → PreparedState S → Type 0
  IsPreparedFor root tree prepared =
      IsLeftFor root tree prepared.closed × AsksFor prepared.options prepared.query tree

  -- the file is not read yet
  abbrev pub IsUnread : List ℕ → Option (ClosedState S) → Option (PreparedState S) → SearchedTree → Type 0
  IsUnread root closed prepared tree = IfSome closed (IsLeftFor root tree) × IfSome prepared (IsPreparedFor root tree)

  abbrev pub IsStillKnown : {B : Type 0} → (B → Option (List ℕ)) → List ℕ →
      Option (ClosedState S) → Option (PreparedState S) → Option (KnownFiles B) → SearchedTree → Type 0
  IsStillKnown index_model root closed prepared files tree =
      IsUnread root closed prepared tree × IsKnownFor index_model root files tree
