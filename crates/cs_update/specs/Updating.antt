-- The bytes that a run leaves as the state of a project: an update of an earlier state, or a first one.
use Rattle.std.specs.Prelude.{ℕ, List, [], ◌∷◌, filter, map, Option}
use Rattle.std.specs.FinMap as map'
use Rattle.std.specs.Path.{slash}
use Rattle.cs_tree.specs.Cover.{least}
use Rattle.cs_tree.specs.PathSet.{Paths}
use Rattle.cs_tree.specs.PathSet as set
use Rattle.cs_index.specs.Encoding.{Files}
use Rattle.cs_index.specs.OpenedParts.{Parts}
use Rattle.cs_index.specs.Stored.{StoredParts}
use Rattle.cs_known.specs.Learned.{Run}
use Rattle.cs_state.specs.OpenedStates.{HasIndex}
use Rattle.cs_state.specs.StampedNames.{cover_of}
use Rattle.cs_state.specs.StateFile.{IsState}
use Rattle.cs_state.specs.declared.state_key.StateKey.{StateKey}
use Rattle.cs_update.specs.Learning.{Seen, all_learned, entry_in, is_learnable}
use Rattle.cs_update.specs.Updates.{Updates}

-- the covers of the names that were seen and can be learned
abbrev pub covers_seen : List Seen → List (List ℕ)
covers_seen seen = map cover_of (filter is_learnable (map (λ (one : Seen). one.0) seen))

-- the same as the paths of an index: none of them covers another
abbrev pub paths_seen : List Seen → Paths
paths_seen seen = least (set.from_list (covers_seen seen))

-- the index of the files that were learned
abbrev pub own_files : Run → List Seen → Files
own_files run seen = map'.from_entries (map entry_in (all_learned run seen))

-- The bytes are a state, sealed with the key, that updates the old one by what the run learned of the files that it saw.
pub record IsUpdateOf (key : StateKey) (run : Run) (seen : List Seen) (paths : Paths) (old : Parts) (bytes : List ℕ) : Type 0 where
  pub new : Parts
  pub state : IsState key bytes new
  pub updates : Updates run paths (own_files run seen) old new

-- a state that knows nothing
abbrev pub no_state : Parts
no_state = record { paths = []; names = []; entries = []; postings = [] }

abbrev pub root_paths : Paths
root_paths = set.from_list ((slash ∷ []) ∷ [])

-- the first state of a project
abbrev pub IsFirstState : StateKey → Run → List Seen → List ℕ → Type 0
IsFirstState key run seen bytes = IsUpdateOf key run seen root_paths no_state bytes

-- an update of an old one, which replaces what it knows of the files that were seen
abbrev pub IsUpdatedState : StateKey → Run → List Seen → Parts → List ℕ → Type 0
IsUpdatedState key run seen old bytes = IsUpdateOf key run seen (paths_seen seen) old bytes

-- The index that is open in a store is that of this state.
pub record IsOpenState (model : Option (List ℕ)) (stored : StoredParts) (old : Parts) : Type 0 where
  pub key : StateKey
  pub bytes : List ℕ
  pub has : HasIndex bytes model stored
  pub is : IsState key bytes old
