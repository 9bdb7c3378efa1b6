-- The bytes of a state, before what they know is that of a run.
use Rattle.std.specs.Prelude.{◌≡◌, ◌<◌, ◌^◌, true, ℕ, List, length}
use Rattle.cs_tree.specs.Cover.{is_covered}
use Rattle.cs_tree.specs.PathSet.{Paths}
use Rattle.std.specs.List.{AllByRecursion}
use Rattle.cs_index.specs.Built.{Built, IsBuilt, file_map, path_set}
use Rattle.cs_index.specs.Encoding.{encoding_of, names_of}
use Rattle.cs_index.specs.OpenedParts.{Parts, files_in}
use Rattle.cs_merge.specs.Content.{DecodesAsContent}
use Rattle.cs_merge.specs.Merge.{merge_files}
use Rattle.cs_state.specs.StateFile.{sealed}
use Rattle.cs_state.specs.declared.state_key.StateSeal.{StateSeal}

-- The bytes are the index with this seal, and few enough for a state.
pub record AreStateBytes (seal : StateSeal) (index bytes : List ℕ) : Type 0 where
  pub are : bytes ≡ sealed seal index
  pub short : length bytes < 2 ^ 32

-- The bytes are the state of the index that was built.
pub record IsWritten (seal : StateSeal) (own : Built) (bytes : List ℕ) : Type 0 where
  pub built : IsBuilt own
  pub short : length (encoding_of own.paths own.entries) < 2 ^ 32
  pub state : AreStateBytes seal (encoding_of own.paths own.entries) bytes

-- The bytes are the state of an old index, merged with the one that was built.
pub record IsMergedState (seal : StateSeal) (own : Built) (old : Parts) (bytes : List ℕ) : Type 0 where
  pub all_paths : Paths
  pub index : List ℕ
  pub built : IsBuilt own
  pub covered : AllByRecursion (λ name. is_covered (path_set own) name ≡ true) (names_of own.entries)
  pub decoding : DecodesAsContent index all_paths (merge_files (path_set own) (files_in old) (file_map own))
  pub state : AreStateBytes seal index bytes
