-- Well-formed paths and histories: paths are clean, and folders list UTF-8 names.
-- docs/FORMAT.md, "Paths and names".
use Rattle.std.specs.Prelude.{◌≡◌, ℕ, true, List, IsUtf8}
use Rattle.cs_tree.specs.Folders.{IsTree, are_distinct}
use Rattle.cs_tree.specs.PathSet.{Paths}
use Rattle.std.specs.List.{list_all}
use Rattle.cs_tree.specs.PathSet as set
use Rattle.cs_tree.specs.Cleaning.{is_normalized}
use Rattle.cs_index.specs.Decoding.{DecodesAs}
use Rattle.cs_index.specs.OpenedParts.{Parts, are_covered, are_whole}
use Rattle.cs_history.specs.History.{Update, History, nothing, existing, ◌⊳◌}

-- ---- paths

-- each path of a set is clean: UTF-8, and normalized
abbrev pub AreClean : Paths → Type 0
AreClean paths =
    (path : List ℕ) → set.contains paths path ≡ true → IsUtf8 path × (is_normalized path ≡ true)

-- ---- histories

-- a job with clean paths over a well-formed tree
pub record IsUpdate (update : Update) : Type 0 where
  pub tree_is : IsTree update.tree
  pub given_are : AreClean update.given

-- An index that can be merged with another one: no list is damaged, its names are distinct, and its paths cover them.
pub record IsMergeable (parts : Parts) : Type 0 where
  pub whole : are_whole parts ≡ true
  pub distinct : are_distinct parts.names ≡ true
  pub covered : are_covered parts ≡ true

-- An index that a history may start from, whoever wrote it: the bytes decode as these parts, each path is normalized,
-- and it can be merged with another index.
pub record IsStartIndex (bytes : List ℕ) (parts : Parts) : Type 0 where
  pub decoded : DecodesAs bytes parts
  pub normalized : list_all is_normalized parts.paths ≡ true
  pub mergeable : IsMergeable parts

abbrev pub IsHistory : History → Type 0
IsHistory nothing = Unit {0}
IsHistory (existing bytes parts) = IsStartIndex bytes parts
IsHistory (update ⊳ before) = IsUpdate update × IsHistory before
