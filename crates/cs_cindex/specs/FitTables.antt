-- The tables of an old index that can be a base.
use Rattle.std.specs.Prelude.{◌≡◌, ℕ, true, List, None}
use Rattle.std.specs.List.{list_all}
use Rattle.cs_tree.specs.Cleaning.{is_normalized}
use Rattle.cs_tree.specs.Folders.{are_distinct}
use Rattle.cs_index.specs.OpenedParts.{Parts}
use Rattle.cs_index.specs.Tables.{TableParts, TablesIn}
use Rattle.cs_cindex.specs.Refusals.{unfit_parts_fault}

-- The tables are those of an index that can be a base.
pub record IsFit (tables : TableParts) : Type 0 where
  pub normalized : list_all is_normalized tables.paths ≡ true
  pub distinct : are_distinct tables.names ≡ true

-- The bytes are an index with these tables, which can be a base.
pub record IsFitFor (bytes : List ℕ) (tables : TableParts) : Type 0 where
  pub parts : Parts
  pub are : TablesIn bytes tables parts
  pub fit : unfit_parts_fault parts ≡ None
