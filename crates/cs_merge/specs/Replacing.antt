-- When the newer index replaces the old one as a whole.
-- docs/PROMISES.md, "Merging".
use Rattle.std.specs.Prelude.{◌≡◌, ℕ, Bool, true, ◌&&◌, List}
use Rattle.std.specs.List.{list_all}
use Rattle.cs_tree.specs.PathSet.{Paths}
use Rattle.cs_tree.specs.Cover.{is_covered}
use Rattle.cs_index.specs.OpenedParts.{Parts}

-- the newer paths cover every name that the old paths cover
abbrev pub IsCoveredBy : Paths → Paths → Type 0
IsCoveredBy old newer = (name : List ℕ) → is_covered old name ≡ true → is_covered newer name ≡ true

-- the newer paths cover all paths and names of an index
abbrev pub is_replaced : Paths → Parts → Bool
is_replaced newer old = list_all (is_covered newer) old.paths && list_all (is_covered newer) old.names
