-- The least paths of a list.
-- docs/FORMAT.md, "Paths and names".
use Rattle.std.specs.Prelude.{ℕ, List}
use Rattle.cs_tree.specs.PathSet as set
use Rattle.cs_tree.specs.Cover.{least}

-- the paths that no other path of the list covers, ascending
abbrev pub least_of : List (List ℕ) → List (List ℕ)
least_of paths = set.items (least (set.from_list paths))
