-- The names along a path, as a walk is given its start. docs/PROMISES.md, "Rules".
use Rattle.std.specs.Prelude.{ℕ, List, [], ◌∷◌, Option, Some, None, filter_map}
use Rattle.cs_tree.specs.Clean.{elements}

-- an empty element is no name
abbrev pub name_in : List ℕ → Option (List ℕ)
name_in [] = None
name_in (b ∷ text) = Some (b ∷ text)

abbrev pub names_along : List ℕ → List (List ℕ)
names_along path = filter_map name_in (elements path)
