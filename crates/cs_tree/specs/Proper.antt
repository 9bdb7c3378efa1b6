-- Clean paths by their elements. Laws say that cleaning leaves exactly these unchanged.
-- docs/FORMAT.md, "Paths and names".
use Rattle.std.specs.Prelude.{ℕ, Bool, false, not, ◌&&◌, ◌||◌, nat_eq, List, [], ◌∷◌, codes, bytes_eq}
use Rattle.std.specs.Path.{slash}
use Rattle.std.specs.List.{list_all}
use Rattle.cs_tree.specs.Clean.{elements}

-- an element that cleaning keeps
abbrev pub is_proper : List ℕ → Bool
is_proper element = not (bytes_eq element [] || bytes_eq element (codes ".")) && not (bytes_eq element (codes ".."))

-- whether a path is a slash and proper elements; the root is not such a path
abbrev pub is_proper_path : List ℕ → Bool
is_proper_path [] = false
is_proper_path (b ∷ rest) = nat_eq b slash && list_all is_proper (elements rest)
