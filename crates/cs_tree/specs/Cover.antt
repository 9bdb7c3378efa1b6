-- Which names a path covers, and the least paths of a set. Paths and names are lists of bytes. docs/FORMAT.md, "Paths
-- and names".
use Rattle.std.specs.Prelude.{ℕ, Bool, not, ◌&&◌, ◌||◌, nat_eq, List, [], ◌∷◌, ◌++◌, bytes_eq}
use Rattle.std.specs.Path.{slash}
use Rattle.cs_tree.specs.PathSet.{Paths}
pub use Rattle.cs_tree.specs.Elements.{is_among}
use Rattle.std.specs.List.{list_any, starts_with}
use Rattle.cs_tree.specs.PathSet as set

-- whether the first text is a prefix of the second
abbrev pub begins : List ℕ → List ℕ → Bool
begins prefix text = starts_with nat_eq text prefix

-- whether a path is absolute
abbrev pub is_absolute : List ℕ → Bool
is_absolute path = begins (slash ∷ []) path

-- whether the path is a proper ancestor of the name: the name is the path, a slash, and more
abbrev pub is_ancestor : List ℕ → List ℕ → Bool
is_ancestor path name = begins (path ++ slash ∷ []) name

-- whether the path covers the name
abbrev pub covers : List ℕ → List ℕ → Bool
covers path name = bytes_eq path name || (is_ancestor path name || (bytes_eq path (slash ∷ []) && is_absolute name))

-- whether some path covers the name
abbrev pub is_covered : Paths → List ℕ → Bool
is_covered paths name = list_any (λ path. covers path name) (set.items paths)

-- whether no other one of the paths covers the path
abbrev pub is_alone : List (List ℕ) → List ℕ → Bool
is_alone paths path = not (list_any (λ other. covers other path && not (bytes_eq other path)) paths)

-- the least paths: those that no other path of the set covers
abbrev pub least : Paths → Paths
least paths = set.retain paths (is_alone (set.items paths))
