-- Covering as a relation. `covers` of `specs/Cover.antt` decides it.
-- docs/FORMAT.md, "Paths and names".
use Rattle.std.specs.Prelude.{◌≡◌, ℕ, List, [], ◌∷◌, ◌++◌}
use Rattle.std.specs.Path.{slash}

-- the path covers the name: it is the name, an ancestor of the name, or the root
pub data Covers (path name : List ℕ) : Type 0 where
  itself : path ≡ name → Covers path name
  below : (rest : List ℕ) → name ≡ path ++ slash ∷ rest → Covers path name
  root : (rest : List ℕ) → path ≡ slash ∷ [] → name ≡ slash ∷ rest → Covers path name
