-- Where an element of a name ends.
-- docs/FORMAT.md, "Paths and names".
use Rattle.std.specs.Prelude.{ℕ, Bool, true, nat_eq, List, [], ◌∷◌}
use Rattle.std.specs.Path.{slash}

-- whether an element ends where this rest of a text begins: the rest is empty or begins with a slash
abbrev pub ends_element : List ℕ → Bool
ends_element [] = true
ends_element (b ∷ rest) = nat_eq b slash
