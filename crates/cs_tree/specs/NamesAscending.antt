-- Strictly ascending lists of names.
-- docs/FORMAT.md, "Paths and names".
use Rattle.std.specs.Prelude.{ℕ, Bool, true, ◌&&◌, List, [], ◌∷◌}
use Rattle.std.specs.Ordering.{is_lt}
use Rattle.cs_tree.specs.NameOrder.{bytes_cmp}

-- each name is less than the next one
abbrev pub are_ascending : List (List ℕ) → Bool
are_ascending [] = true
are_ascending (a ∷ []) = true
are_ascending (a ∷ b ∷ names) = is_lt (bytes_cmp a b) && are_ascending (b ∷ names)
