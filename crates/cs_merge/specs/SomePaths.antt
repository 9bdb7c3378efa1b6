-- Sublists of the paths of an index.
use Rattle.std.specs.Prelude.{◌≡◌, ℕ, Bool, true, List}
use Rattle.std.specs.List.{list_any}

-- each member of the first list is a member of the second
abbrev pub AreAmong : List (List ℕ) → List (List ℕ) → Type 0
AreAmong some all = (test : List ℕ → Bool) → list_any test some ≡ true → list_any test all ≡ true
