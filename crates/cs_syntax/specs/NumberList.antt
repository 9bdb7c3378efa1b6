-- Membership in a list of numbers.
use Rattle.std.specs.Prelude.{ℕ, Bool, List, nat_eq}
use Rattle.std.specs.List.{list_any}

-- the list has the number
abbrev pub has : List ℕ → ℕ → Bool
has numbers n = list_any (λ m. nat_eq m n) numbers
