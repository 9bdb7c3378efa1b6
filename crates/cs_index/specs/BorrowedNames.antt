-- Borrowed names with their ids.
use Rattle.std.specs.Prelude.{ℕ, List, map}
use Rattle.std.specs.Borrow.{Bor}
use Rattle.cs_index.specs.Order.{NameWithId}

abbrev pub borrowed_names : List (Bor (List ℕ) × ℕ) → List NameWithId
borrowed_names named = map (λ n. (n.0.now, n.1)) named
