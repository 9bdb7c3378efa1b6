-- The bytes of the index of a history.
use Rattle.std.specs.Prelude.{ℕ, List, [], Some}
use Rattle.cs_history.specs.History.{History}
use Rattle.cs_history.specs.Premises.{Premises}

-- the index of the history is these bytes, fewer than 2^32
abbrev pub HasIndex : History → List ℕ → Type 0
HasIndex history bytes = Premises [] (Some bytes) history
