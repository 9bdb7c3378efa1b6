-- What an optional borrow lends.
use denote.Ref.{Bor}
use Rattle.std.specs.Prelude.{Option, Some, None}

-- what a borrow lends, if there is one
abbrev pub lent : {A : Type 0} → Option (Bor A) → Option A
lent None = None
lent (Some part) = Some part.now
