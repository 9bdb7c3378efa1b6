-- The effect of appending to a line.
use Rattle.std.proofs.Common.{◌≡◌, ℕ, cond, List, ◌++◌, Result, Ok, Err}
use Rattle.std.specs.Prelude.{is_ok, OnOk}

pub pushed : {T E : Type 0} (answer : Result T E) (old new text : List ℕ) → new ≡ cond (is_ok answer) (old ++ text) old
    → OnOk answer (new ≡ old ++ text)
pushed (Ok done) old new text is = is
pushed (Err fault) old new text is = tt
