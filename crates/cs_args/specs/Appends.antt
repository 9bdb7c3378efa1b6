-- The effect of appending to a line.
use Rattle.std.specs.Prelude.{◌≡◌, ℕ, List, ◌++◌, Result, OnOk, String, string_bytes}

-- on success the text is appended to the line
abbrev pub Appends : {X E Z : Type 0} → String Z → String Z → List ℕ → Result X E → Type 0
Appends old new text result = OnOk result (string_bytes new ≡ string_bytes old ++ text)
