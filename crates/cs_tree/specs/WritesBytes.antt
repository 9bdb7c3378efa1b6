-- The effect of a call that writes and does not flush. docs/PROMISES.md, "Sources and sinks".
use Rattle.std.specs.Prelude.{ℕ, List, Option, Result, MatchResult}
use Rattle.cs_tree.specs.Sinks.{SinkModel, Grows}
use Rattle.cs_tree.specs.TakesPrefix.{TakesPrefix}

-- All bytes were written. On error a prefix of them was written.
abbrev pub WritesBytes : {A E : Type 0} → List ℕ → Option SinkModel → Option SinkModel → Result A E → Type 0
WritesBytes bytes sink later result =
    MatchResult result (λ _. Grows sink later bytes) (λ _. TakesPrefix bytes sink later)
