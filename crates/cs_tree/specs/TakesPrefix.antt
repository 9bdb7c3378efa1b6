-- What a call prints, also when it returns an error: a prefix of its output.
-- docs/PROMISES.md, "What is printed".
use Rattle.std.specs.Prelude.{ℕ, ◌⊎◌, List, take, Option, Result, MatchResult}
use Rattle.cs_tree.specs.Sinks.{SinkModel, Grows, GrowsFlushed}

-- a prefix of these bytes was written
pub record TakesPrefix (bytes : List ℕ) (sink later : Option SinkModel) : Type 0 where
  pub count : ℕ
  pub grows : Grows sink later (take count bytes)

-- All of them were written and flushed. On error a prefix of them was written.
abbrev pub EndsAfter : {A E : Type 0} → List ℕ → Option SinkModel → Option SinkModel → Result A E → Type 0
EndsAfter bytes sink later result =
    MatchResult result (λ _. GrowsFlushed sink later bytes) (λ _. TakesPrefix bytes sink later)

-- A prefix of them was written, or all of them were written and flushed.
abbrev pub MayEnd : List ℕ → Option SinkModel → Option SinkModel → Type 0
MayEnd bytes sink later = TakesPrefix bytes sink later ⊎ GrowsFlushed sink later bytes
