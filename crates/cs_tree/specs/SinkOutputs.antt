-- What printing does to a sink.
use Rattle.std.specs.Prelude.{ℕ, ◌≡◌, List, ◌++◌, Option, MatchOption, None, Some}
use Rattle.cs_tree.specs.Failures.{count_if}
use Rattle.cs_tree.specs.Sinks.{SinkModel, Grows}
use Rattle.cs_tree.specs.TakesPrefix.{TakesPrefix}
use Rattle.cs_tree.specs.Transfers.{is_io_failure}
use Rattle.cs_tree.specs.declared.fault.IoFault.{IoFault}
use Rattle.cs_tree.specs.declared.sink_output.SinkOutput.{SinkOutput}

-- the bytes begin these
abbrev pub Begins : List ℕ → List ℕ → Type 0
Begins bytes all = (rest : List ℕ) × (all ≡ bytes ++ rest)

-- all that was printed
abbrev pub given : {O : Type 0} → SinkOutput O → List ℕ
given out = out.sent.bytes

-- The sink, which was `start`, has all that was printed; after a write that failed, a prefix of it.
abbrev pub HasHanded : {O : Type 0} → (O → Option SinkModel) → Option SinkModel → SinkOutput O → Type 0
HasHanded model start out = MatchOption out.fault (Grows start (model out.sink.now) (given out))
    (λ _. TakesPrefix (given out) start (model out.sink.now))

-- the failures of a sink that had so many before
abbrev pub failures_after : Option IoFault → ℕ → ℕ
failures_after None count = count
failures_after (Some fault) count = count_if (is_io_failure fault) count

-- what printing preserves; what was printed stays
pub record Keeps {O : Type 0} (model : O → Option SinkModel) (failed : O → ℕ) (old new : SinkOutput O) : Type 0 where
  pub reference : new.sink.ghost_name ≡ old.sink.ghost_name
  pub grows : Begins (given old) (given new)
  pub handed : (start : Option SinkModel) → HasHanded model start old → HasHanded model start new
  pub counted : (count : ℕ) → failed old.sink.now ≡ failures_after old.fault count → failed new.sink.now ≡ failures_after new.fault count

-- These bytes were printed.
abbrev pub Prints : {O : Type 0} → (O → Option SinkModel) → (O → ℕ) → SinkOutput O → SinkOutput O → List ℕ → Type 0
Prints model failed old new bytes = (given new ≡ given old ++ bytes) × Keeps model failed old new
