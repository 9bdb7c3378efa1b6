-- One print after another, and a print to a sink.
use Rattle.std.proofs.Common.{◌≡◌, ℕ, List, [], ◌++◌, append-nil, append_assoc, true, false, Option, None, Some, refl, sym, ap, subst, ◌∙◌}
use Rattle.std.specs.Prelude.{MatchOption, is_some}
use Rattle.std.proofs.lemmas.Bool.{false≢true}
use Rattle.cs_tree.specs.Failures.{count_if}
use Rattle.cs_tree.specs.Sinks.{SinkModel, Grows}
use Rattle.cs_tree.specs.TakesPrefix.{TakesPrefix}
use Rattle.cs_tree.specs.Transfers.{is_io_failure}
use Rattle.cs_tree.specs.declared.fault.IoFault.{IoFault}
use Rattle.cs_tree.proofs.PrefixLemmas.{prefix_left, prefix_right}
use Rattle.cs_tree.specs.SinkOutputs.{Keeps, given, failures_after}
use Rattle.cs_tree.specs.declared.sink_output.SinkOutput.{SinkOutput}

-- what a sink has of what was printed
abbrev Has : Option IoFault → Option SinkModel → Option SinkModel → List ℕ → Type 0
Has fault start now bytes = MatchOption fault (Grows start now bytes) (λ _. TakesPrefix bytes start now)

-- after a fault nothing more is written
pub has_past : (fault : Option IoFault) (start now : Option SinkModel) (old bytes new : List ℕ) → is_some fault ≡ true → new ≡ old ++ bytes →
    Has fault start now old → Has fault start now new
has_past None start now old bytes new some e has = absurd (false≢true some)
has_past (Some fault) start now old bytes new some e has =
    subst (λ (l : List ℕ). TakesPrefix l start now) (sym e) (prefix_left old bytes start now has)

-- a write that fails
pub has_failed : (fault : Option IoFault) (start was now : Option SinkModel) (old bytes new : List ℕ) → is_some fault ≡ false → new ≡ old ++ bytes →
    TakesPrefix bytes was now → Has fault start was old → TakesPrefix new start now
has_failed None start was now old bytes new none e prefix has =
    subst (λ (l : List ℕ). TakesPrefix l start now) (sym e) (prefix_right old bytes start was now has prefix)
has_failed (Some fault) start was now old bytes new none e prefix has = absurd (false≢true (sym none))

pub counts_failed : (fault : Option IoFault) (count n : ℕ) (next : IoFault) → is_some fault ≡ false → n ≡ failures_after fault count →
    count_if (is_io_failure next) n ≡ failures_after (Some next) count
counts_failed None count n next none e = ap (count_if (is_io_failure next)) e
counts_failed (Some fault) count n next none e = absurd (false≢true (sym none))

module _ {O : Type 0} (model : O → Option SinkModel) (failed : O → ℕ) where
  pub keeps_same : (x : SinkOutput O) → Keeps model failed x x
  keeps_same x = record { reference = refl; grows = ([], sym (append-nil (given x))); handed = λ start has. has; counted = λ count is. is }

  pub keeps_then : (x y z : SinkOutput O) → Keeps model failed x y → Keeps model failed y z → Keeps model failed x z
  keeps_then x y z a b = record {
    reference = b.reference ∙ a.reference;
    grows = (a.grows.0 ++ b.grows.0, b.grows.1 ∙ ap (λ (l : List ℕ). l ++ b.grows.0) a.grows.1 ∙ append_assoc (given x) a.grows.0 b.grows.0);
    handed = λ start has. b.handed start (a.handed start has);
    counted = λ count is. b.counted count (a.counted count is);
  }
