-- A call that reads a store keeps its bytes and its length, and counts a failed read.
-- docs/PROMISES.md, "Sources and sinks".
use Rattle.std.specs.Prelude.{◌≡◌, ℕ, List, Option, Result}
use Rattle.cs_tree.specs.declared.fault.IoFault.{IoFault}
use Rattle.cs_tree.specs.FailureCount.{count_after}
use Rattle.cs_tree.specs.Transfers.{is_io_failure}

abbrev pub KeepsStore : {S A : Type 0} → (S → Option (List ℕ)) → (S → ℕ) → (S → ℕ) → S → S → Result A IoFault → Type 0
KeepsStore model size failed old new result =
    (model new ≡ model old) × (size new ≡ size old) × (failed new ≡ count_after is_io_failure result (failed old))
