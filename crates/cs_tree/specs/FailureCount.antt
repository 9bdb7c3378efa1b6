-- The number of failures after a call.
-- docs/PROMISES.md, "Sources and sinks".
use Rattle.std.specs.Prelude.{ℕ, Bool, Result, Ok, Err}
use Rattle.cs_tree.specs.Failures.{count_if}

-- the count after a call, given a test for the errors that are failures
abbrev pub count_after : {A E : Type 0} → (E → Bool) → Result A E → ℕ → ℕ
count_after is_failure (Ok answer) n = n
count_after is_failure (Err fault) n = count_if (is_failure fault) n
