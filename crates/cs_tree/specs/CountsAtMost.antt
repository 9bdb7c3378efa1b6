-- What a call does to the counter of steps.
use Rattle.std.specs.Prelude.{ℕ, ◌+◌, ◌≤◌}
use Rattle.cs_tree.specs.declared.steps.Steps.{Steps}

-- the call counts at most so many steps, and takes back none that was counted before
abbrev pub CountsAtMost : ℕ → Steps → Steps → Type 0
CountsAtMost bound old new = (old.count ≤ new.count) × (new.count ≤ old.count + bound)
