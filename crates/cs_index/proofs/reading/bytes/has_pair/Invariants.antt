use Rattle.std.proofs.Common.{◌<◌, ℕ, suc}
use Rattle.cs_index.specs.Nuls.{IsPairAt}
use Rattle.cs_index.proofs.reading.bytes.has_pair.Given as goal

abbrev pub invariant-loop-at : goal.invariant-loop-at
invariant-loop-at l = 0 < l.least → (k : ℕ) → suc k < l.at → IsPairAt l.span k → ⊥
