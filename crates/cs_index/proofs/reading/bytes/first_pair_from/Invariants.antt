use Rattle.std.proofs.Common.{◌≤◌, ◌<◌, ◌-◌, ℕ, length}
use Rattle.cs_index.specs.Nuls.{IsPairAt}
use Rattle.cs_index.proofs.reading.bytes.first_pair_from.Given as goal

abbrev pub invariant-bytes : goal.invariant-bytes
invariant-bytes l = (k : ℕ) → l.from ≤ k → k < l.at → IsPairAt l.bytes k → ⊥

abbrev pub decreases-bytes : goal.decreases-bytes
decreases-bytes l = length l.bytes - l.at
