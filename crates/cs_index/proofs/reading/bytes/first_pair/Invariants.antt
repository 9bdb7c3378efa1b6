use Rattle.std.proofs.Common.{◌<◌, ◌-◌, ℕ, length}
use Rattle.cs_index.specs.Nuls.{IsPairAt}
use Rattle.cs_index.proofs.reading.bytes.first_pair.Given as goal

abbrev pub invariant-spans : goal.invariant-spans
invariant-spans l = (k : ℕ) → k < l.at → IsPairAt l.bytes k → ⊥

abbrev pub decreases-spans : goal.decreases-spans
decreases-spans l = length l.bytes - l.at
