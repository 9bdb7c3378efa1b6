use Rattle.std.proofs.Common.{ℕ, ◌<◌, ◌≤◌, length}
use Rattle.cs_trigram.specs.EndStrings.{end_product}
use Rattle.cs_trigram.proofs.end_strings.concatenate_end_strings.Given as goal

abbrev pub invariant-cut : goal.invariant-cut
invariant-cut l = (l.longest ≤ 3) × ((n : ℕ) → l.longest < n → n ≤ 3 → 20 < length (end_product n l.nears l.fars))

abbrev pub decreases-cut : goal.decreases-cut
decreases-cut l = l.longest
