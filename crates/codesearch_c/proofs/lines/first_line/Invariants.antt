use Rattle.std.proofs.Common.{◌≡◌, ◌-◌, ◌≤◌, ℕ, List, Bool, length}
use Rattle.cs_match.specs.Deciding.{Decides}
use Rattle.cs_match.specs.Skipped.{AreLinesBetween}
use Rattle.codesearch_c.specs.MatchingLines.{matching_lines}
use Rattle.codesearch_c.proofs.lines.first_line.Given as goal

abbrev pub invariant-parts : goal.invariant-parts
invariant-parts l = record {
  lines : l.fn.from ≤ length l.block → AreLinesBetween l.block l.fn.from l.start;
  low : l.fn.from ≤ l.start;
  none : (has_match : List ℕ → Bool) → Decides has_match l.fn.matcher.tree → matching_lines has_match l.block l.fn.from
      ≡ matching_lines has_match l.block l.start;
  same : l.matcher.tree ≡ l.fn.matcher.tree;
}

abbrev pub decreases-parts : goal.decreases-parts
decreases-parts l = length l.block - l.start
