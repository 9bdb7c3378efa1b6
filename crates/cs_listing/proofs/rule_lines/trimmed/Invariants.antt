use Rattle.std.proofs.Common.{◌≡◌, ◌≤◌, length, drop}
use Rattle.cs_listing.specs.RuleFiles.{trimmed, trimmed_after}
use Rattle.cs_listing.proofs.LineLemmas.{stays}
use Rattle.cs_listing.proofs.rule_lines.trimmed.Given as goal

-- how many bytes stay depends on how many of the rest stay
abbrev pub invariant-loop-at : goal.invariant-loop-at
invariant-loop-at l = record {
  same : length (trimmed l.line) ≡ stays l.kept l.at (length (trimmed_after l.is_quoted (drop l.at l.line)));
  within : l.kept ≤ l.at;
}
