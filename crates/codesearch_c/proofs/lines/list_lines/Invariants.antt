use Rattle.std.proofs.Common.{◌≡◌, ◌-◌, ◌≤◌, Bool, List, ℕ}
use Rattle.cs_match.specs.Deciding.{Decides}
use Rattle.codesearch_c.specs.MatchingLines.{AreListedTo}
use Rattle.codesearch_c.proofs.lines.list_lines.Given as goal

abbrev pub invariant-lists : goal.invariant-lists
invariant-lists l = record {
  within : l.offset ≤ l.whole;
  fewer : l.count ≤ l.offset;
  listed : (has_match : List ℕ → Bool) → Decides has_match l.fn.matcher.tree → AreListedTo has_match l.block l.fn.lines
      l.lines l.count l.offset;
  same : l.matcher.tree ≡ l.fn.matcher.tree;
}

abbrev pub decreases-lists : goal.decreases-lists
decreases-lists l = l.whole - l.offset
