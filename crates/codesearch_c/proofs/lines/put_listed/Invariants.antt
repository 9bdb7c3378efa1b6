use Rattle.std.proofs.Common.{◌≡◌, ◌≤◌, ◌++◌, Bool, List, ℕ, drop}
use Rattle.cs_match.specs.Deciding.{Decides}
use Rattle.cs_match.specs.MatchingEnds.{matching_ends}
use Rattle.codesearch_c.specs.declared.lines.LineBounds.{LineBounds}
use Rattle.codesearch_c.specs.MatchingLines.{AreListedTo}
use Rattle.codesearch_c.proofs.lines.put_listed.Given as goal

abbrev pub invariant-loop-end : goal.invariant-loop-end
invariant-loop-end l = record {
  low : l.fn.part.start ≤ l.offset;
  high : l.offset ≤ l.fn.part.end;
  fewer : l.count ≤ l.offset;
  ends : (has_match : List ℕ → Bool) → Decides has_match l.matcher.tree →
      drop l.end-index l.matcher.ends ≡ matching_ends has_match l.text l.offset l.fn.part.end;
  listed : (has_match : List ℕ → Bool) → Decides has_match l.matcher.tree → (rest : List ℕ) → (old : List LineBounds) →
      AreListedTo has_match (l.text ++ rest) old l.fn.lines l.fn.count l.fn.part.start →
      AreListedTo has_match (l.text ++ rest) old l.lines l.count l.offset;
}
