use Rattle.std.proofs.Common.{◌≡◌, ℕ, ◌+◌, ◌<◌, ◌≤◌, true, Bool, List, get_or}
use Rattle.cs_syntax.specs.Matching.{member}
use Rattle.cs_prefilter.proofs.word.Word.occurs.Given as goal

abbrev pub invariant-loop-i : goal.invariant-loop-i
invariant-loop-i l = record {
  found : (k : ℕ) (d : List Bool) → k < l.i → member (get_or l.self.sets.items k d) (get_or l.text (l.offset + k) 0) ≡ true;
  rises : l.fn.steps.count ≤ l.steps.count;
  work : l.steps.count ≤ l.fn.steps.count + l.i;
}
