use Rattle.std.proofs.Common.{◌+◌, ◌*◌, ◌≤◌}
use Rattle.cs_match.proofs.cached_states.CachedStates.find.Given as goal

abbrev pub invariant-loop-probe : goal.invariant-loop-probe
invariant-loop-probe l = record {
  rises : l.fn.steps.count ≤ l.steps.count;
  work : l.steps.count ≤ l.fn.steps.count + (l.probe + 1) * (l.words + 1);
}
