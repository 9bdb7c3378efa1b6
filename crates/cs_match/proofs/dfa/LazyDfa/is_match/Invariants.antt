use Rattle.std.proofs.Common.{◌≡◌, ℕ, ◌+◌, ◌*◌, ◌<◌, ◌≤◌, take, false}
use Rattle.cs_match.specs.Glushkov.{accepts_in}
use Rattle.cs_match.specs.States.{state}
use Rattle.cs_match.specs.Work.{byte_work}
use Rattle.cs_match.specs.ConsistentDfa.{HasState}
use Rattle.cs_match.proofs.dfa.LazyDfa.is_match.Given as goal

abbrev pub invariant-loop-b : goal.invariant-loop-b
invariant-loop-b l = record {
  rises : l.fn.steps.count ≤ l.steps.count;
  work : l.steps.count ≤ l.fn.steps.count + l.b-index * byte_work l.fn.self.tree;
  same : l.self.tree ≡ l.fn.self.tree;
  number : HasState l.self l.number (state l.fn.self.tree (take l.b-index l.line));
  none : (k : ℕ) → k < l.b-index → accepts_in l.line l.fn.self.tree k ≡ false;
}
