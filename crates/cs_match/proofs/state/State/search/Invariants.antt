use Rattle.std.proofs.Common.{◌≡◌, ℕ, ◌+◌, ◌*◌, ◌<◌, ◌≤◌, take, false}
use Rattle.cs_match.specs.Glushkov.{position_count, accepts_in}
use Rattle.cs_match.specs.Masks.{IsScratch}
use Rattle.cs_match.specs.Work.{words, step_work}
use Rattle.cs_match.specs.States.{state}
use Rattle.cs_match.proofs.state.State.search.Given as goal

abbrev pub invariant-loop-b : goal.invariant-loop-b
invariant-loop-b l = record {
  rises : l.fn.steps.count ≤ l.steps.count;
  cost : l.steps.count ≤ l.fn.steps.count + (words (position_count l.program) + l.b-index * step_work l.program);
  here : l.self ≡ state l.program (take l.b-index l.line);
  scratch : IsScratch l.program l.scratch;
  none : (k : ℕ) → k < l.b-index → accepts_in l.line l.program k ≡ false;
}
