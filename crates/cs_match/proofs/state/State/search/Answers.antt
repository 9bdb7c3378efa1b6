use Rattle.std.proofs.Common.{◌≡◌, true, length, get_or, refl, sym, ◌∙◌, ap, arith, below_more, ◌+◌}
use Rattle.std.proofs.lemmas.List.{take_all}
use Rattle.cs_match.specs.declared.state.State.{State}
use Rattle.cs_match.specs.Glushkov.{accepts, accepts_in}
use Rattle.cs_match.specs.Work.{step_work}
use Rattle.cs_match.proofs.PositionCountLemmas.{scaled}
use Rattle.cs_match.specs.States.{state, next_state, ahead, look_at_end}
use Rattle.cs_match.proofs.DecidabilityLemmas.{found_at, found_last}
use Rattle.cs_match.proofs.StateLemmas.{length-state, next_more, accepts_ahead, accepts_by_end}
use Rattle.cs_match.proofs.state.State.search.Goals as goal

pub step_in_line-requires-clause-one_each : goal.step_in_line-requires-clause-one_each
step_in_line-requires-clause-one_each c =
    ap (λ (n : State). length n.positions) c.loop-b.invariant.here ∙ length-state c.args.program.now c.args.line.now
    c.loop-b.b-index (omega arith)

pub end-requires : goal.end-requires
end-requires c = record {
  one_each = ap (λ (n : State). length n.positions) c.loop-b.invariant.here
      ∙ length-state c.args.program.now c.args.line.now c.loop-b.b-index (omega arith);
  scratch = c.loop-b.invariant.scratch;
}

pub returns-then-step_in_line-clause-found : goal.returns-then-step_in_line-clause-found
returns-then-step_in_line-clause-found c =
    let t = c.args.program.now in
    let line = c.args.line.now in
    let i = c.loop-b.b-index in
    let byte = get_or line i 0 in
    let accepting : accepts_in line t i ≡ true =
    sym (accepts_ahead t line i (omega arith)) ∙ ap (λ (n : State). accepts t true n.positions (ahead t n byte))
    (sym c.loop-b.invariant.here) ∙ sym c.step_in_line.ensures.accepting ∙ c.if-step_in_line.true in
    let f = found_at t line c.requires.expanded i (omega arith) accepting in
    (λ _. f, λ _. refl)

pub returns-then-step_in_line-clause-one_each : goal.returns-then-step_in_line-clause-one_each
returns-then-step_in_line-clause-one_each c =
    let t = c.args.program.now in
    let line = c.args.line.now in
    let i = c.loop-b.b-index in
    ap (λ (n : State). length n.positions) (c.step_in_line.ensures.moved
    ∙ ap (λ (n : State). next_state t n (get_or line i 0)) c.loop-b.invariant.here ∙ next_more t line i (omega arith))
    ∙ length-state t line (i + 1) (omega arith)

pub loop-b-preserved : goal.loop-b-preserved
loop-b-preserved c =
    let t = c.args.program.now in
    let line = c.args.line.now in
    let i = c.loop-b.b-index in
    let given = c.loop-b.invariant in
    let byte = get_or line i 0 in
    let stays = sym (accepts_ahead t line i (omega arith))
    ∙ ap (λ (n : State). accepts t true n.positions (ahead t n byte)) (sym given.here)
    ∙ sym c.step_in_line.ensures.accepting ∙ c.if-step_in_line.false in
    record {
      rises = omega (arith, given.rises, c.step_in_line.ensures.cost.0);
      cost = omega (arith, given.cost, c.step_in_line.ensures.cost.1);
      here = c.step_in_line.ensures.moved ∙ ap (λ (n : State). next_state t n byte) given.here ∙ next_more t line i (omega arith);
      scratch = c.step_in_line.ensures.scratch;
      none = below_more _ _ given.none stays;
    }

pub returns-clause-found : goal.returns-clause-found
returns-clause-found c =
    let t = c.args.program.now in
    let line = c.args.line.now in
    let i = c.loop-b.b-index in
    let given = c.loop-b.invariant in
    let here = given.here ∙ ap (state t) (take_all i line (omega arith)) in
    let ends = c.end.ensures.accepting ∙ ap (λ (n : State). accepts t true n.positions (look_at_end n)) here ∙ accepts_by_end t line in
    found_last t line c.requires.expanded _ ends (λ k lt. given.none k (omega arith))

pub returns-then-step_in_line-clause-cost : goal.returns-then-step_in_line-clause-cost
returns-then-step_in_line-clause-cost c =
    let i = c.loop-b.b-index in
    let n = length c.args.line.now in (
      omega (arith, c.loop-b.invariant.rises, c.step_in_line.ensures.cost.0),
      omega (arith, c.loop-b.invariant.cost, c.step_in_line.ensures.cost.1, scaled (i + 1) n (step_work c.args.program.now) (omega arith)),
    )

pub returns-clause-cost : goal.returns-clause-cost
returns-clause-cost c =
    let i = c.loop-b.b-index in
    let n = length c.args.line.now in (
      omega (arith, c.loop-b.invariant.rises, c.end.ensures.cost.0),
      omega (arith, c.loop-b.invariant.cost, c.end.ensures.cost.1, scaled i n (step_work c.args.program.now) (omega arith)),
    )
