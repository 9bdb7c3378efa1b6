use Rattle.std.proofs.Common.{◌≡◌, ◌∙◌, length, arith}
use Rattle.cs_match.specs.Glushkov.{position_count}
use Rattle.cs_match.specs.Work.{words}
use Rattle.cs_match.proofs.SpanLemmas.{ready_length, next_set, next_unfinished}
use Rattle.cs_match.proofs.spans.pass.Pass.step.Goals as goal

pub step_over-accepts-requires-clause-one_each : goal.step_over-accepts-requires-clause-one_each
step_over-accepts-requires-clause-one_each c = ready_length _ _ _ _ _ _ _ c.requires.at

pub returns-clause-at : goal.returns-clause-at
returns-clause-at c =
    let t = c.args.program.now in
    let s = c.args.line.now in
    let whole = c.args.part.whole in
    let from = c.args.part.from in
    let until = c.args.part.until in
    let pass = c.args.self.now in
    let given = c.requires.at in
    record {
      positions = next_set whole t s from until c.args.offset pass.positions _ _ pass.unfinished _ _ given.positions given.unfinished
          c.look_around-here.ensures c.char_step-char.ensures c.may_begin.ensures c.step_over-accepts.ensures.positions;
      unfinished = c.unfinished-self.ensures
          ∙ next_unfinished t s c.args.offset pass.unfinished _ given.unfinished c.char_step-char.ensures;
      scratch = c.step_over-accepts.ensures.scratch;
    }

pub returns-clause-read : goal.returns-clause-read
returns-clause-read c =
    let t = c.args.program.now in
    let at = returns-clause-at c in
    let size : length c.step_over-accepts.new.positions ≡ position_count t = ready_length _ _ _ _ _ _ _ at in
    let cost = c.step_over-accepts.ensures.cost in
    let tested : c.div_ceil.result ≡ words (position_count t) = omega (arith, c.div_ceil.ensures, c.len.ensures, size) in
    record {
      bytes = 1;
      few = omega arith;
      read = c.add.ensures;
      left = c.saturating_sub-self.ensures;
      low = omega (arith, cost.0, c.add-2.ensures);
      high = omega (arith, cost.1, c.add-2.ensures, tested);
    }
