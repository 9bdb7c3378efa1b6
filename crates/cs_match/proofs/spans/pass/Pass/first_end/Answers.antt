use Rattle.std.proofs.Common.{◌≡◌, ◌<◌, ◌+◌, ◌∙◌, true, sym, length, arith}
use Rattle.std.proofs.lemmas.Bool.{false≢true}
use Rattle.cs_match.specs.Passes.{ends_in}
use Rattle.cs_match.proofs.SpanLemmas.{ends_at, passed, none_begins, none_left, set_is_empty, is_ready}
use Rattle.cs_match.proofs.SpanWorkLemmas.{read_on}
use Rattle.cs_match.proofs.spans.pass.Pass.first_end.Goals.{else-step-via-then-step+else-part-offset, else-step-via-else-step, then-is_empty+else-part-since, else-is_empty}
use Rattle.cs_match.proofs.spans.pass.Pass.first_end.Goals as goal

pub loop-offset-init : goal.loop-offset-init
loop-offset-init c = record {
  at = c.begin.ensures.at c.args.part.whole c.args.part.until;
  none = λ start end m h. omega (arith, m.begins, m.ordered);
  since = λ start end m. m.begins;
  after = omega arith;
  read = c.begin.ensures.read;
}

pub returns-then-part-offset-clause-ends : goal.returns-then-part-offset-clause-ends
returns-then-part-offset-clause-ends c =
    ends_at c.args.part.whole c.args.program.now c.args.line.now c.requires.ready.2 c.args.part.from c.args.part.least c.args.part.until
    c.loop-offset.offset (omega (arith, c.loop-offset-test.true)) c.if-part-offset.true
    (sym c.step.ensures.ends ∙ c.if-step.true)

pub returns-then-part-offset-clause-ready : goal.returns-then-part-offset-clause-ready
returns-then-part-offset-clause-ready c = is_ready _ _ _ _ _ _ _ c.requires.ready.2 c.step.ensures.at

pub returns-then-part-since-clause-none : goal.returns-then-part-since-clause-none
returns-then-part-since-clause-none c =
    let whole = c.args.part.whole in
    let t = c.args.program.now in
    let s = c.args.line.now in
    let from = c.args.part.from in
    let until = c.args.part.until in
    let i = c.loop-offset.offset in
    let never : ends_in whole s t from until i ≡ true → i < c.args.part.least = elim c.else-step.branch [
      | else-step-via-then-step+else-part-offset w ↦ λ on. omega (arith, w.if-part-offset)
      | else-step-via-else-step w ↦ λ on. absurd (false≢true (sym w.if-step.false ∙ c.step.ensures.ends ∙ on))
    ] in
    none_begins whole t s c.requires.ready.2 from c.args.part.least until (i + 1) until (omega arith) c.if-part-since.true
    (passed whole t s c.requires.ready.2 from c.args.part.least until i never c.loop-offset.invariant.none)
    (set_is_empty whole t s from until (i + 1) c.step.new.self c.step.ensures.at (c.is_empty.ensures c.if-is_empty.true))

pub returns-then-part-since-clause-ready : goal.returns-then-part-since-clause-ready
returns-then-part-since-clause-ready c = is_ready _ _ _ _ _ _ _ c.requires.ready.2 c.step.ensures.at

pub loop-offset-preserved : goal.loop-offset-preserved
loop-offset-preserved c =
    let whole = c.args.part.whole in
    let t = c.args.program.now in
    let s = c.args.line.now in
    let from = c.args.part.from in
    let least = c.args.part.least in
    let until = c.args.part.until in
    let i = c.loop-offset.offset in
    let given = c.loop-offset.invariant in
    let never : ends_in whole s t from until i ≡ true → i < least = elim c.else-step.branch [
      | else-step-via-then-step+else-part-offset w ↦ λ on. omega (arith, w.if-part-offset)
      | else-step-via-else-step w ↦ λ on. absurd (false≢true (sym w.if-step.false ∙ c.step.ensures.ends ∙ on))
    ] in
    let none = passed whole t s c.requires.ready.2 from least until i never given.none in
    record {
      at = c.step.ensures.at;
      none = none;
      since = elim c.if-is_empty.branch [
        | then-is_empty+else-part-since w ↦
            rw w.since-is
            (none_begins whole t s c.requires.ready.2 from least until (i + 1) (i + 1) (omega (arith, w.if-part-since)) (omega arith) none
            (set_is_empty whole t s from until (i + 1) c.step.new.self c.step.ensures.at (c.is_empty.ensures w.if-is_empty.true)))
        | else-is_empty w ↦ rw w.since-is given.since
      ];
      after = elim c.if-is_empty.branch [
        | then-is_empty+else-part-since w ↦ omega (arith, w.since-is, c.loop-offset.auto.offset)
        | else-is_empty w ↦ omega (arith, w.since-is, given.after)
      ];
      read = read_on t (i + 1) 1 (i + 1 + 1) _ _ _ (omega arith) given.read c.step.ensures.read;
    }

pub returns-then-is_end-clause-ends : goal.returns-then-is_end-clause-ends
returns-then-is_end-clause-ends c =
    ends_at c.args.part.whole c.args.program.now c.args.line.now c.requires.ready.2 c.args.part.from c.args.part.least c.args.part.until _
    (omega arith) c.requires.within.1 (sym c.is_end.ensures.ends ∙ c.if-is_end.true)

pub returns-then-is_end-clause-ready : goal.returns-then-is_end-clause-ready
returns-then-is_end-clause-ready c = is_ready _ _ _ _ _ _ _ c.requires.ready.2 c.is_end.ensures.at

pub returns-clause-none : goal.returns-clause-none
returns-clause-none c =
    none_left c.args.part.whole c.args.program.now c.args.line.now c.requires.ready.2 c.args.part.from c.args.part.least c.args.part.until
    (sym c.is_end.ensures.ends ∙ c.if-is_end.false)
    (λ start end m h. omega (arith, c.loop-offset.invariant.none start end m h, c.loop-offset-test.false))

pub returns-clause-ready : goal.returns-clause-ready
returns-clause-ready c = is_ready _ _ _ _ _ _ _ c.requires.ready.2 c.is_end.ensures.at

pub returns-then-part-offset-clause-read : goal.returns-then-part-offset-clause-read
returns-then-part-offset-clause-read c =
    let i = c.loop-offset.offset in
    read_on c.args.program.now (i + 1) 1 (length c.args.line.now + 2) _ _ _ (omega (arith, c.loop-offset-test.true))
    c.loop-offset.invariant.read c.step.ensures.read

pub returns-then-part-since-clause-read : goal.returns-then-part-since-clause-read
returns-then-part-since-clause-read c =
    let i = c.loop-offset.offset in
    read_on c.args.program.now (i + 1) 1 (length c.args.line.now + 2) _ _ _ (omega (arith, c.loop-offset-test.true))
    c.loop-offset.invariant.read c.step.ensures.read

pub returns-then-is_end-clause-read : goal.returns-then-is_end-clause-read
returns-then-is_end-clause-read c =
    let i = c.loop-offset.offset in
    let at_end : i ≡ length c.args.line.now = omega (arith, c.loop-offset-test.false) in
    read_on c.args.program.now (i + 1) 1 (length c.args.line.now + 2) _ _ _ (omega (arith, at_end))
    c.loop-offset.invariant.read c.is_end.ensures.read

pub returns-clause-read : goal.returns-clause-read
returns-clause-read c =
    let i = c.loop-offset.offset in
    let at_end : i ≡ length c.args.line.now = omega (arith, c.loop-offset-test.false) in
    read_on c.args.program.now (i + 1) 1 (length c.args.line.now + 2) _ _ _ (omega (arith, at_end))
    c.loop-offset.invariant.read c.is_end.ensures.read
