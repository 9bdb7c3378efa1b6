use Rattle.std.proofs.Common.{◌≡◌, ◌<◌, ◌+◌, ◌∙◌, true, sym, subst, ℕ, length, arith}
use Rattle.std.proofs.lemmas.Bool.{false≢true}
use Rattle.cs_match.specs.Passes.{ends_in}
use Rattle.cs_match.specs.Span.{IsMatchOf}
use Rattle.cs_match.specs.SpanSearch.{IsLastEnd}
use Rattle.cs_match.proofs.SpanLemmas.{match_here, last_here, last_kept, end_before, last_ends, is_last, line_end, set_is_empty, is_ready}
use Rattle.cs_match.proofs.SpanWorkLemmas.{read_on}
use Rattle.cs_match.proofs.spans.pass.Pass.last_end.Goals.{then-step+then-part-offset, else-step, else-step-via-then-step+else-part-offset, else-step-via-else-step}
use Rattle.cs_match.proofs.spans.pass.Pass.last_end.Goals as goal

pub loop-offset-init : goal.loop-offset-init
loop-offset-init c = record {
  at = c.begin.ensures.at c.args.wanted.whole (c.args.wanted.from + 1);
  last = λ start end m h. omega (arith, m.begins, m.ordered);
  read = c.begin.ensures.read;
}

pub loop-offset-preserved : goal.loop-offset-preserved
loop-offset-preserved c =
    let whole = c.args.wanted.whole in
    let t = c.args.program.now in
    let s = c.args.line.now in
    let from = c.args.wanted.from in
    let i = c.loop-offset.offset in
    record {
      at = c.step.ensures.at;
      last = elim c.if-step.branch [
        | then-step+then-part-offset w ↦
            rw w.last-is
            (last_here whole t s c.requires.ready.2 from c.args.wanted.least i (omega (arith, c.loop-offset-test.true)) w.if-part-offset.true
            (sym c.step.ensures.ends ∙ w.if-step.true))
        | else-step w ↦
            let never : ends_in whole s t from (from + 1) i ≡ true → i < c.args.wanted.least = elim w.else-step.branch [
              | else-step-via-then-step+else-part-offset v ↦ λ on. omega (arith, v.if-part-offset)
              | else-step-via-else-step v ↦ λ on. absurd (false≢true (sym v.if-step.false ∙ c.step.ensures.ends ∙ on))
            ] in
            rw w.last-is (last_kept whole t s c.requires.ready.2 from c.args.wanted.least i c.loop-offset.last never c.loop-offset.invariant.last)
      ];
      read = read_on t (i + 1) 1 (i + 1 + 1) _ _ _ (omega arith) c.loop-offset.invariant.read c.step.ensures.read;
    }

-- before an empty set
last : (c : goal.Then-is_empty) → IsLastEnd c.args.wanted.whole c.args.program.now c.args.line.now c.args.wanted.from c.args.wanted.least (c.loop-offset.offset + 1) c.if-step.last
last c =
    let whole = c.args.wanted.whole in
    let t = c.args.program.now in
    let s = c.args.line.now in
    let from = c.args.wanted.from in
    let i = c.loop-offset.offset in
    elim c.if-step.branch [
      | then-step+then-part-offset w ↦
          rw w.last-is
          (last_here whole t s c.requires.ready.2 from c.args.wanted.least i (omega (arith, c.loop-offset-test.true)) w.if-part-offset.true
          (sym c.step.ensures.ends ∙ w.if-step.true))
      | else-step w ↦
          let never : ends_in whole s t from (from + 1) i ≡ true → i < c.args.wanted.least = elim w.else-step.branch [
            | else-step-via-then-step+else-part-offset v ↦ λ on. omega (arith, v.if-part-offset)
            | else-step-via-else-step v ↦ λ on. absurd (false≢true (sym v.if-step.false ∙ c.step.ensures.ends ∙ on))
          ] in
          rw w.last-is (last_kept whole t s c.requires.ready.2 from c.args.wanted.least i c.loop-offset.last never c.loop-offset.invariant.last)
    ]

before : (c : goal.Then-is_empty) → (end : ℕ) → IsMatchOf c.args.wanted.whole c.args.program.now c.args.line.now c.args.wanted.from c.args.wanted.least c.args.wanted.from end → end < c.loop-offset.offset + 1
before c =
    let whole = c.args.wanted.whole in
    let t = c.args.program.now in
    let s = c.args.line.now in
    let from = c.args.wanted.from in
    let i = c.loop-offset.offset in
    end_before whole t s c.requires.ready.2 from c.args.wanted.least (i + 1) (omega (arith, c.loop-offset.auto.offset))
    (set_is_empty whole t s from (from + 1) (i + 1) c.step.new.self c.step.ensures.at (c.is_empty.ensures c.if-is_empty.true))

pub returns-then-is_empty-clause-ends : goal.returns-then-is_empty-clause-ends
returns-then-is_empty-clause-ends c =
    last_ends c.args.wanted.whole c.args.program.now c.args.line.now c.requires.ready.2 c.args.wanted.from c.args.wanted.least (c.loop-offset.offset + 1) c.if-step.last
    (before c) (last c)

pub returns-then-is_empty-clause-last : goal.returns-then-is_empty-clause-last
returns-then-is_empty-clause-last c =
    is_last c.args.wanted.whole c.args.program.now c.args.line.now c.requires.ready.2 c.args.wanted.from c.args.wanted.least (c.loop-offset.offset + 1) c.if-step.last
    (before c) (last c)

pub returns-then-is_empty-clause-ready : goal.returns-then-is_empty-clause-ready
returns-then-is_empty-clause-ready c = is_ready _ _ _ _ _ _ _ c.requires.ready.2 c.step.ensures.at

pub returns-then-is_end-clause-ends : goal.returns-then-is_end-clause-ends
returns-then-is_end-clause-ends c =
    match_here c.args.wanted.whole c.args.program.now c.args.line.now c.requires.ready.2 c.args.wanted.from c.args.wanted.least (length c.args.line.now)
    (omega arith) c.requires.within.1 (sym c.is_end.ensures.ends ∙ c.if-is_end.true)

pub returns-then-is_end-clause-ready : goal.returns-then-is_end-clause-ready
returns-then-is_end-clause-ready c = is_ready _ _ _ _ _ _ _ c.requires.ready.2 c.is_end.ensures.at

-- at the end of the line, if none ends there
kept : (c : goal.Else-is_end) → IsLastEnd c.args.wanted.whole c.args.program.now c.args.line.now c.args.wanted.from c.args.wanted.least (length c.args.line.now + 1) c.loop-offset.last
kept c =
    let whole = c.args.wanted.whole in
    let t = c.args.program.now in
    let s = c.args.line.now in
    let from = c.args.wanted.from in
    let at_end : c.loop-offset.offset ≡ length s = omega (arith, c.loop-offset-test.false) in
    let never : ends_in whole s t from (from + 1) (length s) ≡ true → length s < c.args.wanted.least = λ on.
    absurd (false≢true (sym c.if-is_end.false ∙ c.is_end.ensures.ends ∙ on)) in
    let P : ℕ → Type 0 = λ i. IsLastEnd whole t s from c.args.wanted.least i c.loop-offset.last in
    last_kept whole t s c.requires.ready.2 from c.args.wanted.least (length s) c.loop-offset.last never (subst P at_end c.loop-offset.invariant.last)

pub returns-clause-ends : goal.returns-clause-ends
returns-clause-ends c =
    let whole = c.args.wanted.whole in
    let t = c.args.program.now in
    let s = c.args.line.now in
    last_ends whole t s c.requires.ready.2 c.args.wanted.from c.args.wanted.least (length s + 1) c.loop-offset.last
    (line_end whole t s c.requires.ready.2 c.args.wanted.from c.args.wanted.least) (kept c)

pub returns-clause-last : goal.returns-clause-last
returns-clause-last c =
    let whole = c.args.wanted.whole in
    let t = c.args.program.now in
    let s = c.args.line.now in
    is_last whole t s c.requires.ready.2 c.args.wanted.from c.args.wanted.least (length s + 1) c.loop-offset.last
    (line_end whole t s c.requires.ready.2 c.args.wanted.from c.args.wanted.least) (kept c)

pub returns-clause-ready : goal.returns-clause-ready
returns-clause-ready c = is_ready _ _ _ _ _ _ _ c.requires.ready.2 c.is_end.ensures.at

pub returns-then-is_empty-clause-read : goal.returns-then-is_empty-clause-read
returns-then-is_empty-clause-read c =
    let i = c.loop-offset.offset in
    read_on c.args.program.now (i + 1) 1 (length c.args.line.now + 2) _ _ _ (omega (arith, c.loop-offset-test.true))
    c.loop-offset.invariant.read c.step.ensures.read

pub returns-then-is_end-clause-read : goal.returns-then-is_end-clause-read
returns-then-is_end-clause-read c =
    let i = c.loop-offset.offset in
    let at_end : i ≡ length c.args.line.now = omega (arith, c.loop-offset-test.false) in
    read_on c.args.program.now (i + 1) 1 (length c.args.line.now + 2) _ _ _ (omega (arith, at_end))
    c.loop-offset.invariant.read c.is_end.ensures.read

pub returns-clause-read : goal.returns-clause-read
returns-clause-read c =
    let i = c.loop-offset.offset in
    let at_end : i ≡ length c.args.line.now = omega (arith, c.loop-offset-test.false) in
    read_on c.args.program.now (i + 1) 1 (length c.args.line.now + 2) _ _ _ (omega (arith, at_end))
    c.loop-offset.invariant.read c.is_end.ensures.read
