use Rattle.std.proofs.Common.{◌≡◌, ◌+◌, ◌-◌, ◌∙◌, length, max, sym, ap, subst, arith}
use Rattle.std.proofs.Math.Nat.{max-le, le-max_left, le-max_right}
use Rattle.std.proofs.lemmas.Bool.{false≢true}
use Rattle.cs_match.specs.Glushkov.{position_count}
use Rattle.cs_match.specs.OneWord.{OccursAt}
use Rattle.cs_match.specs.Span.{IsFirstOf, IsWholeWord}
use Rattle.cs_match.specs.SpanSearch.{BeginFrom}
use Rattle.cs_match.proofs.OneWordLemmas.{Stands, may_begin_at, next_begins, none_begins_after, first_stands}
use Rattle.cs_match.proofs.SpanWorkLemmas.{read_none, read_up, read_on}
use Rattle.cs_match.proofs.spans.pass.Pass.find_word.Goals.{else-occurs-via-then-occurs+else-may_stand, else-occurs-via-else-occurs}
use Rattle.cs_match.proofs.spans.pass.Pass.find_word.Goals as goal

pub offsets-init : goal.offsets-init
offsets-init c =
    let t = c.args.program.now in
    let from = c.args.wanted.from in
    let least = c.args.wanted.least in
    let count = c.positions-word.ensures.count in
    let low : least - position_count t ≡ c.saturating_sub.result = omega (arith, c.saturating_sub.ensures, count) in
    let start : c.max-start.result ≡ max from (least - position_count t) = c.max-start.ensures ∙ ap (max from) (sym low) in
    let left = le-max_left from (least - position_count t) in
    let right = le-max_right from (least - position_count t) in
    let high = max-le {a = from} {b = least - position_count t} {k = length c.args.line.now} c.requires.within.0 (omega (arith, c.requires.within.1)) in
    record {
      ready = c.requires.ready;
      begins = omega (arith, start, left);
      ends = omega (arith, start, right, count);
      within = omega (arith, start, high);
      none = subst (BeginFrom c.args.wanted.whole t c.args.line.now from least) (sym start)
          (may_begin_at c.args.wanted.whole t c.args.line.now from least c.requires.word);
      read = read_up t 0 c.max-start.result _ _ (omega arith) (read_none t _);
    }

pub overflow_add-start : goal.overflow_add-start
overflow_add-start c = omega (arith, c.offsets.invariant.within, c.positions-word.type_inv)

pub returns-then-may_stand-clause-found : goal.returns-then-may_stand-clause-found
returns-then-may_stand-clause-found c =
    let whole = c.args.wanted.whole in
    let t = c.args.program.now in
    let s = c.args.line.now in
    let from = c.args.wanted.from in
    let least = c.args.wanted.least in
    let start = c.offsets.start in
    let given = c.offsets.invariant in
    let count = c.positions-word.ensures.count in
    let end : start + length c.positions-word.result.now ≡ start + position_count t = omega (arith, count) in
    let occurs = subst (λ ps. OccursAt s ps start) c.positions-word.ensures.list (c.occurs.ensures.0 c.if-occurs.true) in
    subst (IsFirstOf whole t s from least start) (sym end)
    (first_stands whole t s from least c.requires.word start given.begins (omega (arith, given.ends, count))
    (omega (arith, c.offsets-test.true, count)) (occurs, λ w. subst (IsWholeWord s start) end (c.may_stand.ensures.0 c.if-may_stand.true w)) given.none)

pub returns-then-may_stand-clause-read : goal.returns-then-may_stand-clause-read
returns-then-may_stand-clause-read c =
    let t = c.args.program.now in
    let start = c.offsets.start in
    read_on t start 1 (length c.args.line.now + 2) _ _ _ (omega (arith, c.offsets-test.true)) c.offsets.invariant.read
    record {
      bytes = 1;
      few = omega arith;
      read = c.add.ensures;
      left = c.saturating_sub-self.ensures;
      low = omega (arith, c.add-in-offsets.ensures);
      high = omega (arith, c.add-in-offsets.ensures, c.positions-word.ensures.count);
    }

pub offsets-preserved : goal.offsets-preserved
offsets-preserved c =
    let whole = c.args.wanted.whole in
    let t = c.args.program.now in
    let s = c.args.line.now in
    let from = c.args.wanted.from in
    let least = c.args.wanted.least in
    let start = c.offsets.start in
    let given = c.offsets.invariant in
    let count = c.positions-word.ensures.count in
    let end : start + position_count t ≡ start + length c.positions-word.result.now = omega (arith, count) in
    let none : Stands whole t s from least c.requires.word start → ⊥ = λ stands.
    let occurs = c.occurs.ensures.1 (subst (λ ps. OccursAt s ps start) (sym c.positions-word.ensures.list) stands.0) in
    elim c.else-occurs.branch [
      | else-occurs-via-then-occurs+else-may_stand w ↦
          let word = w.may_stand.ensures.1 (λ e. subst (IsWholeWord s start) end (stands.1 e)) in
          false≢true (sym w.if-may_stand.false ∙ word)
      | else-occurs-via-else-occurs w ↦ false≢true (sym w.if-occurs.false ∙ occurs)
    ] in
    record {
      ready = given.ready;
      begins = omega (arith, given.begins);
      ends = omega (arith, given.ends);
      within = omega (arith, c.offsets-test.true);
      none = next_begins whole t s from least c.requires.word start none given.none;
      read = read_on t start 1 (start + 1) _ _ _ (omega arith) given.read record {
        bytes = 1;
        few = omega arith;
        read = c.add.ensures;
        left = c.saturating_sub-self.ensures;
        low = omega (arith, c.add-in-offsets.ensures);
        high = omega (arith, c.add-in-offsets.ensures, count);
      };
    }

pub returns-clause-found : goal.returns-clause-found
returns-clause-found c =
    none_begins_after c.args.wanted.whole c.args.program.now c.args.line.now c.args.wanted.from c.args.wanted.least c.requires.word
    c.offsets.start (omega (arith, c.offsets-test.false, c.positions-word.ensures.count)) c.offsets.invariant.none

pub returns-clause-read : goal.returns-clause-read
returns-clause-read c =
    read_up c.args.program.now c.offsets.start (length c.args.line.now + 2) _ _ (omega (arith, c.offsets.invariant.within)) c.offsets.invariant.read
