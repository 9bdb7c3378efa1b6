use Rattle.std.proofs.Common.{◌+◌, ℕ, Bool, true, false, List, length, sym, subst, arith, length-set}
use Rattle.std.proofs.lemmas.Bool.{false≢true}
use Rattle.cs_match.specs.Span.{IsFirstOf, HasNoMatchOf}
use Rattle.cs_match.specs.SpanList.{first_spans}
use Rattle.cs_match.specs.SpanWork.{find_bytes}
use Rattle.cs_match.proofs.SpanListLemmas.{Continues, continues_more, continues_to, listed_more, rest_more}
use Rattle.cs_match.proofs.SpanWorkLemmas.{in_budget, read_more}
use Rattle.cs_match.proofs.spans.pass.Pass.list.Goals as goal

pub returns-in_default-clause-listed : goal.returns-in_default-clause-listed
returns-in_default-clause-listed c =
    let t = c.args.program.now in
    let s = c.args.line.now in
    let given = c.spans.invariant in
    let from = c.spans.wanted.from in
    let least = c.spans.wanted.least in
    let P : Bool → Type 0 = λ whole. HasNoMatchOf whole t s from least in
    let none = subst P given.whole c.in_default.ensures.found in
    record {
      spans = continues_to c.args.whole t s (first_spans c.spans.count c.spans.spans) from least true given.listed (λ _. none);
      within = omega (arith, given.count, c.spans.auto.spans);
      size = omega (arith, c.spans.auto.spans);
      rest = given.rest;
    }

pub returns-in_default-clause-read : goal.returns-in_default-clause-read
returns-in_default-clause-read c = λ k few.
    let t = c.args.program.now in
    read_more t c.args.self.now.left (find_bytes k (length c.args.line.now)) _ _ _
    (in_budget t _ _ _ c.if-self-gt0.true (c.spans.invariant.read k few)) (c.in_default.ensures.read k few)

pub spans-preserved : goal.spans-preserved
spans-preserved c =
    let whole = c.args.whole in
    let t = c.args.program.now in
    let s = c.args.line.now in
    let given = c.spans.invariant in
    let from = c.spans.wanted.from in
    let least = c.spans.wanted.least in
    let count = c.spans.count in
    let spans = c.spans.spans in
    let span = c.in-Some.span in
    let P : Bool → Type 0 = λ whole. IsFirstOf whole t s from least span.start span.end in
    let first = subst P given.whole c.in-Some.ensures.found in
    let Q : List (ℕ × ℕ) → Type 0 = λ listed. Continues whole t s listed span.end (span.end + 1) in
    record {
      ready = c.in-Some.ensures.ready;
      whole = given.whole;
      within = first.is.within;
      count = omega (arith, c.spans-test.true, length-set spans count span);
      rest = rest_more count spans c.args.spans.now span given.rest;
      listed = subst Q (sym (listed_more count spans span c.spans-test.true))
          (continues_more whole t s (first_spans count spans) from least span.start span.end given.listed first);
      read = λ k few. read_more t c.args.self.now.left (find_bytes k (length s)) _ _ _
          (in_budget t _ _ _ c.if-self-gt0.true (given.read k few)) (c.in-Some.ensures.read k few);
    }

pub returns-else-self-gt0-clause-listed : goal.returns-else-self-gt0-clause-listed
returns-else-self-gt0-clause-listed c =
    let given = c.spans.invariant in
    record {
      spans = continues_to c.args.whole c.args.program.now c.args.line.now (first_spans c.spans.count c.spans.spans) c.spans.wanted.from
          c.spans.wanted.least false given.listed (λ e. absurd (false≢true e));
      within = omega (arith, given.count, c.spans.auto.spans);
      size = omega (arith, c.spans.auto.spans);
      rest = given.rest;
    }

pub returns-after-spans-clause-listed : goal.returns-after-spans-clause-listed
returns-after-spans-clause-listed c =
    let given = c.spans.invariant in
    record {
      spans = continues_to c.args.whole c.args.program.now c.args.line.now (first_spans c.spans.count c.spans.spans) c.spans.wanted.from
          c.spans.wanted.least false given.listed (λ e. absurd (false≢true e));
      within = omega (arith, given.count, c.spans.auto.spans);
      size = omega (arith, c.spans.auto.spans);
      rest = given.rest;
    }
