use Rattle.std.proofs.Common.{◌≡◌, ◌<◌, ◌+◌, ◌-◌, ◌*◌, ◌∷◌, true, length, take, drop, refl, sym, subst, ◌∙◌, arith}
use Rattle.cs_match.specs.Lines.{newline}
use Rattle.cs_match.specs.NoNewline.{HasNoNewline}
use Rattle.cs_match.specs.Skipping.{IsLineAfter}
use Rattle.cs_match.proofs.WholeLineLemmas.{whole_from}
use Rattle.cs_tree.specs.SinkOutputs.{given}
use Rattle.cs_lines.specs.Scans.{Marks}
use Rattle.cs_lines.specs.Shown.{is_wanted}
use Rattle.cs_lines.proofs.FindingLemmas.{keeps_again, keeps_itself, stops_again}
use Rattle.cs_lines.proofs.PlaceLemmas.{any_err, begins_then, ends_before, lines_none, marks_here, marks_then, next_is, next_line, next_passed, tests_before}
use Rattle.cs_tree.proofs.SinkOutputLemmas.{keeps_same, keeps_then}
use Rattle.cs_match.specs.Work.{WorksWithin}
use Rattle.cs_lines.specs.Work.{walks}
use Rattle.cs_lines.proofs.WorkLemmas.{walks_fewer, walks_on, works_any}
use Rattle.cs_lines.proofs.rows.Rows.mark_each.Goals as goal

pub lines-init : goal.lines-init
lines-init g c =
    let place = c.args.place in
    record {
      marks = marks_here c.args.search.now c.args.search.now c.args.self.now (given c.args.out.now) place c.args.part.start c.requires.placed;
      passed = lines_none place.block.now c.args.part.start (omega (arith, c.requires.lines.low, c.requires.lines.high));
      high = c.requires.lines.low;
      listed = refl;
      same = keeps_itself c.args.search.now;
      budget = λ alone. refl;
      work = works_any (walks c.args.self.now.page.options.now * (place.held - place.held)) c.args.search.now.matcher;
      keeps = keeps_same g.O.Sink.model g.O.Sink.failed c.args.out.now;
    }

pub line_end-end-requires-clause-whole : goal.line_end-end-requires-clause-whole
line_end-end-requires-clause-whole g c =
    let p = c.lines.invariant.marks.placed in
    whole_from c.lines.place.block.now c.lines.place.held c.lines.start (omega (arith, p.order, p.lines.low)) p.whole

pub mark-requires-clause-line : goal.mark-requires-clause-line
mark-requires-clause-line g c =
    let i = c.lines.invariant in
    let e = c.line_end-end.ensures in
    let same = i.marks.block in
    let end = c.line_end-end.result in
    let from = c.args.part.start in
    subst (λ b. IsLineAfter b.now c.lines.start c.lines.start end) (sym same)
    (next_line c.args.place.block.now from c.lines.start end c.args.part.end c.requires.lines i.passed c.lines-test.true e.low
    (subst (λ b. end < length b.now) same e.high) (subst (λ b. HasNoNewline (take (end - c.lines.start) (drop c.lines.start b.now))) same e.part)
    (subst (λ b. drop end b.now ≡ newline ∷ drop (end + 1) b.now) same e.newline))

pub mark-requires-clause-wanted : goal.mark-requires-clause-wanted
mark-requires-clause-wanted g c = λ test tests.
    let i = c.lines.invariant in
    let e = c.line_end-end.ensures in
    let same = i.marks.block in
    let end = c.line_end-end.result in
    let start = c.lines.start in
    let here = next_is c.args.place.block.now c.args.part.start start end c.args.part.end c.requires.lines i.passed c.lines-test.true e.low
    (subst (λ b. end < length b.now) same e.high) (subst (λ b. HasNoNewline (take (end - start) (drop start b.now))) same e.part)
    (subst (λ b. drop end b.now ≡ newline ∷ drop (end + 1) b.now) same e.newline)
    (λ line. is_wanted c.args.self.now.page.options.now test line ≡ true)
    (c.requires.wanted test (tests_before c.args.search.now c.lines.search i.same test tests)) in
    subst (λ page. is_wanted page.options.now test (take (end - start) (drop start c.lines.place.block.now)) ≡ true) (sym i.marks.page)
    (subst (λ b. is_wanted c.args.self.now.page.options.now test (take (end - start) (drop start b.now)) ≡ true) (sym same) here)

pub returns-in_err-place-clause-begins : goal.returns-in_err-place-clause-begins
returns-in_err-place-clause-begins g c =
    let i = c.lines.invariant in
    any_err c.from_residual.result
    (begins_then c.args.search.now c.lines.search c.mark.new.search c.args.self.now c.lines.self (given c.args.out.now) (given c.lines.out) (given c.mark.new.out)
    c.args.place c.lines.place c.lines.start i.same c.mark.ensures.same i.marks c.in_err-place.ensures.begins)

pub lines-preserved : goal.lines-preserved
lines-preserved g c =
    let i = c.lines.invariant in
    let e = c.line_end-end.ensures in
    let m = c.in_ok-place.ensures in
    let same = i.marks.block in
    let end = c.line_end-end.result in
    let start = c.lines.start in
    let high = subst (λ b. end < length b.now) same e.high in
    let part = subst (λ b. HasNoNewline (take (end - start) (drop start b.now))) same e.part in
    let here = subst (λ b. drop end b.now ≡ newline ∷ drop (end + 1) b.now) same e.newline in
    let block = c.args.place.block.now in
    record {
      marks = marks_then c.args.search.now c.lines.search c.mark.new.search c.args.self.now c.lines.self c.mark.new.self (given c.args.out.now)
          (given c.lines.out) (given c.mark.new.out) c.args.place c.lines.place c.in_ok-place.place start (end + 1) i.same c.mark.ensures.same i.marks m.marks;
      passed = next_passed block c.args.part.start start end c.args.part.end c.requires.lines i.passed c.lines-test.true e.low high part here;
      high = omega (arith, ends_before block c.args.part.start start end c.args.part.end c.requires.lines i.passed c.lines-test.true e.low high part here);
      listed = m.listed ∙ i.listed;
      same = keeps_again c.args.search.now c.lines.search c.mark.new.search i.same c.mark.ensures.same;
      budget = stops_again c.args.self.now.page c.lines.self.page c.args.search.now c.lines.search c.mark.new.search i.marks.page i.budget c.mark.ensures.budget;
      work = walks_on (walks c.args.self.now.page.options.now) c.args.place.held c.lines.place.held c.in_ok-place.place.held c.args.search.now.matcher
          c.lines.search.matcher c.mark.new.search.matcher i.marks.rises m.marks.rises i.work
          (subst (λ page. WorksWithin (walks page.options.now * (c.in_ok-place.place.held - c.lines.place.held)) c.lines.search.matcher c.mark.new.search.matcher)
          i.marks.page m.work);
      keeps = keeps_then g.O.Sink.model g.O.Sink.failed c.args.out.now c.lines.out c.mark.new.out i.keeps c.mark.ensures.keeps;
    }

pub returns-in_err-place-clause-cut : goal.returns-in_err-place-clause-cut
returns-in_err-place-clause-cut g c =
    let i = c.lines.invariant in
    let e = c.line_end-end.ensures in
    let same = i.marks.block in
    let end = c.line_end-end.result in
    let start = c.lines.start in
    let p = i.marks.placed in
    let to = ends_before c.args.place.block.now c.args.part.start start end c.args.part.end c.requires.lines i.passed c.lines-test.true e.low
    (subst (λ b. end < length b.now) same e.high) (subst (λ b. HasNoNewline (take (end - start) (drop start b.now))) same e.part)
    (subst (λ b. drop end b.now ≡ newline ∷ drop (end + 1) b.now) same e.newline) in
    let times = walks c.args.self.now.page.options.now in
    any_err c.from_residual.result
    (walks_fewer times c.args.place.held (end + 1) c.args.part.end c.args.search.now.matcher c.mark.new.search.matcher (omega (arith, to))
    (walks_on times c.args.place.held c.lines.place.held (end + 1) c.args.search.now.matcher c.lines.search.matcher c.mark.new.search.matcher i.marks.rises
    (omega (arith, p.order, p.lines.low, e.low)) i.work
    (subst (λ page. WorksWithin (walks page.options.now * (end + 1 - c.lines.place.held)) c.lines.search.matcher c.mark.new.search.matcher)
    i.marks.page c.in_err-place.ensures.cut)))

pub returns-clause-marks : goal.returns-clause-marks
returns-clause-marks g c =
    let i = c.lines.invariant in
    let end : c.lines.start ≡ c.args.part.end = omega (arith, i.high, c.lines-test.false) in
    subst (Marks c.args.search.now c.lines.search c.args.self.now c.lines.self (given c.args.out.now) (given c.lines.out) c.args.place c.lines.place) end i.marks
