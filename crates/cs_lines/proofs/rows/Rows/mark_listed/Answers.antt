use Rattle.std.proofs.Common.{◌≡◌, ◌≤◌, ◌<◌, ◌+◌, ◌-◌, ◌*◌, ◌∷◌, [], ℕ, suc, Bool, List, length, take, drop, get_or, drop-cons, sym, ap, subst, ◌∙◌, arith}
use Rattle.std.proofs.lemmas.List.{drop_all}
use Rattle.cs_syntax.specs.Matching.{HasMatch}
use Rattle.cs_match.specs.Lines.{newline}
use Rattle.cs_match.specs.MatchingEnds.{matching_ends}
use Rattle.cs_match.specs.Skipped.{AreLinesBetween}
use Rattle.cs_match.specs.Skipping.{IsLineAfter}
use Rattle.cs_match.proofs.DecidabilityLemmas.{matching_is_decidable}
use Rattle.cs_match.proofs.ListingLemmas.{IsFirstEnd, first_end, first_matches, first_skips, line_alone, lines_append, no_ends}
use Rattle.cs_lines.specs.Findings.{HasMatchBy, TestsMatches, listed_ends}
use Rattle.cs_tree.specs.SinkOutputs.{given}
use Rattle.cs_lines.specs.Scans.{Marks}
use Rattle.cs_lines.proofs.FindingLemmas.{finds_before, keeps_again, stops_again}
use Rattle.cs_lines.proofs.PlaceLemmas.{any_err, begins_then, err_map, line_lines, lines_none, lines_rest, marks_here, marks_then, ok_map, ok_map_with, placed_kept}
use Rattle.cs_tree.proofs.SinkOutputLemmas.{keeps_same, keeps_then}
use Rattle.cs_match.specs.Work.{WorksWithin}
use Rattle.cs_lines.specs.Work.{walks}
use Rattle.cs_lines.proofs.WorkLemmas.{walks_begun, walks_less, walks_more}
use Rattle.cs_lines.proofs.rows.Rows.mark_listed.Given.{Over}
use Rattle.cs_lines.proofs.rows.Rows.mark_listed.Goals.{After-listed, In_ok-place}
use Rattle.cs_lines.proofs.rows.Rows.mark_listed.Goals as goal

pub loop-k-init : goal.loop-k-init
loop-k-init g c =
    let place = c.args.place in
    record {
      marks = marks_here c.args.search.now c.add_steps.new.self c.args.self.now (given c.args.out.now) place c.args.part.start
          (placed_kept c.args.search.now c.add_steps.new.self c.args.self.now place c.args.part.start c.add_steps.ensures.same c.requires.placed);
      passed = lines_none place.block.now c.args.part.start (omega (arith, c.requires.lines.low, c.requires.lines.high));
      high = c.requires.lines.low;
      rest = c.requires.listed;
      listed = c.add_steps.ensures.listed;
      same = c.add_steps.ensures.same;
      budget = λ alone. c.add_steps.ensures.budget;
      work = walks_begun (c.args.part.end - c.args.part.start) (walks c.args.self.now.page.options.now) place.held c.args.search.now.matcher
          c.add_steps.new.self.matcher c.add_steps.ensures.work;
      keeps = keeps_same g.O.Sink.model g.O.Sink.failed c.args.out.now;
    }

-- the end of the next line
next : (test : List ℕ → Bool) (block listed now ends : List ℕ) (offset to k : ℕ) → offset ≤ to → to ≤ length block → k < length ends →
    drop k ends ≡ matching_ends test block offset to → listed ≡ now → now ≡ ends →
    IsFirstEnd test block offset to (get_or listed k 0) (drop (k + 1) ends)
next test block listed now ends offset to k low high within rest is same =
    let one : suc k ≡ k + 1 = omega arith in
    subst (λ (xs : List ℕ). IsFirstEnd test block offset to (get_or xs k 0) (drop (k + 1) ends)) (sym (is ∙ same))
    (first_end test block offset to (get_or ends k 0) (drop (k + 1) ends) low high
    (sym rest ∙ drop-cons ends k 0 within ∙ ap (λ n. get_or ends k 0 ∷ drop n ends) one))

within : (g : Over) (c : After-listed g) → c.loop-k.k < length (listed_ends c.args.search.now)
within g c = omega (arith, c.loop-k-test.true, ap (λ (xs : List ℕ). length xs) (c.listed-k-end.ensures ∙ c.add_steps.ensures.listed))

first_of : (g : Over) (c : After-listed g) (test : List ℕ → Bool) → TestsMatches test c.args.search.now →
    IsFirstEnd test c.args.place.block.now c.loop-k.offset c.args.part.end (get_or c.listed.result.now c.loop-k.k 0)
    (drop (c.loop-k.k + 1) (listed_ends c.args.search.now))
first_of g c test tests =
    let i = c.loop-k.invariant in
    next test c.args.place.block.now c.listed.result.now (listed_ends c.loop-k.search) (listed_ends c.args.search.now) c.loop-k.offset c.args.part.end c.loop-k.k
    i.high c.requires.lines.high (within g c) (i.rest test tests) c.listed.ensures i.listed

-- by some test
first_end_of : (g : Over) (c : After-listed g) → let finds = matching_is_decidable c.args.search.now.matcher.tree in
    IsFirstEnd finds.0 c.args.place.block.now c.loop-k.offset c.args.part.end (get_or c.listed.result.now c.loop-k.k 0)
    (drop (c.loop-k.k + 1) (listed_ends c.args.search.now))
first_end_of g c = let finds = matching_is_decidable c.args.search.now.matcher.tree in first_of g c finds.0 finds.1

pub line_to-line-requires-clause-low : goal.line_to-line-requires-clause-low
line_to-line-requires-clause-low g c = (first_end_of g (goal.at.line_to-line-requires-clause-low g c).After-listed).low

pub line_to-line-requires-clause-within : goal.line_to-line-requires-clause-within
line_to-line-requires-clause-within g c =
    subst (λ b. get_or c.listed.result.now c.loop-k.k 0 < length b.now) (sym c.loop-k.invariant.marks.block)
    (omega (arith, (first_end_of g (goal.at.line_to-line-requires-clause-within g c).After-listed).high, c.requires.lines.high))

pub line_to-line-requires-clause-newline : goal.line_to-line-requires-clause-newline
line_to-line-requires-clause-newline g c =
    subst (λ b. get_or b.now (get_or c.listed.result.now c.loop-k.k 0) 0 ≡ newline) (sym c.loop-k.invariant.marks.block)
    (first_end_of g (goal.at.line_to-line-requires-clause-newline g c).After-listed).newline

pub mark_missed-requires-clause-missed : goal.mark_missed-requires-clause-missed
mark_missed-requires-clause-missed g c = λ test finds.
    let i = c.loop-k.invariant in
    let l = c.line_to-line.ensures in
    let block = c.args.place.block.now in
    let start = c.line_to-line.result.start in
    let end = c.line_to-line.result.end in
    let offset = c.loop-k.offset in
    let line = subst (λ b. IsLineAfter b.now offset start end) i.marks.block l.line in
    let before = finds_before c.args.search.now c.loop-k.search i.same test finds in
    let first = first_of g (goal.at.mark_missed-requires-clause-missed g c).After-listed test before in
    subst (λ b. matching_ends test b.now offset start ≡ []) (sym i.marks.block)
    (no_ends test block offset start line.low (omega (arith, line.order, line.high))
    (first_skips test block offset c.args.part.end _ _ c.requires.lines.high first start end l.end line))

pub returns-in_err-place-clause-begins : goal.returns-in_err-place-clause-begins
returns-in_err-place-clause-begins g c =
    let i = c.loop-k.invariant in
    any_err c.from_residual.result
    (begins_then c.args.search.now c.loop-k.search c.mark_missed.new.search c.args.self.now c.loop-k.self (given c.args.out.now) (given c.loop-k.out)
    (given c.mark_missed.new.out) c.args.place c.loop-k.place c.loop-k.offset i.same c.mark_missed.ensures.same i.marks c.in_err-place.ensures.begins)

pub mark_matched-requires-clause-line : goal.mark_matched-requires-clause-line
mark_matched-requires-clause-line g c =
    let l = c.line_to-line.ensures.line in
    let start = c.line_to-line.result.start in
    let end = c.line_to-line.result.end in
    subst (λ b. IsLineAfter b.now start start end) (sym c.in_ok-place.ensures.marks.block) (line_alone c.args.search.now.matcher.tree c.loop-k.place.block.now c.loop-k.offset start end l)

pub mark_matched-requires-clause-matched : goal.mark_matched-requires-clause-matched
mark_matched-requires-clause-matched g c =
    let i = c.loop-k.invariant in
    let l = c.line_to-line.ensures in
    let block = c.args.place.block.now in
    let start = c.line_to-line.result.start in
    let end = c.line_to-line.result.end in
    let offset = c.loop-k.offset in
    let search = c.args.search.now in
    let line = subst (λ b. IsLineAfter b.now offset start end) i.marks.block l.line in
    let finds = matching_is_decidable search.matcher.tree in
    let first = first_end_of g (goal.at.mark_matched-requires-clause-matched g c).After-listed in
    let own = take (end - start) (drop start block) in
    let here : HasMatch search.matcher.tree own =
    (finds.1 own).0 (first_matches finds.0 block offset c.args.part.end _ _ c.requires.lines.high first start end l.end line) in
    let kept = keeps_again search c.loop-k.search c.mark_missed.new.search i.same c.mark_missed.ensures.same in
    subst (λ b. HasMatchBy c.mark_missed.new.search (take (end - start) (drop start b.now))) (sym (c.in_ok-place.ensures.marks.block ∙ i.marks.block))
    (subst (λ t. HasMatch t own) (sym kept.0) here)

-- the lines before the next that has a match
missed : (g : Over) (c : In_ok-place g) → Marks c.args.search.now c.mark_missed.new.search c.args.self.now c.mark_missed.new.self (given c.args.out.now)
    (given c.mark_missed.new.out) c.args.place c.in_ok-place.place c.line_to-line.result.start
missed g c =
    let i = c.loop-k.invariant in
    marks_then c.args.search.now c.loop-k.search c.mark_missed.new.search c.args.self.now c.loop-k.self c.mark_missed.new.self (given c.args.out.now)
    (given c.loop-k.out) (given c.mark_missed.new.out) c.args.place c.loop-k.place c.in_ok-place.place c.loop-k.offset c.line_to-line.result.start i.same
    c.mark_missed.ensures.same i.marks c.in_ok-place.ensures.marks

-- and their steps
missed_work : (g : Over) (c : In_ok-place g) → WorksWithin (c.args.part.end - c.args.part.start
    + walks c.args.self.now.page.options.now * (c.in_ok-place.place.held - c.args.place.held)) c.args.search.now.matcher c.mark_missed.new.search.matcher
missed_work g c =
    let i = c.loop-k.invariant in
    let m = c.in_ok-place.ensures in
    walks_more (c.args.part.end - c.args.part.start) (walks c.args.self.now.page.options.now) c.args.place.held c.loop-k.place.held c.in_ok-place.place.held
    c.args.search.now.matcher c.loop-k.search.matcher c.mark_missed.new.search.matcher i.marks.rises m.marks.rises i.work
    (subst (λ page. WorksWithin (walks page.options.now * (c.in_ok-place.place.held - c.loop-k.place.held)) c.loop-k.search.matcher
    c.mark_missed.new.search.matcher) i.marks.page m.work)

pub returns-in_err-place-2-clause-begins : goal.returns-in_err-place-2-clause-begins
returns-in_err-place-2-clause-begins g c =
    let i = c.loop-k.invariant in
    let search = c.args.search.now in
    let mid = c.mark_missed.new.search in
    let later = c.mark_matched.ensures.same in
    let kept = keeps_again search c.loop-k.search mid i.same c.mark_missed.ensures.same in
    let start = c.line_to-line.result.start in
    any_err c.from_residual-in_err-place-2.result
    (begins_then search mid c.mark_matched.new.search c.args.self.now c.mark_missed.new.self (given c.args.out.now) (given c.mark_missed.new.out)
    (given c.mark_matched.new.out) c.args.place c.in_ok-place.place start kept later
    (missed g (goal.at.returns-in_err-place-2-clause-begins g c).In_ok-place) c.in_err-place-2.ensures.begins)

pub loop-k-preserved : goal.loop-k-preserved
loop-k-preserved g c =
    let i = c.loop-k.invariant in
    let l = c.line_to-line.ensures in
    let block = c.args.place.block.now in
    let start = c.line_to-line.result.start in
    let end = c.line_to-line.result.end in
    let offset = c.loop-k.offset in
    let search = c.args.search.now in
    let mid = c.mark_missed.new.search in
    let line = subst (λ b. IsLineAfter b.now offset start end) i.marks.block l.line in
    let at = (goal.at.loop-k-preserved g c).After-listed in
    let kept = keeps_again search c.loop-k.search mid i.same c.mark_missed.ensures.same in
    record {
      marks = marks_then search mid c.mark_matched.new.search c.args.self.now c.mark_missed.new.self c.mark_matched.new.self (given c.args.out.now)
          (given c.mark_missed.new.out) (given c.mark_matched.new.out) c.args.place c.in_ok-place.place c.in_ok-place-2.place start (end + 1) kept c.mark_matched.ensures.same
          (missed g (goal.at.loop-k-preserved g c).In_ok-place) c.in_ok-place-2.ensures.marks;
      passed = lines_append block c.args.part.start offset (end + 1) i.passed
          (lines_append block offset start (end + 1) (record { low = line.low; high = omega (arith, line.order, line.high); whole = line.before })
          (line_lines block start end (line_alone search.matcher.tree block offset start end line)));
      high = omega (arith, (first_end_of g at).high, l.end);
      rest = λ test tests.
          sym (first_of g at test tests).rest ∙ ap (λ n. matching_ends test block (n + 1) c.args.part.end) (sym l.end);
      listed = c.mark_matched.ensures.listed ∙ c.mark_missed.ensures.listed ∙ i.listed;
      same = keeps_again search mid c.mark_matched.new.search kept c.mark_matched.ensures.same;
      budget = stops_again c.args.self.now.page c.mark_missed.new.self.page search mid c.mark_matched.new.search (c.in_ok-place.ensures.marks.page ∙ i.marks.page)
          (stops_again c.args.self.now.page c.loop-k.self.page search c.loop-k.search mid i.marks.page i.budget c.mark_missed.ensures.budget) c.mark_matched.ensures.budget;
      work =
          let n = c.args.part.end - c.args.part.start in
          let times = walks c.args.self.now.page.options.now in
          let held = c.in_ok-place.place.held in
          let m1 = c.in_ok-place.ensures in
          let m2 = c.in_ok-place-2.ensures in
          let page1 = i.marks.page in
          let page2 = m1.marks.page ∙ page1 in
          walks_more n times c.args.place.held held c.in_ok-place-2.place.held search.matcher mid.matcher c.mark_matched.new.search.matcher
          (omega (arith, i.marks.rises, m1.marks.rises)) m2.marks.rises
          (missed_work g (goal.at.loop-k-preserved g c).In_ok-place)
          (subst (λ page. WorksWithin (walks page.options.now * (c.in_ok-place-2.place.held - held)) mid.matcher c.mark_matched.new.search.matcher) page2 m2.work);
      keeps = keeps_then g.O.Sink.model g.O.Sink.failed c.args.out.now c.mark_missed.new.out c.mark_matched.new.out
          (keeps_then g.O.Sink.model g.O.Sink.failed c.args.out.now c.loop-k.out c.mark_missed.new.out i.keeps c.mark_missed.ensures.keeps) c.mark_matched.ensures.keeps;
    }

pub mark_missed-requires-2-clause-lines : goal.mark_missed-requires-2-clause-lines
mark_missed-requires-2-clause-lines g c =
    let i = c.loop-k.invariant in
    subst (λ b. AreLinesBetween b.now c.loop-k.offset c.args.part.end) (sym i.marks.block)
    (lines_rest c.args.place.block.now c.args.part.start c.loop-k.offset c.args.part.end c.requires.lines i.passed.low i.high)

pub mark_missed-requires-2-clause-missed : goal.mark_missed-requires-2-clause-missed
mark_missed-requires-2-clause-missed g c = λ test finds.
    let i = c.loop-k.invariant in
    let search = c.args.search.now in
    let all : length (listed_ends search) ≤ c.loop-k.k = omega (arith, c.loop-k-test.false, ap (λ (xs : List ℕ). length xs) (c.listed-k-end.ensures ∙ c.add_steps.ensures.listed)) in
    subst (λ b. matching_ends test b.now c.loop-k.offset c.args.part.end ≡ []) (sym i.marks.block)
    (sym (i.rest test (finds_before search c.loop-k.search i.same test finds)) ∙ drop_all c.loop-k.k (listed_ends search) all)

pub returns-clause-marks : goal.returns-clause-marks
returns-clause-marks g c =
    let i = c.loop-k.invariant in
    ok_map c.mark_missed-2.result (λ place' m.
    marks_then c.args.search.now c.loop-k.search c.mark_missed-2.new.search c.args.self.now c.loop-k.self c.mark_missed-2.new.self (given c.args.out.now)
    (given c.loop-k.out) (given c.mark_missed-2.new.out) c.args.place c.loop-k.place place' c.loop-k.offset c.args.part.end i.same c.mark_missed-2.ensures.same
    i.marks m) c.mark_missed-2.ensures.marks

pub returns-clause-begins : goal.returns-clause-begins
returns-clause-begins g c =
    let i = c.loop-k.invariant in
    err_map c.mark_missed-2.result (λ b.
    begins_then c.args.search.now c.loop-k.search c.mark_missed-2.new.search c.args.self.now c.loop-k.self (given c.args.out.now) (given c.loop-k.out)
    (given c.mark_missed-2.new.out) c.args.place c.loop-k.place c.loop-k.offset i.same c.mark_missed-2.ensures.same i.marks b) c.mark_missed-2.ensures.begins

pub returns-in_err-place-clause-cut : goal.returns-in_err-place-clause-cut
returns-in_err-place-clause-cut g c =
    let i = c.loop-k.invariant in
    let times = walks c.args.self.now.page.options.now in
    let n = c.args.part.end - c.args.part.start in
    let start = c.line_to-line.result.start in
    let p = i.marks.placed in
    let l = c.line_to-line.ensures in
    let first = first_end_of g (goal.at.returns-in_err-place-clause-cut g c).After-listed in
    any_err c.from_residual.result
    (walks_less n times c.args.place.held start c.args.part.end c.args.search.now.matcher c.mark_missed.new.search.matcher
    (omega (arith, first.high, l.end, l.line.order))
    (walks_more n times c.args.place.held c.loop-k.place.held start c.args.search.now.matcher c.loop-k.search.matcher c.mark_missed.new.search.matcher
    i.marks.rises (omega (arith, p.order, p.lines.low, l.line.low)) i.work
    (subst (λ page. WorksWithin (walks page.options.now * (start - c.loop-k.place.held)) c.loop-k.search.matcher c.mark_missed.new.search.matcher)
    i.marks.page c.in_err-place.ensures.cut)))

pub returns-in_err-place-2-clause-cut : goal.returns-in_err-place-2-clause-cut
returns-in_err-place-2-clause-cut g c =
    let i = c.loop-k.invariant in
    let times = walks c.args.self.now.page.options.now in
    let n = c.args.part.end - c.args.part.start in
    let end = c.line_to-line.result.end in
    let l = c.line_to-line.ensures in
    let m1 = c.in_ok-place.ensures in
    let held = c.in_ok-place.place.held in
    let p = m1.marks.placed in
    let mid = c.mark_missed.new.search.matcher in
    let new = c.mark_matched.new.search.matcher in
    let old = c.args.search.now.matcher in
    let page1 = i.marks.page in
    let page2 = m1.marks.page ∙ page1 in
    let first = first_end_of g (goal.at.returns-in_err-place-2-clause-cut g c).After-listed in
    any_err c.from_residual-in_err-place-2.result
    (walks_less n times c.args.place.held (end + 1) c.args.part.end old new (omega (arith, first.high, l.end))
    (walks_more n times c.args.place.held held (end + 1) old mid new (omega (arith, i.marks.rises, m1.marks.rises))
    (omega (arith, p.order, p.lines.low, l.line.order))
    (missed_work g (goal.at.returns-in_err-place-2-clause-cut g c).In_ok-place)
    (subst (λ page. WorksWithin (walks page.options.now * (end + 1 - held)) mid new) page2 c.in_err-place-2.ensures.cut)))

pub returns-clause-work : goal.returns-clause-work
returns-clause-work g c =
    let i = c.loop-k.invariant in
    let new = c.mark_missed-2.new.search.matcher in
    ok_map_with c.mark_missed-2.result (λ place' marks work.
    walks_more (c.args.part.end - c.args.part.start) (walks c.args.self.now.page.options.now) c.args.place.held c.loop-k.place.held place'.held
    c.args.search.now.matcher c.loop-k.search.matcher new i.marks.rises marks.rises i.work
    (subst (λ page. WorksWithin (walks page.options.now * (place'.held - c.loop-k.place.held)) c.loop-k.search.matcher new) i.marks.page work))
    c.mark_missed-2.ensures.marks c.mark_missed-2.ensures.work

pub returns-clause-cut : goal.returns-clause-cut
returns-clause-cut g c =
    let i = c.loop-k.invariant in
    let p = i.marks.placed in
    let new = c.mark_missed-2.new.search.matcher in
    let end = c.args.part.end in
    err_map c.mark_missed-2.result (λ cut.
    walks_more (end - c.args.part.start) (walks c.args.self.now.page.options.now) c.args.place.held c.loop-k.place.held end
    c.args.search.now.matcher c.loop-k.search.matcher new i.marks.rises (omega (arith, p.order, p.lines.low, i.high)) i.work
    (subst (λ page. WorksWithin (walks page.options.now * (end - c.loop-k.place.held)) c.loop-k.search.matcher new) i.marks.page cut))
    c.mark_missed-2.ensures.cut
