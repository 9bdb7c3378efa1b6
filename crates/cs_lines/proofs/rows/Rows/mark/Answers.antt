use Rattle.std.proofs.Common.{◌≤◌, ◌+◌, ◌-◌, ◌*◌, [], length, take, drop, sym, subst, ◌∙◌, arith, length-take}
use Rattle.std.proofs.lemmas.Bool.{false≢true}
use Rattle.cs_match.proofs.WholeLineLemmas.{line_between}
use Rattle.cs_match.specs.Skipping.{AreWholeLines}
use Rattle.cs_match.specs.Work.{WorksWithin}
use Rattle.cs_tree.specs.SinkOutputs.{given}
use Rattle.cs_lines.specs.Findings.{found_spans, found_tree}
use Rattle.cs_lines.specs.Ordered.{pairs}
use Rattle.cs_lines.specs.Shown.{is_wanted}
use Rattle.cs_lines.specs.Work.{walks}
use Rattle.cs_lines.proofs.FindingLemmas.{found_same}
use Rattle.cs_lines.proofs.NumberLemmas.{plain_alone}
use Rattle.cs_lines.proofs.PlaceLemmas.{any_err, begins_here, cut_fits, cut_whole, line_lines, line_marked, marks_here, none_closed, placed_line, placed_more, same_spans}
use Rattle.cs_lines.proofs.SearchLemmas.{cut_rest}
use Rattle.cs_lines.proofs.WorkLemmas.{works_any}
use Rattle.cs_lines.proofs.rows.Rows.mark.Goals as goal

pub returns-then-not-is_open-clause-marks : goal.returns-then-not-is_open-clause-marks
returns-then-not-is_open-clause-marks g c =
    let rows = c.args.self.now in
    let place = c.args.place in
    let line = c.args.line in
    marks_here c.args.search.now c.args.search.now rows (given c.args.out.now) place (line.end + 1)
    (placed_more c.args.search.now rows place line.start (line.end + 1) c.requires.placed
    (line_lines place.block.now line.start line.end c.requires.line)
    (λ test tests. none_closed (is_wanted rows.page.options.now test) rows.most _ (sym c.is_open.ensures ∙ c.if-not-is_open.true)))

pub returns-in_err-find-clause-begins : goal.returns-in_err-find-clause-begins
returns-in_err-find-clause-begins g c =
    any_err c.from_residual.result (begins_here c.args.search.now c.find.new.self c.args.self.now (given c.args.out.now) c.args.place)

pub returns-then-not-is_open-clause-work : goal.returns-then-not-is_open-clause-work
returns-then-not-is_open-clause-work g c = works_any (walks c.args.self.now.page.options.now * (c.args.place.held - c.args.place.held)) c.args.search.now.matcher

pub returns-in_err-find-clause-cut : goal.returns-in_err-find-clause-cut
returns-in_err-find-clause-cut g c =
    any_err c.from_residual.result
    (subst (WorksWithin (walks c.args.self.now.page.options.now * (c.args.line.end + 1 - c.args.place.held)) c.args.search.now.matcher)
    (sym c.in_err-find.ensures.matcher) c.count_walks.ensures.work)

pub pass-held-requires-clause-whole : goal.pass-held-requires-clause-whole
pass-held-requires-clause-whole g c =
    let r = c.requires in
    let line = c.args.line in
    let next = placed_line c.args.search.now c.args.self.now c.args.place line.start line.end r.placed r.line in
    cut_whole c.args.self.now c.args.place line.start line.end next

pub pass-held-requires-clause-fits : goal.pass-held-requires-clause-fits
pass-held-requires-clause-fits g c =
    let r = c.requires in
    let line = c.args.line in
    let next = placed_line c.args.search.now c.args.self.now c.args.place line.start line.end r.placed r.line in
    cut_fits c.args.self.now c.args.place line.start line.end next

pub pass-held-requires-2-clause-whole : goal.pass-held-requires-2-clause-whole
pass-held-requires-2-clause-whole g c =
    let r = c.requires in
    let line = c.args.line in
    let next = placed_line c.args.search.now c.args.self.now c.args.place line.start line.end r.placed r.line in
    cut_whole c.args.self.now c.args.place line.start line.end next

pub pass-held-requires-2-clause-fits : goal.pass-held-requires-2-clause-fits
pass-held-requires-2-clause-fits g c =
    let r = c.requires in
    let line = c.args.line in
    let next = placed_line c.args.search.now c.args.self.now c.args.place line.start line.end r.placed r.line in
    cut_fits c.args.self.now c.args.place line.start line.end next

pub show_mark-requires-clause-whole : goal.show_mark-requires-clause-whole
show_mark-requires-clause-whole g c =
    let p = c.pass-held-2.ensures.passed in
    let l = c.requires.line in
    let block = c.args.place.block.now in
    let start = c.args.line.start in
    let inside : start ≤ length block = omega (arith, l.order, l.high) in
    let before : c.pass-held-2.result ≤ start = omega (arith, p.within, length-take start block) in
    subst AreWholeLines (cut_rest block start inside c.pass-held-2.result before) p.whole

pub returns-then-is_plain-clause-marks : goal.returns-then-is_plain-clause-marks
returns-then-is_plain-clause-marks g c =
    let rows = c.args.self.now in
    let search = c.args.search.now in
    let place = c.args.place in
    let line = c.args.line in
    let r = c.requires in
    let next = placed_line search rows place line.start line.end r.placed r.line in
    let alone = plain_alone rows.page.options.now (sym c.is_plain.ensures ∙ c.if-is_plain.true) in
    let own = take (line.end - line.start) (drop line.start place.block.now) in
    let p = c.pass-held.ensures in
    let s = c.show_plain.ensures in
    let shown = s.rows own (line_between place.block.now line.start line.end r.line.order r.line.newline) [] in
    let a = c.after.ensures in
    line_marked rows c.pass-held.new.self c.show_plain.new.self (given c.args.out.now) (given c.pass-held.new.out) (given c.show_plain.new.out) place
    c.pass-held.result line.start line.end [] next p.passed p.rows shown search c.count_walks.new.search c.after.result r.placed r.wanted
    (λ none finding found needs. absurd (false≢true (sym alone.2 ∙ needs))) a.block a.held a.at s.room

pub returns-clause-marks : goal.returns-clause-marks
returns-clause-marks g c =
    let rows = c.args.self.now in
    let search = c.args.search.now in
    let mid = c.count_walks.new.search in
    let place = c.args.place in
    let line = c.args.line in
    let r = c.requires in
    let next = placed_line search rows place line.start line.end r.placed r.line in
    let own = take (line.end - line.start) (drop line.start place.block.now) in
    let spans = pairs c.spans.result.now in
    let p = c.pass-held-2.ensures in
    let s = c.show_mark.ensures in
    let a = c.after-2.ensures in
    line_marked rows c.pass-held-2.new.self c.show_mark.new.self (given c.args.out.now) (given c.pass-held-2.new.out) (given c.show_mark.new.out) place
    c.pass-held-2.result line.start line.end spans next p.passed p.rows s.rows search c.find.new.self c.after-2.result r.placed r.wanted
    (λ none finding found needs. same_spans (found_tree mid) mid.whole own (finding.spans own) (found_spans c.find.new.self)
    ((found_same search mid c.count_walks.ensures.same finding found).1 own) (c.in_ok-find.ensures.spans none needs) ∙ sym c.spans.ensures)
    a.block a.held a.at s.room
