use Rattle.std.proofs.Common.{◌+◌, ◌-◌, ◌∷◌, [], Bool, take, drop, sym, ap, subst, ◌∙◌}
use mathlib.Core.Bool.{beq}
use Rattle.cs_lines.specs.Findings.{HasWordBy, HasMatchBy}
use Rattle.cs_tree.specs.SinkOutputs.{given}
use Rattle.cs_lines.specs.Scans.{NoneMarked}
use Rattle.cs_lines.specs.Shown.{is_wanted}
use Rattle.cs_lines.proofs.PlaceLemmas.{begins_then, err_map, line_is, line_lines, marks_here, marks_then, none_wanted, ok_map, other_wanted, placed_kept, placed_more, test_is, tests_before, unwanted}
use Rattle.cs_lines.proofs.rows.Rows.mark_matched.Goals as goal

pub returns-then-is_wanted-self-clause-marks : goal.returns-then-is_wanted-self-clause-marks
returns-then-is_wanted-self-clause-marks g c =
    let rows = c.args.self.now in
    let search = c.args.search.now in
    let place = c.args.place in
    let line = c.args.line in
    let options = rows.page.options.now in
    let own = take (line.end - line.start) (drop line.start place.block.now) in
    let e = c.is_wanted.ensures in
    marks_here search c.is_wanted.new.self rows (given c.args.out.now) place (line.end + 1)
    (placed_kept search c.is_wanted.new.self rows place (line.end + 1) e.same
    (placed_more search rows place line.start (line.end + 1) c.requires.placed (line_lines place.block.now line.start line.end c.requires.line)
    (λ test tests.
    let here = test_is {H = HasMatchBy search own} {W = HasWordBy search own} (test own) c.is_wanted.result (tests own) c.requires.matched e.found in
    subst (NoneMarked (is_wanted options test) rows.most) (sym (line_is place.block.now line.start line.end c.requires.line))
    (none_wanted (is_wanted options test) rows.most (own ∷ []) (unwanted options.invert (test own) (ap (λ (b : Bool). beq b options.invert) here ∙ c.if-is_wanted-self.true), tt)))))

pub mark-requires-clause-placed : goal.mark-requires-clause-placed
mark-requires-clause-placed g c =
    placed_kept c.args.search.now c.is_wanted.new.self c.args.self.now c.args.place c.args.line.start c.is_wanted.ensures.same c.requires.placed

pub mark-requires-clause-wanted : goal.mark-requires-clause-wanted
mark-requires-clause-wanted g c = λ test tests.
    let search = c.args.search.now in
    let line = c.args.line in
    let own = take (line.end - line.start) (drop line.start c.args.place.block.now) in
    let e = c.is_wanted.ensures in
    let before = tests_before search c.is_wanted.new.self e.same test tests in
    let here = test_is {H = HasMatchBy search own} {W = HasWordBy search own} (test own) c.is_wanted.result (before own) c.requires.matched e.found in
    let invert = c.args.self.now.page.options.now.invert in
    other_wanted invert (test own) (ap (λ (b : Bool). beq b invert) here ∙ c.if-is_wanted-self.false)

pub returns-clause-marks : goal.returns-clause-marks
returns-clause-marks g c =
    let search = c.args.search.now in
    let rows = c.args.self.now in
    let start = given c.args.out.now in
    let placed = c.requires.placed in
    let mid = c.is_wanted.new.self in
    let kept = c.is_wanted.ensures.same in
    ok_map c.mark.result (λ place' m.
    marks_then search mid c.mark.new.search rows rows c.mark.new.self start start (given c.mark.new.out) c.args.place c.args.place place' c.args.line.start
    (c.args.line.end + 1) kept c.mark.ensures.same
    (marks_here search mid rows start c.args.place c.args.line.start (placed_kept search mid rows c.args.place c.args.line.start kept placed)) m)
    c.mark.ensures.marks

pub returns-clause-begins : goal.returns-clause-begins
returns-clause-begins g c =
    let search = c.args.search.now in
    let rows = c.args.self.now in
    let start = given c.args.out.now in
    let mid = c.is_wanted.new.self in
    let kept = c.is_wanted.ensures.same in
    err_map c.mark.result (λ b.
    begins_then search mid c.mark.new.search rows rows start start (given c.mark.new.out) c.args.place c.args.place c.args.line.start kept c.mark.ensures.same
    (marks_here search mid rows start c.args.place c.args.line.start (placed_kept search mid rows c.args.place c.args.line.start kept c.requires.placed)) b)
    c.mark.ensures.begins
