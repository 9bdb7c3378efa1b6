use Rattle.std.proofs.Common.{◌≡◌, ◌-◌, Bool, true, false, not, if◌then◌else◌, take, drop, ap, ◌∙◌}
use Rattle.cs_match.specs.Lines.{terminated_lines}
use Rattle.cs_tree.specs.SinkOutputs.{given}
use Rattle.cs_lines.specs.Shown.{is_wanted}
use Rattle.cs_lines.proofs.PlaceLemmas.{all_map, marks_here, missed_lines, none_wanted, placed_more}
use Rattle.cs_lines.proofs.rows.Rows.mark_missed.Goals as goal

pub mark_each-requires-clause-wanted : goal.mark_each-requires-clause-wanted
mark_each-requires-clause-wanted g c = λ test tests.
    let part = c.args.part in
    let block = c.args.place.block.now in
    let options = c.args.self.now.page.options.now in
    all_map (λ line. test line ≡ false) (λ line. is_wanted options test line ≡ true)
    (λ line miss. ap (λ (b : Bool). if b then not (test line) else test line) c.if-self.true ∙ ap not miss)
    (terminated_lines (take (part.end - part.start) (drop part.start block)))
    (missed_lines c.args.search.now block part.start part.end c.requires.lines c.requires.missed test tests)

pub returns-else-self-clause-marks : goal.returns-else-self-clause-marks
returns-else-self-clause-marks g c =
    let rows = c.args.self.now in
    let search = c.args.search.now in
    let part = c.args.part in
    let place = c.args.place in
    let block = place.block.now in
    let options = rows.page.options.now in
    let lines = terminated_lines (take (part.end - part.start) (drop part.start block)) in
    marks_here search search rows (given c.args.out.now) place part.end
    (placed_more search rows place part.start part.end c.requires.placed c.requires.lines
    (λ test tests. none_wanted (is_wanted options test) rows.most lines
    (all_map (λ line. test line ≡ false) (λ line. is_wanted options test line ≡ false)
    (λ line miss. ap (λ (b : Bool). if b then not (test line) else test line) c.if-self.false ∙ miss) lines
    (missed_lines search block part.start part.end c.requires.lines c.requires.missed test tests))))
