use Rattle.std.proofs.Common.{ℕ, ◌+◌, ◌-◌, ◌*◌, List, length, take, drop, subst, arith}
use Rattle.std.specs.Prelude.{OnOk}
use Rattle.std.proofs.lemmas.List.{take_rest, length-take-le}
use Rattle.cs_match.specs.LastPart.{last_line}
use Rattle.cs_match.specs.Lines.{terminated_lines}
use Rattle.cs_match.specs.Work.{WorksWithin}
use Rattle.cs_tree.specs.SinkOutputs.{given}
use Rattle.cs_lines.specs.Scans.{SearchesLast}
use Rattle.cs_lines.specs.Work.{line_weight, line_work, walks}
use Rattle.cs_lines.proofs.rows.Rows.search_rest.Goals as goal

pub search_last-requires-clause-room : goal.search_last-requires-clause-room
search_last-requires-clause-room g c = omega (arith, c.requires.room, length-take-le c.args.from c.args.text.now c.requires.within)

pub returns-clause-rows : goal.returns-clause-rows
returns-clause-rows g c =
    let text = c.args.text.now in
    subst (λ (rest : List ℕ). OnOk c.search_last.result (SearchesLast c.args.search.now c.search_last.new.search c.args.self.now c.search_last.new.self
    (given c.args.out.now) (given c.search_last.new.out) (terminated_lines (take c.args.from text)) (last_line rest)))
    (take_rest text c.args.from) c.search_last.ensures.rows

pub returns-clause-work : goal.returns-clause-work
returns-clause-work g c =
    let text = c.args.text.now in
    let from = c.args.from in
    let w = line_weight c.args.search.now in
    let times = walks c.args.self.now.page.options.now in
    let old = c.args.search.now.matcher in
    let new = c.search_last.new.search.matcher in
    subst (λ (rest : List ℕ). WorksWithin (line_work w (length rest) + times * from) old new) (take_rest text from)
    (subst (λ (n : ℕ). WorksWithin (line_work w (length (take (length text - from) (drop from text))) + times * n) old new)
    (length-take-le from text c.requires.within) c.search_last.ensures.work)
