use Rattle.std.proofs.Common.{◌<◌, ◌∙◌, ap, sym, List, ℕ, arith}
use Rattle.std.proofs.lemmas.Bool.Decides.{nat_tests}
use Rattle.std.proofs.lemmas.Bool.{false≢true}
use Rattle.cs_tree.specs.SinkOutputs.{given}
use Rattle.cs_lines.specs.Scans.{rows_at}
use Rattle.cs_lines.specs.Spacing.{printed_by, progress_of}
use Rattle.cs_lines.proofs.SpacingLemmas.{take_one}
use Rattle.cs_lines.proofs.rows.Rows.show_last.Goals as goal

pub returns-clause-rows : goal.returns-clause-rows
returns-clause-rows g c =
    let self = c.args.self.now in
    let line = c.args.line.now in
    let e = c.show.ensures.row in
    let some : 0 < self.left = grind (arith, nat_tests, c.if-self-eq0.false) in (
      λ finding. e.0 finding (λ marked. absurd (false≢true marked))
          ∙ ap (λ (ls : List (List ℕ)). printed_by self.page finding (progress_of self (given c.args.out.now)) (rows_at self.number ls))
          (sym (take_one self.left line some)),
      e.1,
    )
