use Rattle.std.proofs.Common.{◌+◌, ◌++◌, true, ℕ, List, sym, ap, ◌∙◌, append_assoc}
use Rattle.cs_lines.specs.Forms.{row_bytes}
use Rattle.cs_lines.specs.Ordered.{pairs}
use Rattle.cs_tree.specs.SinkOutputs.{given}
use Rattle.cs_lines.specs.Printing.{row_of}
use Rattle.cs_lines.specs.Shown.{gap}
use Rattle.cs_lines.specs.Spacing.{Progress, before_row, opening_of}
use Rattle.cs_lines.proofs.SpanListLemmas.{row_same}
use Rattle.cs_lines.proofs.rows.Rows.show.Goals as goal
use Rattle.std.proofs.Common.{refl}

pub returns-clause-row : goal.returns-clause-row
returns-clause-row g c =
    let old = c.args.self.now in
    let row = row_of c.args.row.now in
    let form = old.page.options.now.form in
    let name = old.page.name.now in
    let spans = pairs c.args.spans.now in
    let start = given c.args.out.now in
    let before = before_row (opening_of old.page) (gap old.page.options.now) old.shown old.next row.number in (
      λ finding same.
          ap (λ (bytes : List ℕ). let p : Progress = record { given = bytes; shown = true; next = row.number + 1 } in p)
          (c.print_found.ensures.0 ∙ ap (λ m. m ++ row_bytes form name row spans) c.print_before.ensures.0
          ∙ append_assoc start before (row_bytes form name row spans)
          ∙ ap (λ b. start ++ (before ++ b)) (row_same form name row spans (finding.spans row.line) (λ marked needs. sym (same marked needs)))),
      refl,
      (refl, refl, refl),
    )
