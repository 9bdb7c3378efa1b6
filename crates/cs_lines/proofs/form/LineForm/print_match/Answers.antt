use Rattle.std.proofs.Common.{◌++◌, List, ℕ, ap, sym, ◌∙◌, codes, slice_range, arith}
use Rattle.cs_lines.specs.Forms.{dyed, painted_from}
use Rattle.cs_tree.specs.SinkOutputs.{given}
use Rattle.cs_lines.proofs.SpanListLemmas.{match_painted}
use Rattle.cs_lines.proofs.form.LineForm.print_match.Goals as goal

pub returns-clause-painted : goal.returns-clause-painted
returns-clause-painted g c = λ spans.
    let form = c.args.self.now in
    let line = c.args.line.now in
    let span = c.args.span in
    let bytes = dyed form (codes "1;31") (slice_range line span.start span.end) in
    match_painted form line c.args.at (span.start, span.end) spans (given c.args.out.now) (omega arith)
    ∙ ap (λ (out : List ℕ). out ++ painted_from form line span.end spans)
    (sym (c.print_dyed.ensures.0 ∙ ap (λ (out : List ℕ). out ++ bytes) c.print.ensures.0))
