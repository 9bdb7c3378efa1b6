use Rattle.std.proofs.Common.{arith, length}
use Rattle.cs_lines.specs.Ordered.{pairs}
use Rattle.cs_lines.proofs.SpanListLemmas.{ordered_more}
use Rattle.cs_lines.proofs.form.LineForm.print_whole.Goals as goal

pub first_column-requires : goal.first_column-requires
first_column-requires g c =
    let found = c.args.found.now in
    record { within = ordered_more 0 (length found.row.line.now) 18446744073709551614 (pairs found.spans.now) (omega arith) c.requires.ordered }
