use Rattle.std.proofs.Common.{arith}
use Rattle.cs_match.specs.declared.spans.Span.{Span as A_span}
use Rattle.cs_lines.proofs.SpanListLemmas.{first_start}
use Rattle.cs_lines.proofs.found.first_column.Goals as goal

pub overflow_add-result : goal.overflow_add-result
overflow_add-result c =
    let none : A_span = record { start = 0; end = 0 } in
    omega (arith, first_start c.args.spans.now 18446744073709551614 none c.in-len1-up.len_at_least c.requires.within)
