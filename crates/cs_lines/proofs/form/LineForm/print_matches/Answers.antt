use Rattle.std.proofs.Common.{◌+◌, ◌++◌, ℕ, List, length, drop, get_or, ap, sym, subst, ◌∙◌, append_assoc}
use Rattle.std.specs.List.{flat_map}
use Rattle.cs_match.specs.declared.spans.Span.{Span as A_span}
use Rattle.cs_lines.specs.Forms.{Span, match_bytes}
use Rattle.cs_lines.specs.Ordered.{AreOrdered, pairs}
use Rattle.cs_tree.specs.SinkOutputs.{given}
use Rattle.cs_lines.specs.Printing.{row_of}
use Rattle.cs_tree.proofs.SinkOutputLemmas.{keeps_then}
use Rattle.cs_lines.proofs.SpanListLemmas.{span_within, pairs_from}
use Rattle.cs_lines.proofs.form.LineForm.print_matches.Goals as goal

pub print_each-requires-clause-within : goal.print_each-requires-clause-within
print_each-requires-clause-within g c =
    let none : A_span = record { start = 0; end = 0 } in
    let i = c.loop-span.invariant in
    span_within c.args.found.now.spans.now c.loop-span.span-index i.from (length c.args.found.now.row.line.now) none c.loop-span-test.true i.ordered

pub loop-span-preserved : goal.loop-span-preserved
loop-span-preserved g c =
    let none : A_span = record { start = 0; end = 0 } in
    let i = c.loop-span.invariant in
    let found = c.args.found.now in
    let spans = found.spans.now in
    let k = c.loop-span.span-index in
    let span = get_or spans k none in
    let rest = pairs (drop (k + 1) spans) in
    let step = pairs_from spans k none c.loop-span-test.true in
    let bytes = match_bytes c.args.self.now found.name.now (row_of found.row) (pairs spans) in
    let given = given c.loop-span.out in
    record {
      from = span.end;
      ordered = (subst (AreOrdered i.from (length found.row.line.now)) step i.ordered).2;
      given = i.given ∙ ap (λ (ps : List Span). given ++ flat_map bytes ps) step
          ∙ sym (append_assoc given (bytes (span.start, span.end)) (flat_map bytes rest))
          ∙ ap (λ (out : List ℕ). out ++ flat_map bytes rest) (sym c.print_each.ensures.0);
      keeps = keeps_then g.O.Sink.model g.O.Sink.failed c.args.out.now c.loop-span.out c.print_each.new.out i.keeps c.print_each.ensures.1;
    }
