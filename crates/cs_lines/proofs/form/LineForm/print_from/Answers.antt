use Rattle.std.proofs.Common.{◌+◌, ◌++◌, List, length, drop, get_or, ap, subst, ◌∙◌}
use Rattle.cs_match.specs.declared.spans.Span.{Span as A_span}
use Rattle.cs_lines.specs.Forms.{Span, painted_from}
use Rattle.cs_lines.specs.Ordered.{AreOrdered, pairs}
use Rattle.cs_tree.specs.SinkOutputs.{given}
use Rattle.cs_tree.proofs.SinkOutputLemmas.{keeps_then}
use Rattle.cs_lines.proofs.SpanListLemmas.{ordered_within, ordered_before, pairs_from}
use Rattle.cs_lines.proofs.form.LineForm.print_from.Goals as goal

none : A_span
none = record { start = 0; end = 0 }

pub print_match-at-requires : goal.print_match-at-requires
unfolding none
print_match-at-requires g c =
    let spans = c.args.spans.now in
    let k = c.loop-span.span-index in
    let size = length c.args.line.now in
    let h = subst (AreOrdered c.loop-span.at size) (pairs_from spans k none c.loop-span-test.true) c.loop-span.invariant.ordered in
    record { within = (h.0, h.1, ordered_within (get_or spans k none).end size (pairs (drop (k + 1) spans)) h.2) }

pub loop-span-preserved : goal.loop-span-preserved
unfolding none
loop-span-preserved g c =
    let i = c.loop-span.invariant in
    let spans = c.args.spans.now in
    let k = c.loop-span.span-index in
    let size = length c.args.line.now in
    let step = pairs_from spans k none c.loop-span-test.true in
    let h = subst (AreOrdered c.loop-span.at size) step i.ordered in
    let e = c.print_match-at.ensures in
    record {
      ordered = ordered_before c.print_match-at.result (get_or spans k none).end size (pairs (drop (k + 1) spans)) e.next h.2;
      given = i.given
          ∙ ap (λ (ps : List Span). given c.loop-span.out ++ painted_from c.args.self.now c.args.line.now c.loop-span.at ps) step
          ∙ e.painted (pairs (drop (k + 1) spans));
      keeps = keeps_then g.O.Sink.model g.O.Sink.failed c.args.out.now c.loop-span.out c.print_match-at.new.out i.keeps e.keeps;
    }
