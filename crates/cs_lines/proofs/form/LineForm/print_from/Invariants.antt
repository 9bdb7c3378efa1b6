use Rattle.std.proofs.Common.{◌≡◌, ◌++◌, length, drop}
use Rattle.cs_lines.specs.Forms.{painted_from}
use Rattle.cs_lines.specs.Ordered.{AreOrdered, pairs}
use Rattle.cs_tree.specs.SinkOutputs.{Keeps, given}
use Rattle.cs_lines.proofs.form.LineForm.print_from.Given as goal

abbrev pub invariant-loop-span : goal.invariant-loop-span
invariant-loop-span g l = record {
  ordered : AreOrdered l.at (length l.line) (pairs (drop l.span-index l.spans));
  given : given l.fn.out ++ painted_from l.self l.line l.from (pairs l.spans)
      ≡ given l.out ++ painted_from l.self l.line l.at (pairs (drop l.span-index l.spans));
  keeps : Keeps g.O.Sink.model g.O.Sink.failed l.fn.out l.out;
}
