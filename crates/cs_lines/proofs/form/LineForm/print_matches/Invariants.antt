use Rattle.std.proofs.Common.{◌≡◌, ◌++◌, ℕ, length, drop}
use Rattle.std.specs.List.{flat_map}
use Rattle.cs_lines.specs.Forms.{match_bytes}
use Rattle.cs_lines.specs.Ordered.{AreOrdered, pairs}
use Rattle.cs_tree.specs.SinkOutputs.{Keeps, given}
use Rattle.cs_lines.specs.Printing.{row_of}
use Rattle.cs_lines.proofs.form.LineForm.print_matches.Given as goal

abbrev pub invariant-loop-span : goal.invariant-loop-span
invariant-loop-span g l = record {
  from : ℕ;
  ordered : AreOrdered from (length l.found.row.line.now) (pairs (drop l.span-index l.spans));
  given : given l.fn.out ++ flat_map (match_bytes l.self l.found.name.now (row_of l.found.row) (pairs l.found.spans.now)) (pairs l.found.spans.now)
      ≡ given l.out ++ flat_map (match_bytes l.self l.found.name.now (row_of l.found.row) (pairs l.found.spans.now)) (pairs (drop l.span-index l.spans));
  keeps : Keeps g.O.Sink.model g.O.Sink.failed l.fn.out l.out;
}
