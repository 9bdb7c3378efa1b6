use Rattle.std.proofs.Common.{◌≡◌, map, take}
use Rattle.cs_cindex.proofs.Common.{Grows, fault_entry, fault_entry_line, text_of}
use Rattle.cs_cindex.proofs.printing.print_walk_faults.Given as goal

abbrev pub invariant-loop-path : goal.invariant-loop-path
invariant-loop-path g l = record {
  printed : Grows (g.E.Sink.model l.initial.err) (g.E.Sink.model l.err)
      (text_of (map fault_entry_line (map fault_entry (take l.path-index l.faults))));
  writes : g.E.Sink.failed l.err ≡ g.E.Sink.failed l.initial.err;
}
