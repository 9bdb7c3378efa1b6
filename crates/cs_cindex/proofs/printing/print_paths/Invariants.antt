use Rattle.std.proofs.Common.{◌≡◌, ℕ, List, ◌++◌}
use Rattle.cs_cindex.proofs.Common.{Grows, path_lines}
use Rattle.cs_cindex.proofs.printing.print_paths.Given as goal

-- the lines so far were written, and with the remaining ones they are all lines
abbrev pub invariant-paths : goal.invariant-paths
invariant-paths g l = record {
  done : List ℕ;
  grows : Grows (g.O.Sink.model l.initial.out) (g.O.Sink.model l.out) done;
  whole : done ++ path_lines l.path-iterator ≡ path_lines l.fn.paths;
  failures : g.O.Sink.failed l.out ≡ g.O.Sink.failed l.initial.out;
}
