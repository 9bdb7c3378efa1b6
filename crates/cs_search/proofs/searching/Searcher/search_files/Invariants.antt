use Rattle.std.proofs.Common.{◌≡◌, ◌+◌, Bool, List, ℕ, take}
use Rattle.std.specs.Prelude.{option_map, map, string_bytes}
use Rattle.cs_tree.specs.Snapshot.{Snapshot}
use Rattle.cs_tree.specs.Reads.{ReadsWithin}
use Rattle.cs_search.specs.InputReport.{max_searched}
use Rattle.cs_search.specs.Searcher.{DecidesLines, Prints, IsKept, PrintsAllFaults}
use Rattle.cs_search.specs.Printed.{file_printed, all_printed}
use Rattle.cs_search.proofs.PrintedInputLemmas.{done}
use Rattle.cs_search.proofs.searching.Searcher.search_files.Given as goal

abbrev pub invariant-loop-name : goal.invariant-loop-name
invariant-loop-name g l = record {
  prints : (has_match : List ℕ → Bool) → DecidesLines has_match l.initial.self.lines →
      Prints (option_map (λ (tree : Snapshot). all_printed
      (file_printed max_searched l.initial.self.tool l.initial.self.style has_match tree)
      (map string_bytes (take l.name-index l.names))) (g.T.Tree.snapshot l.initial.tree)) (g.O.Sink.model l.initial.out)
      (g.O.Sink.model l.out) (g.E.Sink.model l.initial.err) (g.E.Sink.model l.err) l.matched;
  faults : PrintsAllFaults l.initial.self.tool (map string_bytes (take l.name-index l.names))
      (g.T.Tree.failed l.initial.tree) (g.T.Tree.failed l.tree) (g.E.Sink.model l.initial.err) (g.E.Sink.model l.err)
      done;
  out_failed : g.O.Sink.failed l.out ≡ g.O.Sink.failed l.initial.out;
  err_failed : g.E.Sink.failed l.err ≡ g.E.Sink.failed l.initial.err;
  kept : IsKept l.initial.self l.self;
  reads : ReadsWithin (max_searched + 1) (g.T.Tree.read_counts l.initial.tree) (g.T.Tree.read_counts l.tree);
  keeps : g.T.Tree.snapshot l.tree ≡ g.T.Tree.snapshot l.initial.tree;
}
