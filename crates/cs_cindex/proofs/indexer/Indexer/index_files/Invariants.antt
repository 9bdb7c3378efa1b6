use Rattle.std.proofs.Common.{◌≡◌, ◌<◌, ◌^◌, true, map, string_bytes, take, drop}
use Rattle.cs_index.specs.LeastLength.{least_length}
use Rattle.cs_cindex.proofs.Common.{AreWithinPathLimit, are_ascending, AreTextsIn, AreAbove, HaveNamesOf, PrintsFiles}
use Rattle.cs_cindex.specs.ReadsFiles.{ReadsFiles}
use Rattle.cs_cindex.proofs.indexer.Indexer.index_files.Given as goal

abbrev pub invariant-loop-name : goal.invariant-loop-name
invariant-loop-name g l = record {
  texts : AreTextsIn (g.T.Tree.snapshot l.initial.tree) (map string_bytes (take l.name-index l.names)) l.self.builder.entries;
  names : HaveNamesOf (map string_bytes (take l.name-index l.names)) l.self.builder.entries;
  prints : PrintsFiles l.initial.self.log_skip (g.T.Tree.snapshot l.initial.tree)
      (map string_bytes (take l.name-index l.names)) (g.T.Tree.failed l.initial.tree) (g.T.Tree.failed l.tree)
      (g.E.Sink.model l.initial.err) (g.E.Sink.model l.err);
  small : least_length l.self.builder.entries < 2 ^ 32;
  ascend : are_ascending (map string_bytes (drop l.name-index l.names)) ≡ true;
  above : AreAbove l.self.builder.entries (map string_bytes (drop l.name-index l.names));
  paths : l.self.builder.paths ≡ l.initial.self.builder.paths;
  log_skip : l.self.log_skip ≡ l.initial.self.log_skip;
  writes : g.E.Sink.failed l.err ≡ g.E.Sink.failed l.initial.err;
  path_limit : AreWithinPathLimit (map string_bytes (drop l.name-index l.names));
  tree : ReadsFiles g.T.Tree.snapshot g.T.Tree.longest_requested g.T.Tree.read_counts l.initial.tree l.tree;
}
