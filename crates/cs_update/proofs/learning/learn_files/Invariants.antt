use Rattle.std.proofs.Common.{◌≡◌, Some, map, string_bytes, take}
use Rattle.cs_tree.specs.Snapshot.{Snapshot}
use Rattle.cs_update.specs.Learning.{HasLearned, all_learned, run_of, seen_of}
use Rattle.cs_update.proofs.learning.learn_files.Given as goal

-- what the first files give was learned
abbrev pub invariant-files : goal.invariant-files
invariant-files g l = record {
  learned : (items : Snapshot) → g.T.Tree.snapshot l.initial.tree ≡ Some items → HasLearned l.own
      (all_learned (run_of l.call items (g.T.Look.stamps items)) (map seen_of (take l.file-index l.file-items)));
  paths : l.own.paths ≡ map string_bytes l.paths;
  keeps : g.T.Tree.snapshot l.tree ≡ g.T.Tree.snapshot l.initial.tree;
}
