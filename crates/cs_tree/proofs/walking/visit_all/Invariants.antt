use Rattle.std.proofs.Common.{map, take}
use Rattle.std.specs.Prelude.{string_bytes}
use Rattle.cs_tree.specs.WalkSteps.{GathersIn, KeepsCount, KeepsTo, AddsFewFaults, KeepsPathLimit, LooksUp}
use Rattle.cs_tree.specs.Cover.{is_covered}
use Rattle.cs_tree.specs.PathSet as set
use Rattle.cs_tree.specs.Reachability.{reaches}
use Rattle.cs_tree.proofs.GatherLemmas.{reach_by}
use Rattle.cs_tree.proofs.walking.visit_all.Given as goal

-- everything reachable from the paths so far is found
abbrev pub invariant-paths : goal.invariant-paths
invariant-paths g l = record {
  gathers : GathersIn (g.T.Tree.snapshot l.initial.tree)
      (reach_by reaches (map string_bytes (take l.path-index l.paths))) l.initial.walked l.walked;
  under : KeepsTo (is_covered (set.from_list (map string_bytes (take l.path-index l.paths)))) l.initial.walked l.walked;
  path_limit : KeepsPathLimit l.initial.walked l.walked;
  counted : KeepsCount (g.T.Tree.failed l.initial.tree) (g.T.Tree.failed l.tree) l.initial.walked l.walked;
  once : AddsFewFaults (map string_bytes (take l.path-index l.paths)) l.initial.walked l.walked;
  tree : LooksUp g.T.Tree.snapshot g.T.Tree.failed g.T.Tree.longest_requested g.T.Tree.read_counts l.initial.tree l.tree;
}
