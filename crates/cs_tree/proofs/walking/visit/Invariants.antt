use Rattle.std.proofs.Common.{map}
use Rattle.std.specs.Prelude.{string_bytes}
use Rattle.cs_tree.specs.Cover.{covers}
use Rattle.cs_tree.specs.WalkSteps.{KeepsCount, KeepsTo, KeepsPathLimit, LooksUp}
use Rattle.cs_tree.proofs.FaultCountLemmas.{AddsFewSoFar}
use Rattle.cs_tree.proofs.PendingLemmas.{UnderwayIn, weight}
use Rattle.cs_tree.proofs.UnderLemmas.{AreBelow}
use Rattle.cs_tree.proofs.walking.visit.Given as goal

-- everything reachable is found, or is reachable from a pending path
abbrev pub invariant-pending : goal.invariant-pending
invariant-pending g l = record {
  gathers : UnderwayIn (g.T.Tree.snapshot l.initial.tree) (string_bytes l.fn.start) (map string_bytes l.pending.items)
      l.initial.walked l.walked;
  under : KeepsTo (covers (string_bytes l.fn.start)) l.initial.walked l.walked;
  below : AreBelow (string_bytes l.fn.start) (map string_bytes l.pending.items);
  path_limit : KeepsPathLimit l.initial.walked l.walked;
  counted : KeepsCount (g.T.Tree.failed l.initial.tree) (g.T.Tree.failed l.tree) l.initial.walked l.walked;
  once : AddsFewSoFar (string_bytes l.fn.start) (map string_bytes l.pending.items) l.initial.walked l.walked;
  tree : LooksUp g.T.Tree.snapshot g.T.Tree.failed g.T.Tree.longest_requested g.T.Tree.read_counts l.initial.tree l.tree;
}

abbrev pub decreases-pending : goal.decreases-pending
decreases-pending g l = weight (map string_bytes l.pending.items)
