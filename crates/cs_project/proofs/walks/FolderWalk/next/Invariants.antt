use Rattle.std.proofs.Common.{◌≡◌, ◌≤◌, ℕ, List, []}
use Rattle.cs_listing.specs.Walk.{walk_weight}
use Rattle.cs_project.proofs.WalkedLemmas.{HasLeft, StillStamped, walk_measure}
use Rattle.cs_project.proofs.walks.FolderWalk.next.Given as goal

-- the same files are left
abbrev pub invariant-unread : goal.invariant-unread
invariant-unread g l = record {
  kept : g.T.Tree.snapshot l.tree ≡ g.T.Tree.snapshot l.fn.tree;
  form : l.self.form ≡ l.fn.self.form;
  weight : walk_weight l.self.walk ≤ walk_weight l.fn.self.walk;
  visits : (bytes : List ℕ) → g.V.Visitor.Begins l.fn.visitor l.visitor [] bytes bytes × g.V.Visitor.Visits l.fn.visitor l.visitor [] bytes bytes;
  same : g.V.Visitor.Stays l.fn.visitor l.visitor;
  stamped : StillStamped g.T.Look.stamps (g.T.Tree.snapshot l.fn.tree) l.fn.self.walk l.self.walk;
  left : HasLeft (g.T.Tree.snapshot l.fn.tree) l.fn.self.walk l.self.walk;
}

abbrev pub decreases-unread : goal.decreases-unread
decreases-unread g l = walk_measure l.self.walk
