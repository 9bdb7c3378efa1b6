use Rattle.std.proofs.Common.{◌≡◌}
use Rattle.cs_listing.specs.Stamps.{AreStamped, InStamps}
use Rattle.cs_listing.specs.Walk.{walk_weight}
use Rattle.cs_tree.specs.SinkOutputs.{Keeps}
use Rattle.cs_project.specs.Knowledge.{HoldsAsBefore}
use Rattle.cs_project.specs.Noted.{NotesSeen}
use Rattle.cs_project.specs.Visits.{KnowsFor}
use Rattle.cs_project.proofs.WalkedLemmas.{HasTaken}
use Rattle.cs_project.proofs.walks.FolderWalk.visit.Given as goal

-- some files were visited
abbrev pub invariant-files : goal.invariant-files
invariant-files g l = record {
  handed : Keeps g.O.Sink.model g.O.Sink.failed l.fn.out l.out;
  kept : g.T.Tree.snapshot l.tree ≡ g.T.Tree.snapshot l.fn.tree;
  form : l.self.form ≡ l.fn.self.form;
  same : g.V.Visitor.Stays l.fn.visitor l.visitor;
  stamped : InStamps (g.T.Tree.snapshot l.fn.tree) g.T.Look.stamps (λ stamps. AreStamped stamps l.self.walk);
  holds : HoldsAsBefore (g.K.Knowledge.Holds l.fn.known) (g.K.Knowledge.Holds l.known);
  noted : NotesSeen g.T.Look.stamps (g.T.Tree.snapshot l.fn.tree) (g.K.Knowledge.noted l.fn.known) (g.K.Knowledge.noted l.known);
  taken : HasTaken (g.T.Tree.snapshot l.fn.tree) l.fn.self l.self (λ named.
      KnowsFor g.V.Visitor.Asks (g.K.Knowledge.Holds l.fn.known) g.T.Look.stamps (g.T.Tree.snapshot l.fn.tree) l.fn.visitor →
      g.V.Visitor.Begins l.fn.visitor l.visitor named l.fn.out.sent.bytes l.out.sent.bytes
      × g.V.Visitor.Visits l.fn.visitor l.visitor named l.fn.out.sent.bytes l.out.sent.bytes);
}

abbrev pub decreases-files : goal.decreases-files
decreases-files g l = walk_weight l.self.walk
