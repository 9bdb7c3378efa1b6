use Rattle.std.proofs.Common.{◌≡◌, take, false}
use Rattle.cs_tree.specs.PathParts.{texts}
use Rattle.cs_tree.specs.Snapshot.{Item}
use Rattle.cs_listing.specs.Models.{chosen_in}
use Rattle.cs_tree.specs.SinkOutputs.{Keeps}
use Rattle.cs_project.specs.Knowledge.{HoldsAsBefore}
use Rattle.cs_project.specs.Noted.{NotesSeen}
use Rattle.cs_project.specs.Scopes.{InInput, left_by, left_if}
use Rattle.cs_project.specs.Visits.{KnowsFor}
use Rattle.cs_project.proofs.ScopeLemmas.{HasNamed}
use Rattle.cs_project.proofs.scope.Scope.visit_words.Given as goal

-- what some words name was visited
abbrev pub invariant-words : goal.invariant-words
invariant-words g l = record {
  handed : Keeps g.O.Sink.model g.O.Sink.failed l.fn.out l.out;
  kept : g.T.Tree.snapshot l.tree ≡ g.T.Tree.snapshot l.fn.tree;
  same : g.V.Visitor.Stays l.fn.visitor l.visitor;
  holds : HoldsAsBefore (g.K.Knowledge.Holds l.fn.known) (g.K.Knowledge.Holds l.known);
  noted : NotesSeen g.T.Look.stamps (g.T.Tree.snapshot l.fn.tree) (g.K.Knowledge.noted l.fn.known) (g.K.Knowledge.noted l.known);
  left : (item : Item) → left_by (texts (take l.word-index l.self.words.now)) item ≡ left_if l.is_read item;
  unread : l.is_read ≡ false → g.R.Source.model l.input ≡ g.R.Source.model l.fn.input;
  named : InInput (g.R.Source.model l.fn.input) (λ input.
      KnowsFor g.V.Visitor.Asks (g.K.Knowledge.Holds l.fn.known) g.T.Look.stamps (g.T.Tree.snapshot l.fn.tree) l.fn.visitor →
      HasNamed (g.T.Tree.snapshot l.fn.tree) (chosen_in l.self.choices.now) l.self.folder.now input
      (texts (take l.word-index l.self.words.now)) (g.V.Visitor.is_wrong l.visitor) (λ named.
      g.V.Visitor.Begins l.fn.visitor l.visitor named l.fn.out.sent.bytes l.out.sent.bytes
      × g.V.Visitor.Visits l.fn.visitor l.visitor named l.fn.out.sent.bytes l.out.sent.bytes));
}
