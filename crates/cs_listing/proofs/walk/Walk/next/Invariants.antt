use Rattle.std.proofs.Common.{◌≡◌, ◌≤◌}
use Rattle.cs_listing.specs.FolderReads.{InTree}
use Rattle.cs_listing.specs.Walk.{IsWalkIn, StepGives, settings_in, walk_weight, unread_in, KeepsReports}
use Rattle.cs_listing.specs.ReportsAll.{KeepsToReport}
use Rattle.cs_listing.specs.Stamps.{InStamps, KeepsStamped}
use Rattle.cs_listing.specs.declared.walk.Step.TheVariants.{More}
use Rattle.cs_listing.proofs.walk.Walk.next.Given as goal

-- the steps so far have found no answer
abbrev pub invariant-steps : goal.invariant-steps
invariant-steps g l = record {
  steps : InTree (g.T.Tree.snapshot l.initial.tree) (λ items. IsWalkIn items l.initial.self → StepGives items l.initial.self l.self More);
  all : InTree (g.T.Tree.snapshot l.initial.tree) (λ items. IsWalkIn items l.initial.self → KeepsToReport items l.initial.self l.self);
  stamps : InStamps (g.T.Tree.snapshot l.initial.tree) g.T.Look.stamps (λ stamps. KeepsStamped stamps l.initial.self l.self);
  weight : walk_weight l.self ≤ walk_weight l.initial.self;
  unread : walk_weight l.self ≡ walk_weight l.initial.self → unread_in l.self ≡ unread_in l.initial.self;
  reported : KeepsReports l.initial.self.reported l.self.reported;
  settings : settings_in l.self ≡ settings_in l.initial.self;
  kept : g.T.Tree.snapshot l.tree ≡ g.T.Tree.snapshot l.initial.tree;
}

abbrev pub decreases-steps : goal.decreases-steps
decreases-steps g l = walk_weight l.self
