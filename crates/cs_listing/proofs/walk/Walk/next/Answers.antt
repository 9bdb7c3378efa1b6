use Rattle.std.proofs.Common.{◌<◌, arith, subst, ◌∙◌}
use Rattle.cs_listing.specs.Walk.{walk_weight, KeepsReports, StepGives, StepComesNearer, StepReportsOnce}
use Rattle.cs_listing.proofs.WeightLemmas.{nearer}
use Rattle.cs_listing.specs.FolderReads.{InTree}
use Rattle.cs_listing.specs.Walk.{IsWalkIn}
use Rattle.cs_listing.specs.ReportsAll.{StepReportsAll}
use Rattle.cs_listing.proofs.ReportAllLemmas.{all_done, more_steps}
use Rattle.cs_listing.proofs.NextLemmas.{steps_then, gives_after}
use Rattle.cs_listing.specs.Stamps.{InStamps, StepGivesStamped}
use Rattle.cs_listing.proofs.StampLemmas.{keeps_then, gives_then}
use Rattle.cs_listing.proofs.walk.Walk.next.Goals as goal

pub returns-in-Done-clause-nearer : goal.returns-in-Done-clause-nearer
returns-in-Done-clause-nearer g c =
    nearer c.args.self.now c.steps.self c.step.new.self c.in-Done.found c.steps.invariant.weight c.steps.invariant.unread
    c.steps.invariant.reported
    (subst (λ step. StepComesNearer c.steps.self c.step.new.self step) c.in-Done.is c.in_ok-found.ensures.nearer)

pub returns-in-Done-clause-all : goal.returns-in-Done-clause-all
returns-in-Done-clause-all g c =
    all_done (g.T.Tree.snapshot c.args.tree.now) (g.T.Tree.snapshot c.steps.tree) c.args.self.now c.steps.self c.step.new.self c.in-Done.found
    c.steps.invariant.kept c.steps.invariant.steps c.steps.invariant.all c.steps.invariant.reported
    (subst (λ step. InTree (g.T.Tree.snapshot c.steps.tree) (λ items. IsWalkIn items c.steps.self
    → StepReportsAll items c.steps.self c.step.new.self step)) c.in-Done.is c.in_ok-found.ensures.all)

pub returns-in-Done-clause-stamps : goal.returns-in-Done-clause-stamps
returns-in-Done-clause-stamps g c =
    gives_then (g.T.Tree.snapshot c.args.tree.now) (g.T.Tree.snapshot c.steps.tree) g.T.Look.stamps c.args.self.now c.steps.self
    c.step.new.self c.in-Done.found c.steps.invariant.kept c.steps.invariant.stamps
    (subst (λ step. InStamps (g.T.Tree.snapshot c.steps.tree) g.T.Look.stamps
    (λ stamps. StepGivesStamped stamps c.steps.self c.step.new.self step)) c.in-Done.is c.in_ok-found.ensures.stamps)

pub returns-in-Done-clause-gives : goal.returns-in-Done-clause-gives
returns-in-Done-clause-gives g c =
    gives_after (g.T.Tree.snapshot c.args.tree.now) (g.T.Tree.snapshot c.steps.tree) c.args.self.now c.steps.self c.step.new.self
    c.in-Done.found c.steps.invariant.kept c.steps.invariant.steps
    (subst (λ step. InTree (g.T.Tree.snapshot c.steps.tree) (λ items. IsWalkIn items c.steps.self
    → StepGives items c.steps.self c.step.new.self step)) c.in-Done.is c.in_ok-found.ensures.steps)

pub steps-preserved : goal.steps-preserved
steps-preserved g c =
    let s = g.T.Tree.snapshot c.args.tree.now in
    let now = g.T.Tree.snapshot c.steps.tree in
    let first = c.args.self.now in
    let old = c.steps.self in
    let new = c.step.new.self in
    let inv = c.steps.invariant in
    let ensures = c.in_ok-found.ensures in
    let lighter : walk_weight new < walk_weight old = subst (λ step. StepComesNearer old new step) c.in_default.is ensures.nearer in
    let reports : KeepsReports old.reported new.reported = subst (λ step. StepReportsOnce old new step) c.in_default.is ensures.once in
    record {
      steps = steps_then s now first old new inv.kept inv.steps
          (subst (λ step. InTree now (λ items. IsWalkIn items old → StepGives items old new step)) c.in_default.is ensures.steps);
      all = more_steps s now first old new inv.kept inv.steps inv.all
          (subst (λ step. InTree now (λ items. IsWalkIn items old → StepReportsAll items old new step)) c.in_default.is ensures.all);
      stamps = keeps_then s now g.T.Look.stamps first old new inv.kept inv.stamps
          (subst (λ step. InStamps now g.T.Look.stamps (λ stamps. StepGivesStamped stamps old new step)) c.in_default.is ensures.stamps);
      weight = omega (arith, lighter, inv.weight);
      unread = λ same. absurd (omega (arith, lighter, inv.weight, same));
      reported = λ path. reports path ∙ inv.reported path;
      settings = ensures.settings ∙ inv.settings;
      kept = ensures.keeps ∙ inv.kept;
    }
