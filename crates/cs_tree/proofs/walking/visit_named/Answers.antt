use Rattle.std.proofs.Common.{[], ◌∷◌, sym, ap, subst, ◌∙◌, arith}
use Rattle.cs_tree.specs.Reachability.{is_excluded}
use Rattle.cs_tree.specs.WalkSteps.{GathersIn, KeepsTo, AddsFewFaults, descends_to}
use Rattle.cs_tree.specs.Cover.{covers}
use Rattle.cs_tree.proofs.CleanLemmas.{on_ok}
use Rattle.cs_tree.proofs.GatherLemmas.{skipped_in, kept_in}
use Rattle.cs_tree.proofs.walking.visit_named.Goals as goal

pub returns-then-is_excluded-clause-gathers : goal.returns-then-is_excluded-clause-gathers
returns-then-is_excluded-clause-gathers g c =
    skipped_in (g.T.Tree.snapshot c.args.tree.now) c.args.path.now c.args.walked.now
    (sym (c.is_excluded.ensures ∙ ap is_excluded c.last_element.ensures) ∙ c.if-is_excluded.true)

pub returns-clause-gathers : goal.returns-clause-gathers
returns-clause-gathers g c =
    on_ok c.visit.result
    (λ h. kept_in (g.T.Tree.snapshot c.args.tree.now) c.args.path.now c.args.walked.now c.visit.new.walked
    (sym (c.is_excluded.ensures ∙ ap is_excluded c.last_element.ensures) ∙ c.if-is_excluded.false)
    (subst (λ path. GathersIn (g.T.Tree.snapshot c.args.tree.now) (λ model. descends_to model path) c.args.walked.now
    c.visit.new.walked) c.in_ok-from_str.ensures.ok h))
    c.visit.ensures.gathers

pub returns-then-is_excluded-clause-under : goal.returns-then-is_excluded-clause-under
returns-then-is_excluded-clause-under g c = λ test h all. all

pub returns-clause-under : goal.returns-clause-under
returns-clause-under g c =
    on_ok c.visit.result
    (λ h. subst (λ path. KeepsTo (covers path) c.args.walked.now c.visit.new.walked) c.in_ok-from_str.ensures.ok h)
    c.visit.ensures.under

pub returns-then-is_excluded-clause-once : goal.returns-then-is_excluded-clause-once
returns-then-is_excluded-clause-once g c = λ path. omega arith

pub returns-clause-once : goal.returns-clause-once
returns-clause-once g c =
    on_ok c.visit.result
    (λ h. subst (λ path. AddsFewFaults (path ∷ []) c.args.walked.now c.visit.new.walked) c.in_ok-from_str.ensures.ok h)
    c.visit.ensures.once
