use Rattle.std.proofs.Common.{Result, Ok}
use Rattle.cs_project.specs.Visits.{KnowsFor}
use Rattle.cs_project.specs.declared.fault.FreshFault.{FreshFault}
use Rattle.cs_project.specs.declared.listing.NameListing.{NameListing}
use Rattle.cs_project.proofs.ListedLemmas.{knows_nothing}
use Rattle.cs_project.proofs.ProjectLemmas.{project_begun, project_listed, scope_listed}
use Rattle.cs_project.proofs.project.list_project.Goals as goal

pub returns-in_err-visit-clause-begins : goal.returns-in_err-visit-clause-begins
returns-in_err-visit-clause-begins g c =
    let tree = g.T.Tree.snapshot c.args.tree.now in
    let old : NameListing = record { end = c.args.end; reports = c.new.result } in
    let new = c.visit.new.visitor in
    let given = c.args.out.now.sent.bytes in
    let later = c.visit.new.out.sent.bytes in
    let Known = KnowsFor (λ listing items stamps searched. ⊥) (g.K.Knowledge.Holds c.args.known.now) g.T.Look.stamps tree old in
    let known = knows_nothing (g.K.Knowledge.Holds c.args.known.now) g.T.Look.stamps tree old in
    project_begun tree c.args.scope.now old new given later c.visit.result
    (scope_listed tree c.args.scope.now old new given later Known _ c.visit.result c.new-nothing.ensures.model known c.visit.ensures.visits)

pub returns-clause-begins : goal.returns-clause-begins
returns-clause-begins g c =
    let tree = g.T.Tree.snapshot c.args.tree.now in
    let old : NameListing = record { end = c.args.end; reports = c.new.result } in
    let new = c.visit.new.visitor in
    let given = c.args.out.now.sent.bytes in
    let later = c.visit.new.out.sent.bytes in
    let Known = KnowsFor (λ listing items stamps searched. ⊥) (g.K.Knowledge.Holds c.args.known.now) g.T.Look.stamps tree old in
    let known = knows_nothing (g.K.Knowledge.Holds c.args.known.now) g.T.Look.stamps tree old in
    project_begun tree c.args.scope.now old new given later c.visit.result
    (scope_listed tree c.args.scope.now old new given later Known _ c.visit.result c.new-nothing.ensures.model known c.visit.ensures.visits)

pub returns-clause-listed : goal.returns-clause-listed
returns-clause-listed g c =
    let tree = g.T.Tree.snapshot c.args.tree.now in
    let old : NameListing = record { end = c.args.end; reports = c.new.result } in
    let new = c.visit.new.visitor in
    let given = c.args.out.now.sent.bytes in
    let later = c.visit.new.out.sent.bytes in
    let Known = KnowsFor (λ listing items stamps searched. ⊥) (g.K.Knowledge.Holds c.args.known.now) g.T.Look.stamps tree old in
    let known = knows_nothing (g.K.Knowledge.Holds c.args.known.now) g.T.Look.stamps tree old in
    let fine : Result (Unit {0}) FreshFault = Ok tt in
    project_listed tree c.args.scope.now old new given later FreshFault (tt {0}) c.status_of.result c.status_of.ensures.status
    (scope_listed tree c.args.scope.now old new given later Known _ fine c.new-nothing.ensures.model known c.in_ok-visit.ensures.visits)
