use Rattle.std.proofs.Common.{false}
use Rattle.cs_project.specs.declared.fault.FreshFault.{FreshFault}
use Rattle.cs_project.specs.Scopes.{unread}
use Rattle.cs_project.proofs.ProjectLemmas.{if_ok, project_searched, search_begun}
use Rattle.cs_project.proofs.ScopeLemmas.{if_input}
use Rattle.cs_project.proofs.VisitLemmas.{held_knows}
use Rattle.cs_project.proofs.scope.Scope.search_project.Goals as goal

pub returns-clause-searched : goal.returns-clause-searched
returns-clause-searched g c =
    let tree = g.T.Tree.snapshot c.args.tree.now in
    let old = c.args.search.now in
    if_ok c.status.result
    (λ status is. if_input (unread false (g.R.Source.model c.args.input.now))
    (λ input has known. project_searched FreshFault tree input c.args.self.now old c.visit.new.visitor
    c.args.out.now.sent.bytes c.visit.new.out.sent.bytes (tt {0}) c.in_ok-visit.ensures.same.4
    (has (held_knows (g.K.Knowledge.Holds c.args.known.now) g.T.Look.stamps tree old known)) status is)
    c.in_ok-visit.ensures.visits)
    c.status.ensures.status

pub returns-in_err-visit-clause-begins : goal.returns-in_err-visit-clause-begins
returns-in_err-visit-clause-begins g c =
    let tree = g.T.Tree.snapshot c.args.tree.now in
    let old = c.args.search.now in
    if_input (unread false (g.R.Source.model c.args.input.now))
    (λ input has known. search_begun tree input c.args.self.now old c.visit.new.visitor c.args.out.now.sent.bytes c.visit.new.out.sent.bytes
    c.visit.result (has (held_knows (g.K.Knowledge.Holds c.args.known.now) g.T.Look.stamps tree old known)))
    c.visit.ensures.visits

pub returns-clause-begins : goal.returns-clause-begins
returns-clause-begins g c =
    let tree = g.T.Tree.snapshot c.args.tree.now in
    let old = c.args.search.now in
    if_input (unread false (g.R.Source.model c.args.input.now))
    (λ input has known. search_begun tree input c.args.self.now old c.visit.new.visitor c.args.out.now.sent.bytes c.visit.new.out.sent.bytes
    c.visit.result (has (held_knows (g.K.Knowledge.Holds c.args.known.now) g.T.Look.stamps tree old known)))
    c.visit.ensures.visits
