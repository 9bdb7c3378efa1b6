use Rattle.std.proofs.Common.{◌≡◌, true, false, sym, subst, ◌∙◌}
use Rattle.std.proofs.lemmas.Bool.{false≢true}
use Rattle.cs_lines.specs.Findings.{has_stopped}
use Rattle.cs_project.specs.Knowledge.{HoldsFor}
use Rattle.cs_project.specs.Scopes.{unread}
use Rattle.cs_project.specs.declared.fault.FreshFault.{FreshFault}
use Rattle.cs_project.proofs.ProjectLemmas.{begun_by, found_none, found_one, if_ok}
use Rattle.cs_project.proofs.ScopeLemmas.{if_input}
use Rattle.cs_project.proofs.VisitLemmas.{held_knows}
use Rattle.cs_project.proofs.project.find_in_project.Goals as goal
use Rattle.cs_project.proofs.project.find_in_project.Goals.{else-search-via-then-search+else-not-has_stopped, else-search-via-else-search}

pub returns-then-not-has_stopped-clause-found : goal.returns-then-not-has_stopped-clause-found
returns-then-not-has_stopped-clause-found g c =
    let tree = g.T.Tree.snapshot c.args.tree.now in
    let options = c.for_names-search.result in
    if_input (unread false (g.R.Source.model c.args.input.now))
    (λ input has known. found_one FreshFault tree input c.args.scope.now options c.args.search c.visit.new.visitor
    c.new-out.result.sent.bytes c.visit.new.out.sent.bytes (tt {0})
    c.for_names-search.ensures c.if-search.true (sym c.has_stopped.ensures ∙ c.if-not-has_stopped.true)
    (has (held_knows (g.K.Knowledge.Holds c.args.known.now) g.T.Look.stamps tree (begun_by c.args.search options)
    (subst (λ o. HoldsFor (g.K.Knowledge.Holds c.args.known.now) g.T.Look.stamps tree (begun_by c.args.search o)) (sym c.for_names-search.ensures) known))))
    c.in_ok-visit.ensures.visits

pub returns-clause-found : goal.returns-clause-found
returns-clause-found g c =
    let new = c.visit.new.visitor in
    let tree = g.T.Tree.snapshot c.args.tree.now in
    let options = c.for_names-search.result in
    let ended : new.marked ≡ true → has_stopped new.search ≡ true = elim c.else-search.branch [
      | else-search-via-then-search+else-not-has_stopped w ↦ λ marked. sym w.has_stopped.ensures ∙ w.if-not-has_stopped.false
      | else-search-via-else-search w ↦ λ marked. absurd (false≢true (sym w.if-search.false ∙ marked))
    ] in
    if_ok c.status.result
    (λ status says. if_input (unread false (g.R.Source.model c.args.input.now))
    (λ input has known. found_none FreshFault tree input c.args.scope.now options c.args.search new
    c.new-out.result.sent.bytes c.visit.new.out.sent.bytes (tt {0}) c.for_names-search.ensures ended
    (has (held_knows (g.K.Knowledge.Holds c.args.known.now) g.T.Look.stamps tree (begun_by c.args.search options)
    (subst (λ o. HoldsFor (g.K.Knowledge.Holds c.args.known.now) g.T.Look.stamps tree (begun_by c.args.search o)) (sym c.for_names-search.ensures) known)))
    status says)
    c.in_ok-visit.ensures.visits)
    c.status.ensures.status
