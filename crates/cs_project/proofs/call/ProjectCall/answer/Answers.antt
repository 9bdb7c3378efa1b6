use Rattle.std.proofs.Common.{sym, subst}
use Rattle.std.specs.Prelude.{IfOk}
use Rattle.cs_listing.specs.FolderReads.{InTree}
use Rattle.cs_project.specs.Calls.{AnswersTask, BeginsTask, IfRead}
use Rattle.cs_project.specs.Knowledge.{HoldsFor}
use Rattle.cs_project.specs.Scopes.{InInput}
use Rattle.cs_project.proofs.CallLemmas.{begun_if_read, nothing_known, searches_if_read}
use Rattle.cs_project.proofs.call.ProjectCall.answer.Goals as goal

pub returns-then-request-clause-answers : goal.returns-then-request-clause-answers
returns-then-request-clause-answers g c =
    let tree = g.T.Tree.snapshot c.args.tree.now in
    let stamps = g.T.Look.stamps in
    let model = g.R.Source.model c.args.input.now in
    let call = c.args.self.now in
    let request = c.args.request.now in
    let given = c.args.out.now.sent.bytes in
    let later = c.search.new.out.sent.bytes in
    let holds = g.K.Knowledge.Holds c.args.known.now in
    subst (λ task. IfOk c.search.result (λ status. InInput model (λ input. InTree tree
    (λ items. AnswersTask (HoldsFor holds stamps tree) items input call request task given later status))))
    (sym c.in-Search.is)
    (searches_if_read holds holds stamps tree model call request request.switches.silent given later c.search.result
    (λ search known. known c.if-request.true) c.search.ensures.searches)

pub returns-else-request-clause-answers : goal.returns-else-request-clause-answers
returns-else-request-clause-answers g c =
    let tree = g.T.Tree.snapshot c.args.tree.now in
    let stamps = g.T.Look.stamps in
    let model = g.R.Source.model c.args.input.now in
    let call = c.args.self.now in
    let request = c.args.request.now in
    let given = c.args.out.now.sent.bytes in
    let later = c.search-else-request.new.out.sent.bytes in
    let holds = g.K.Knowledge.Holds c.args.known.now in
    subst (λ task. IfOk c.search-else-request.result (λ status. InInput model (λ input. InTree tree
    (λ items. AnswersTask (HoldsFor holds stamps tree) items input call request task given later status))))
    (sym c.in-Search.is)
    (searches_if_read (λ _. Unit {0}) holds stamps tree model call request request.switches.silent given later c.search-else-request.result
    (λ search known. nothing_known stamps tree search) c.search-else-request.ensures.searches)

pub returns-then-request-clause-begins : goal.returns-then-request-clause-begins
returns-then-request-clause-begins g c =
    let tree = g.T.Tree.snapshot c.args.tree.now in
    let stamps = g.T.Look.stamps in
    let model = g.R.Source.model c.args.input.now in
    let call = c.args.self.now in
    let request = c.args.request.now in
    let given = c.args.out.now.sent.bytes in
    let later = c.search.new.out.sent.bytes in
    let Knows = HoldsFor (g.K.Knowledge.Holds c.args.known.now) stamps tree in
    subst (λ task. InTree tree (λ items. BeginsTask Knows items model call request task given later)) (sym c.in-Search.is)
    (begun_if_read Knows (IfRead request Knows) (λ search known. known c.if-request.true) tree model call request request.switches.silent
    given later c.search.ensures.begins)

pub returns-else-request-clause-begins : goal.returns-else-request-clause-begins
returns-else-request-clause-begins g c =
    let tree = g.T.Tree.snapshot c.args.tree.now in
    let stamps = g.T.Look.stamps in
    let model = g.R.Source.model c.args.input.now in
    let call = c.args.self.now in
    let request = c.args.request.now in
    let given = c.args.out.now.sent.bytes in
    let later = c.search-else-request.new.out.sent.bytes in
    let Knows = HoldsFor (g.K.Knowledge.Holds c.args.known.now) stamps tree in
    subst (λ task. InTree tree (λ items. BeginsTask Knows items model call request task given later)) (sym c.in-Search.is)
    (begun_if_read (HoldsFor (λ _. Unit {0}) stamps tree) (IfRead request Knows) (λ search known. nothing_known stamps tree search)
    tree model call request request.switches.silent given later c.search-else-request.ensures.begins)
