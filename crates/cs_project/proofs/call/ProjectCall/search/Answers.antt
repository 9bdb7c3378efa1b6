use Rattle.std.proofs.Common.{true, false, ap, refl, sym, subst, ◌∙◌}
use Rattle.std.specs.Prelude.{IfOk}
use Rattle.cs_listing.specs.FolderReads.{InTree}
use Rattle.cs_project.specs.Calls.{BeginsFor, SearchesFor}
use Rattle.cs_project.specs.Knowledge.{HoldsFor, asked_as}
use Rattle.cs_project.specs.Scopes.{InInput, unread}
use Rattle.cs_project.proofs.CallLemmas.{asked_for, begun_for, finds_for, searches_for}
use Rattle.cs_project.proofs.ProjectLemmas.{if_ok}
use Rattle.cs_project.proofs.ScopeLemmas.{if_input}
use Rattle.cs_project.proofs.call.ProjectCall.search.Goals as goal

pub returns-then-request-clause-searches : goal.returns-then-request-clause-searches
returns-then-request-clause-searches g c =
    let tree = g.T.Tree.snapshot c.args.tree.now in
    let now = g.T.Tree.snapshot c.files_for.new.tree in
    let model = g.R.Source.model c.args.input.now in
    let call = c.args.self.now in
    let request = c.args.request.now in
    let files = c.in_ok-files.files in
    let given = c.args.out.now.sent.bytes in
    let holds = g.K.Knowledge.Holds c.args.known.now in
    subst (λ b. IfOk c.find_in_project.result (λ status. InInput model (λ input. InTree tree
    (λ items. SearchesFor (HoldsFor holds g.T.Look.stamps tree) items input call request b given given status))))
    (sym c.if-request.true)
    (finds_for holds g.T.Look.stamps tree now model call request c.scope_of-scope.result files given given
    c.find_in_project.result c.in_ok-files.ensures.keeps refl c.scope_of-scope.ensures c.in_ok-files.ensures.files
    (if_ok c.find_in_project.result
    (λ status. if_input (unread false model) (λ input says known. says (asked_for holds (g.K.Knowledge.Holds c.begin.new.self) g.T.Look.stamps tree now call request
    c.scope_of-scope.result files _ true c.in_ok-files.ensures.keeps c.in_ok-files.ensures.files c.in-Some.is
    (c.asked_options.ensures ∙ ap (λ silent. (asked_as silent files).options) c.if-request.true) refl c.in_ok-begin.ensures.begun known)))
    c.find_in_project.ensures.found))

pub returns-clause-searches : goal.returns-clause-searches
returns-clause-searches g c =
    let tree = g.T.Tree.snapshot c.args.tree.now in
    let now = g.T.Tree.snapshot c.files_for.new.tree in
    let model = g.R.Source.model c.args.input.now in
    let call = c.args.self.now in
    let request = c.args.request.now in
    let files = c.in_ok-files.files in
    let given = c.args.out.now.sent.bytes in
    let holds = g.K.Knowledge.Holds c.args.known.now in
    let later = c.search_project.new.out.sent.bytes in
    subst (λ b. IfOk c.search_project.result (λ status. InInput model (λ input. InTree tree
    (λ items. SearchesFor (HoldsFor holds g.T.Look.stamps tree) items input call request b given later status))))
    (sym c.if-request.false)
    (searches_for holds g.T.Look.stamps tree now model call request c.scope_of-scope.result files given later
    c.search_project.result c.in_ok-files.ensures.keeps c.scope_of-scope.ensures c.in_ok-files.ensures.files
    (if_ok c.search_project.result
    (λ status. if_input (unread false model) (λ input says known. says (asked_for holds (g.K.Knowledge.Holds c.begin.new.self) g.T.Look.stamps tree now call request
    c.scope_of-scope.result files _ false c.in_ok-files.ensures.keeps c.in_ok-files.ensures.files c.in-Some.is
    (c.asked_options.ensures ∙ ap (λ silent. (asked_as silent files).options) c.if-request.false) refl c.in_ok-begin.ensures.begun known)))
    c.search_project.ensures.searched))

pub returns-clause-begins : goal.returns-clause-begins
returns-clause-begins g c =
    let tree = g.T.Tree.snapshot c.args.tree.now in
    let now = g.T.Tree.snapshot c.files_for.new.tree in
    let model = g.R.Source.model c.args.input.now in
    let call = c.args.self.now in
    let request = c.args.request.now in
    let files = c.in_ok-files.files in
    let given = c.args.out.now.sent.bytes in
    let holds = g.K.Knowledge.Holds c.args.known.now in
    let later = c.search_project.new.out.sent.bytes in
    subst (λ b. InTree tree (λ items. BeginsFor (HoldsFor holds g.T.Look.stamps tree) items model call request b given later)) (sym c.if-request.false)
    (begun_for holds g.T.Look.stamps tree now model call request c.scope_of-scope.result files c.search_project.new.search given later
    c.in_ok-files.ensures.keeps c.scope_of-scope.ensures c.in_ok-files.ensures.files c.in_ok-files.ensures.begun c.search_project.ensures.budget
    (if_input (unread false model) (λ input says known. says (asked_for holds (g.K.Knowledge.Holds c.begin.new.self) g.T.Look.stamps tree now call request
    c.scope_of-scope.result files _ false c.in_ok-files.ensures.keeps c.in_ok-files.ensures.files c.in-Some.is
    (c.asked_options.ensures ∙ ap (λ silent. (asked_as silent files).options) c.if-request.false) refl c.in_ok-begin.ensures.begun known))
    c.search_project.ensures.begins))

pub returns-then-request-clause-notes : goal.returns-then-request-clause-notes
returns-then-request-clause-notes g c tree is seen =
    c.find_in_project.ensures.notes tree (c.in_ok-files.ensures.keeps ∙ is) (c.begin.ensures.notes (g.T.Look.stamps tree) seen)

pub returns-clause-notes : goal.returns-clause-notes
returns-clause-notes g c tree is seen =
    c.search_project.ensures.notes tree (c.in_ok-files.ensures.keeps ∙ is) (c.begin.ensures.notes (g.T.Look.stamps tree) seen)
