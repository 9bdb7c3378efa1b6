use Rattle.std.proofs.Common.{◌≡◌, false, [], refl, sym, subst, ◌∙◌}
use Rattle.cs_listing.specs.FolderReads.{InTree}
use Rattle.cs_listing.specs.Models.{chosen_in}
use Rattle.cs_project.specs.Scopes.{AreAllNamed, AreFilesBelow, AreFirstBelow, AreFirstMeant, AreFirstOfAll, AreMeant, unread}
use Rattle.cs_project.specs.Visits.{VisitsSome}
use Rattle.cs_project.proofs.ScopeLemmas.{any_input, if_input, if_none, if_some}
use Rattle.cs_project.proofs.VisitorLemmas.{in_same, visits_as}
use Rattle.cs_project.proofs.scope.Scope.visit.Goals as goal

pub returns-then-is_empty-clause-visits : goal.returns-then-is_empty-clause-visits
returns-then-is_empty-clause-visits g c =
    let tree = g.T.Tree.snapshot c.args.tree.now in
    let scope = c.args.self.now in
    let chosen = chosen_in scope.choices.now in
    let here = scope.folder.now in
    let old = c.args.visitor.now in
    let new = c.visit.new.visitor in
    let given = c.args.out.now.sent.bytes in
    let later = c.visit.new.out.sent.bytes in
    let result = c.visit.result in
    any_input (unread false (g.R.Source.model c.args.input.now)) (λ input known. if_none scope.words.now
    (λ words. InTree tree (λ items. VisitsSome g.V.Visitor.Begins g.V.Visitor.Visits g.V.Visitor.is_done (AreFirstMeant items chosen here input words)
    (λ named. g.V.Visitor.is_wrong new ≡ false → AreMeant items chosen here input words named) old new given later result))
    (sym c.is_empty.ensures ∙ c.if-is_empty.true)
    (in_same tree tree _ _ refl
    (λ items. visits_as g.V.Visitor.Begins g.V.Visitor.Visits g.V.Visitor.is_done (AreFirstBelow items chosen here []) (AreFirstBelow items chosen here [])
    (AreFilesBelow items chosen here []) (λ named. g.V.Visitor.is_wrong new ≡ false → AreFilesBelow items chosen here [] named)
    old new given later result (λ named first. first) (λ named all right. all))
    (subst (λ word. InTree tree (λ items. VisitsSome g.V.Visitor.Begins g.V.Visitor.Visits g.V.Visitor.is_done (AreFirstBelow items chosen here word)
    (AreFilesBelow items chosen here word) old new given later result)) c.here.ensures.word
    (subst (λ at. InTree tree (λ items. VisitsSome g.V.Visitor.Begins g.V.Visitor.Visits g.V.Visitor.is_done
    (AreFirstBelow items chosen at c.here.result.word.now) (AreFilesBelow items chosen at c.here.result.word.now) old new given later result))
    c.here.ensures.path
    (subst (λ s. InTree tree (λ items. VisitsSome g.V.Visitor.Begins g.V.Visitor.Visits g.V.Visitor.is_done
    (AreFirstBelow items (chosen_in s.choices.now) c.here.result.path.now c.here.result.word.now)
    (AreFilesBelow items (chosen_in s.choices.now) c.here.result.path.now c.here.result.word.now) old new given later result))
    c.here.ensures.scope (c.visit.ensures.visits known))))))

pub returns-clause-visits : goal.returns-clause-visits
returns-clause-visits g c =
    let tree = g.T.Tree.snapshot c.args.tree.now in
    let scope = c.args.self.now in
    let chosen = chosen_in scope.choices.now in
    let here = scope.folder.now in
    let old = c.args.visitor.now in
    let new = c.visit_words.new.visitor in
    let given = c.args.out.now.sent.bytes in
    let later = c.visit_words.new.out.sent.bytes in
    let result = c.visit_words.result in
    if_input (unread false (g.R.Source.model c.args.input.now)) (λ input has known. if_some scope.words.now
    (λ words. InTree tree (λ items. VisitsSome g.V.Visitor.Begins g.V.Visitor.Visits g.V.Visitor.is_done (AreFirstOfAll items chosen here input words)
    (λ named. g.V.Visitor.is_wrong new ≡ false → AreAllNamed items chosen here input words named) old new given later result))
    (λ words. InTree tree (λ items. VisitsSome g.V.Visitor.Begins g.V.Visitor.Visits g.V.Visitor.is_done (AreFirstMeant items chosen here input words)
    (λ named. g.V.Visitor.is_wrong new ≡ false → AreMeant items chosen here input words named) old new given later result))
    (sym c.is_empty.ensures ∙ c.if-is_empty.false) (λ word more all. all) (has known))
    c.visit_words.ensures.visits
