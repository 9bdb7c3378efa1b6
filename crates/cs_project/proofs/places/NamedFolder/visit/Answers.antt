use Rattle.std.proofs.Common.{[], refl}
use Rattle.cs_listing.specs.Models.{chosen_in}
use Rattle.cs_project.specs.Scopes.{AreFilesBelow, AreFirstBelow}
use Rattle.cs_project.specs.Visits.{VisitsSome}
use Rattle.cs_project.proofs.VisitorLemmas.{in_any, on_err, still_known, visits_nothing}
use Rattle.cs_project.proofs.WalkedLemmas.{folder_visited}
use Rattle.cs_project.proofs.places.NamedFolder.visit.Goals as goal

pub returns-in_err-walk-clause-visits : goal.returns-in_err-walk-clause-visits
returns-in_err-walk-clause-visits g c = λ known.
    let folder = c.args.self.now in
    let chosen = chosen_in folder.scope.choices.now in
    let old = c.args.visitor.now in
    let given = c.args.out.now.sent.bytes in
    let ends = c.from_residual.result in
    in_any (g.T.Tree.snapshot c.args.tree.now) (λ items. VisitsSome g.V.Visitor.Begins g.V.Visitor.Visits g.V.Visitor.is_done
    (AreFirstBelow items chosen folder.path.now folder.word.now) (AreFilesBelow items chosen folder.path.now folder.word.now) old old given given ends)
    (λ items. visits_nothing g.V.Visitor.Begins g.V.Visitor.Visits g.V.Visitor.is_done
    (AreFirstBelow items chosen folder.path.now folder.word.now) (AreFilesBelow items chosen folder.path.now folder.word.now) old old given ends
    ([], tt, refl) (on_err _ ends c.from_residual.ensures.0) (c.follow.ensures.none old given))

pub returns-clause-visits : goal.returns-clause-visits
returns-clause-visits g c = λ known.
    let folder = c.args.self.now in
    let tree = g.T.Tree.snapshot c.args.tree.now in
    let now = g.T.Tree.snapshot c.walk.new.tree in
    let old = c.args.visitor.now in
    let holds = g.K.Knowledge.Holds c.args.known.now in
    folder_visited g.V.Visitor.Begins g.V.Visitor.Visits g.V.Visitor.is_done old c.visit.new.visitor c.args.out.now.sent.bytes
    c.visit.new.out.sent.bytes tree now (chosen_in folder.scope.choices.now) folder.path.now folder.word.now c.in_ok-walk.walk c.visit.result
    c.gives_in_order.ensures c.in_ok-walk.ensures.keeps c.in_ok-walk.ensures.walks
    (c.visit.ensures.visits (still_known g.V.Visitor.Asks holds holds g.T.Look.stamps tree now old old c.in_ok-walk.ensures.keeps
    (λ searched has. has) (λ items stamps searched asks. asks) known))
