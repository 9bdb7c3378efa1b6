use Rattle.cs_tree.specs.Snapshot.{item_at}
use Rattle.cs_project.specs.Visits.{met_item}
use Rattle.cs_project.proofs.VisitLemmas.{knows_held, one_in}
use Rattle.cs_project.proofs.VisitorLemmas.{on_ok}
use Rattle.cs_project.proofs.file_search.FileSearchVisitor.visit_met.Goals as goal

pub returns-clause-visits : goal.returns-clause-visits
returns-clause-visits g c = λ known.
    let snapshot = g.T.Tree.snapshot c.args.tree.now in
    one_in c.args.self.now c.show_met.new.self c.args.out.now.sent.bytes c.show_met.new.out.sent.bytes snapshot
    (λ tree. met_item (item_at tree) c.args.file.now) c.show_met.result c.show_met.ensures.begins
    (on_ok c.show_met.result (λ has. has (knows_held (g.K.Knowledge.Holds c.args.known.now) g.T.Look.stamps snapshot c.args.self.now known))
    c.show_met.ensures.shown)
    c.show_met.ensures.found
