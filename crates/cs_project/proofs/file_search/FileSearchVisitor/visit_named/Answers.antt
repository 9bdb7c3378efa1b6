use Rattle.std.proofs.Common.{true}
use Rattle.cs_tree.specs.Snapshot.{item_at}
use Rattle.cs_project.proofs.VisitLemmas.{one_in}
use Rattle.cs_project.proofs.file_search.FileSearchVisitor.visit_named.Goals as goal

pub returns-clause-visits : goal.returns-clause-visits
returns-clause-visits g c =
    one_in c.args.self.now c.show_named.new.self c.args.out.now.sent.bytes c.show_named.new.out.sent.bytes
    (g.T.Tree.snapshot c.args.tree.now) (λ tree. (c.args.word.now, item_at tree c.args.path.now, true)) c.show_named.result
    c.show_named.ensures.begins c.show_named.ensures.shown c.show_named.ensures.found
