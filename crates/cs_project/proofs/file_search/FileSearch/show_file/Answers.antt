use Rattle.std.proofs.Common.{◌≡◌, [], ◌∷◌, false, ap, ◌∙◌}
use Rattle.cs_tree.specs.TreeReaders.{open_model}
use Rattle.cs_project.specs.Visits.{BeginsItems, FindsAmong, ShowsItems}
use Rattle.cs_project.proofs.FileLemmas.{path_opened, path_unbegun}
use Rattle.cs_project.proofs.VisitorLemmas.{on_ok}
use Rattle.cs_project.proofs.file_search.FileSearch.show_file.Goals as goal

pub returns-in-Ok-clause-shown : goal.returns-in-Ok-clause-shown
returns-in-Ok-clause-shown g c =
    let opened = g.T.Tree.opened c.open.new.self in
    let same = ap (λ t. open_model (g.T.Tree.snapshot t) (g.T.Tree.opened t)) c.new-reader.ensures.same_tree
    ∙ ap (λ s. open_model s opened) c.open.ensures.keeps in
    on_ok c.show_source.result (path_opened (g.T.Tree.snapshot c.args.tree.now) opened _ c.args.path.now
    (λ item. ShowsItems c.args.self.now c.show_source.new.self ((c.args.name.now, item, false) ∷ []) c.args.out.now.sent.bytes
    c.show_source.new.out.sent.bytes) c.in-Ok.ensures.answer same) c.show_source.ensures.shown

pub returns-in-Ok-clause-begins : goal.returns-in-Ok-clause-begins
returns-in-Ok-clause-begins g c =
    let opened = g.T.Tree.opened c.open.new.self in
    let same = ap (λ t. open_model (g.T.Tree.snapshot t) (g.T.Tree.opened t)) c.new-reader.ensures.same_tree
    ∙ ap (λ s. open_model s opened) c.open.ensures.keeps in
    path_opened (g.T.Tree.snapshot c.args.tree.now) opened _ c.args.path.now
    (λ item. BeginsItems c.args.self.now c.show_source.new.self ((c.args.name.now, item, false) ∷ []) c.args.out.now.sent.bytes
    c.show_source.new.out.sent.bytes) c.in-Ok.ensures.answer same c.show_source.ensures.begins

pub returns-in-Ok-clause-found : goal.returns-in-Ok-clause-found
returns-in-Ok-clause-found g c =
    let opened = g.T.Tree.opened c.open.new.self in
    let same = ap (λ t. open_model (g.T.Tree.snapshot t) (g.T.Tree.opened t)) c.new-reader.ensures.same_tree
    ∙ ap (λ s. open_model s opened) c.open.ensures.keeps in
    on_ok c.show_source.result (path_opened (g.T.Tree.snapshot c.args.tree.now) opened _ c.args.path.now
    (λ item. FindsAmong c.args.self.now c.show_source.new.self (λ one. one ≡ (c.args.name.now, item, false)))
    c.in-Ok.ensures.answer same) c.show_source.ensures.found

pub returns-in-Err-clause-begins : goal.returns-in-Err-clause-begins
returns-in-Err-clause-begins g c =
    path_unbegun (g.T.Tree.snapshot c.args.tree.now) c.args.self.now record c.args.self.now { reports = c.unopened.new.self } c.args.name.now false
    c.args.path.now c.args.out.now.sent.bytes
