use Rattle.std.proofs.Common.{◌≡◌, [], ◌∷◌, false, subst}
use Rattle.std.specs.Prelude.{string_bytes}
use Rattle.cs_listing.specs.FolderReads.{InTree}
use Rattle.cs_project.specs.Knowledge.{SkipsNothingShown}
use Rattle.cs_project.specs.Visits.{BeginsItems, FindsAmong, ShowsItems}
use Rattle.cs_project.proofs.VisitorLemmas.{on_ok}
use Rattle.cs_project.proofs.FileLemmas.{path_unbegun}
use Rattle.cs_project.proofs.KnowledgeLemmas.{skipped}
use Rattle.cs_project.proofs.NotedLemmas.{notes_stamp}
use Rattle.cs_project.proofs.file_search.FileSearch.show_met.Goals as goal

pub returns-then-branch-clause-shown : goal.returns-then-branch-clause-shown
returns-then-branch-clause-shown g c = λ known.
    let file = c.args.file.now in
    let holds = g.K.Knowledge.Holds c.args.known.now in
    skipped holds g.T.Look.stamps (g.T.Tree.snapshot c.args.tree.now) c.args.self.now (string_bytes file.name) (string_bytes file.path)
    c.args.out.now.sent.bytes file.stamp c.in_ok-skips.field-0
    (subst (λ path. SkipsNothingShown holds path file.stamp c.in_ok-skips.field-0) c.as_str.ensures.value c.in_ok-skips.ensures.skips)
    c.if-branch.true c.requires known

pub returns-clause-shown : goal.returns-clause-shown
returns-clause-shown g c =
    let file = c.args.file.now in
    let tree = g.T.Tree.snapshot c.args.tree.now in
    let new = c.show_file.new.self in
    let given = c.args.out.now.sent.bytes in
    let later = c.show_file.new.out.sent.bytes in
    on_ok c.show_file.result
    (λ has known. subst (λ name. InTree tree (λ items. ShowsItems c.args.self.now new ((name, items (string_bytes file.path), false) ∷ []) given later))
    c.as_str-3.ensures.value
    (subst (λ path. InTree tree (λ items. ShowsItems c.args.self.now new ((c.as_str-3.result.now, items path, false) ∷ []) given later))
    c.as_str-2.ensures.value has))
    c.show_file.ensures.shown

pub returns-clause-found : goal.returns-clause-found
returns-clause-found g c =
    let file = c.args.file.now in
    let tree = g.T.Tree.snapshot c.args.tree.now in
    let new = c.show_file.new.self in
    on_ok c.show_file.result
    (λ has. subst (λ name. InTree tree (λ items. FindsAmong c.args.self.now new (λ one. one ≡ (name, items (string_bytes file.path), false))))
    c.as_str-3.ensures.value
    (subst (λ path. InTree tree (λ items. FindsAmong c.args.self.now new (λ one. one ≡ (c.as_str-3.result.now, items path, false))))
    c.as_str-2.ensures.value has))
    c.show_file.ensures.found

pub returns-in_err-skips-clause-begins : goal.returns-in_err-skips-clause-begins
returns-in_err-skips-clause-begins g c =
    let file = c.args.file.now in
    path_unbegun (g.T.Tree.snapshot c.args.tree.now) c.args.self.now c.args.self.now (string_bytes file.name) false (string_bytes file.path)
    c.args.out.now.sent.bytes

pub returns-then-branch-clause-begins : goal.returns-then-branch-clause-begins
returns-then-branch-clause-begins g c =
    let file = c.args.file.now in
    path_unbegun (g.T.Tree.snapshot c.args.tree.now) c.args.self.now c.args.self.now (string_bytes file.name) false (string_bytes file.path)
    c.args.out.now.sent.bytes

pub returns-clause-begins : goal.returns-clause-begins
returns-clause-begins g c =
    let file = c.args.file.now in
    let tree = g.T.Tree.snapshot c.args.tree.now in
    let new = c.show_file.new.self in
    let given = c.args.out.now.sent.bytes in
    let later = c.show_file.new.out.sent.bytes in
    subst (λ name. InTree tree (λ items. BeginsItems c.args.self.now new ((name, items (string_bytes file.path), false) ∷ []) given later))
    c.as_str-3.ensures.value
    (subst (λ path. InTree tree (λ items. BeginsItems c.args.self.now new ((c.as_str-3.result.now, items path, false) ∷ []) given later))
    c.as_str-2.ensures.value c.show_file.ensures.begins)

pub returns-in_err-skips-clause-notes : goal.returns-in_err-skips-clause-notes
returns-in_err-skips-clause-notes g c =
    notes_stamp g.T.Look.stamps (g.T.Tree.snapshot c.args.tree.now) (g.K.Knowledge.noted c.args.known.now) (g.K.Knowledge.noted c.skips.new.self)
    c.as_str.result.now (string_bytes c.args.file.now.path) c.args.file.now.stamp c.as_str.ensures.value c.requires c.skips.ensures.notes

pub returns-then-branch-clause-notes : goal.returns-then-branch-clause-notes
returns-then-branch-clause-notes g c =
    notes_stamp g.T.Look.stamps (g.T.Tree.snapshot c.args.tree.now) (g.K.Knowledge.noted c.args.known.now) (g.K.Knowledge.noted c.skips.new.self)
    c.as_str.result.now (string_bytes c.args.file.now.path) c.args.file.now.stamp c.as_str.ensures.value c.requires c.skips.ensures.notes

pub returns-clause-notes : goal.returns-clause-notes
returns-clause-notes g c =
    notes_stamp g.T.Look.stamps (g.T.Tree.snapshot c.args.tree.now) (g.K.Knowledge.noted c.args.known.now) (g.K.Knowledge.noted c.skips.new.self)
    c.as_str.result.now (string_bytes c.args.file.now.path) c.args.file.now.stamp c.as_str.ensures.value c.requires c.skips.ensures.notes
