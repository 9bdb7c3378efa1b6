use Rattle.std.proofs.Common.{subst}
use Rattle.std.specs.Prelude.{string_bytes}
use Rattle.cs_listing.specs.FolderReads.{InTree}
use Rattle.cs_listing.specs.Models.{chosen_in}
use Rattle.cs_project.specs.Walked.{IsWordPath}
use Rattle.cs_project.proofs.ScopeLemmas.{file_visited, folder_visited_at, unnamed_visited, unread_visited}
use Rattle.cs_project.proofs.VisitorLemmas.{on_err, still_known}
use Rattle.cs_project.proofs.places.ScopeWord.visit_path.Goals as goal

pub returns-in_err-named-clause-visits : goal.returns-in_err-named-clause-visits
returns-in_err-named-clause-visits g c = λ known.
    let scope = c.args.self.now.scope in
    let old = c.args.visitor.now in
    unread_visited g.V.Visitor.Begins g.V.Visitor.Visits g.V.Visitor.is_done g.V.Visitor.is_wrong old old c.args.out.now.sent.bytes c.from_residual.result
    (g.T.Tree.snapshot c.args.tree.now) (chosen_in scope.choices.now) scope.folder.now c.args.self.now.word.now
    (on_err _ c.from_residual.result c.from_residual.ensures.0) (c.follow.ensures.none old c.args.out.now.sent.bytes)

pub returns-in-Folder-clause-visits : goal.returns-in-Folder-clause-visits
returns-in-Folder-clause-visits g c = λ known.
    let tree = g.T.Tree.snapshot c.args.tree.now in
    let now = g.T.Tree.snapshot c.named.new.tree in
    let scope = c.args.self.now.scope in
    let word = c.args.self.now.word.now in
    let old = c.args.visitor.now in
    let holds = g.K.Knowledge.Holds c.args.known.now in
    folder_visited_at g.V.Visitor.Begins g.V.Visitor.Visits g.V.Visitor.is_done g.V.Visitor.is_wrong old c.visit.new.visitor
    c.args.out.now.sent.bytes c.visit.new.out.sent.bytes c.visit.result tree (chosen_in scope.choices.now) scope.folder.now word now
    (string_bytes c.in_ok-named.named.path) c.as_str.result.now c.as_str.ensures.value c.in_ok-named.ensures.keeps
    (subst (λ kind. InTree tree (λ items. IsWordPath items scope.folder.now word (string_bytes c.in_ok-named.named.path) kind)) c.in-Folder.is
    c.in_ok-named.ensures.named)
    (c.visit.ensures.visits (still_known g.V.Visitor.Asks holds holds g.T.Look.stamps tree now old old c.in_ok-named.ensures.keeps
    (λ searched has. has) (λ items stamps searched asks. asks) known))

pub returns-in-File-clause-visits : goal.returns-in-File-clause-visits
returns-in-File-clause-visits g c = λ known.
    let tree = g.T.Tree.snapshot c.args.tree.now in
    let scope = c.args.self.now.scope in
    let word = c.args.self.now.word.now in
    file_visited g.V.Visitor.Begins g.V.Visitor.Visits g.V.Visitor.is_done g.V.Visitor.is_wrong c.args.visitor.now c.visit_named.new.self
    c.args.out.now.sent.bytes c.visit_named.new.out.sent.bytes c.visit_named.result tree
    (chosen_in scope.choices.now) scope.folder.now word (g.T.Tree.snapshot c.named.new.tree)
    (string_bytes c.in_ok-named.named.path) c.as_str-in-File.result.now c.as_str-in-File.ensures.value c.in_ok-named.ensures.keeps
    (subst (λ kind. InTree tree (λ items. IsWordPath items scope.folder.now word (string_bytes c.in_ok-named.named.path) kind)) c.in-File.is
    c.in_ok-named.ensures.named)
    c.visit_named.ensures.visits

pub returns-clause-visits : goal.returns-clause-visits
returns-clause-visits g c = λ known.
    let tree = g.T.Tree.snapshot c.args.tree.now in
    let scope = c.args.self.now.scope in
    let word = c.args.self.now.word.now in
    let given = c.args.out.now.sent.bytes in
    unnamed_visited g.V.Visitor.Begins g.V.Visitor.Visits g.V.Visitor.is_done g.V.Visitor.is_wrong c.args.visitor.now c.report.new.self
    given c.report.result tree (chosen_in scope.choices.now) scope.folder.now word (string_bytes c.in_ok-named.named.path)
    c.in-Unread.fault
    (subst (λ kind. InTree tree (λ items. IsWordPath items scope.folder.now word (string_bytes c.in_ok-named.named.path) kind)) c.in-Unread.is
    c.in_ok-named.ensures.named)
    c.report.ensures.wrong (c.report.ensures.visits given)
