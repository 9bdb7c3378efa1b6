use Rattle.std.proofs.Common.{true, false, sym, subst}
use Rattle.std.specs.Prelude.{IfSome}
use Rattle.cs_project.specs.Scopes.{unread}
use Rattle.cs_project.specs.Visits.{BeginsItems, SearchesItems, VisitsOne}
use Rattle.cs_project.proofs.VisitLemmas.{nothing_read, one_in}
use Rattle.cs_project.proofs.file_search.FileSearchVisitor.visit_input.Goals as goal

pub returns-then-is_read-clause-visits : goal.returns-then-is_read-clause-visits
returns-then-is_read-clause-visits g c =
    let old = c.args.self.now in
    let new = c.show_source.new.self in
    let given = c.args.out.now.sent.bytes in
    let later = c.show_source.new.out.sent.bytes in
    let says = c.show_source.ensures in
    subst (λ b. IfSome (unread b (g.R.Source.model c.args.input.now))
    (λ input. VisitsOne BeginsItems SearchesItems old new (c.args.word.now, input, true) given later c.show_source.result)) (sym c.if-is_read.true)
    (nothing_read old new given later _ c.args.word.now c.show_source.result c.new-nothing.ensures.model says.begins says.shown says.found)

pub returns-clause-visits : goal.returns-clause-visits
returns-clause-visits g c =
    let old = c.args.self.now in
    let new = c.show_source-2.new.self in
    let given = c.args.out.now.sent.bytes in
    let later = c.show_source-2.new.out.sent.bytes in
    let model = g.R.Source.model c.args.input.now in
    let says = c.show_source-2.ensures in
    subst (λ b. IfSome (unread b model)
    (λ input. VisitsOne BeginsItems SearchesItems old new (c.args.word.now, input, true) given later c.show_source-2.result)) (sym c.if-is_read.false)
    (one_in old new given later (unread false model) (λ input. (c.args.word.now, input, true)) c.show_source-2.result says.begins says.shown says.found)
