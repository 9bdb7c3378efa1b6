use Rattle.std.proofs.Common.{Result, Ok}
use Rattle.std.specs.Prelude.{string_bytes}
use Rattle.cs_project.specs.Visits.{met_item}
use Rattle.cs_project.proofs.ListedLemmas.{lists_failed, lists_one}
use Rattle.cs_project.proofs.NotedLemmas.{notes_stamp}
use Rattle.cs_project.proofs.VisitorLemmas.{in_any, on_err}
use Rattle.cs_project.specs.declared.fault.FreshFault.{FreshFault}
use Rattle.cs_project.proofs.listing.NameListingVisitor.visit_met.Goals as goal

pub returns-in_err-skips-clause-visits : goal.returns-in_err-skips-clause-visits
returns-in_err-skips-clause-visits g c = λ known.
    in_any (g.T.Tree.snapshot c.args.tree.now) _ (λ items. lists_failed c.args.self.now c.args.self.now (met_item items c.args.file.now)
    c.args.out.now.sent.bytes c.from_residual.result (on_err _ c.from_residual.result c.from_residual.ensures.0))

pub returns-in_err-print_name-clause-visits : goal.returns-in_err-print_name-clause-visits
returns-in_err-print_name-clause-visits g c = λ known.
    in_any (g.T.Tree.snapshot c.args.tree.now) _ (λ items. lists_one c.args.self.now c.args.self.now (met_item items c.args.file.now)
    c.as_str-2.result.now c.args.out.now.sent.bytes c.print_name.new.out.sent.bytes c.from_residual-in_err-print_name.result c.as_str-2.ensures.value
    c.print_name.ensures.begins (on_err _ c.from_residual-in_err-print_name.result c.from_residual-in_err-print_name.ensures.0))

pub returns-clause-visits : goal.returns-clause-visits
returns-clause-visits g c = λ known.
    let fine : Result (Unit {0}) FreshFault = Ok tt in
    in_any (g.T.Tree.snapshot c.args.tree.now) _ (λ items. lists_one c.args.self.now c.args.self.now (met_item items c.args.file.now)
    c.as_str-2.result.now c.args.out.now.sent.bytes c.print_name.new.out.sent.bytes fine c.as_str-2.ensures.value
    c.print_name.ensures.begins c.in_ok-print_name.ensures.printed)

pub returns-in_err-skips-clause-notes : goal.returns-in_err-skips-clause-notes
returns-in_err-skips-clause-notes g c =
    notes_stamp g.T.Look.stamps (g.T.Tree.snapshot c.args.tree.now) (g.K.Knowledge.noted c.args.known.now) (g.K.Knowledge.noted c.skips.new.self)
    c.as_str.result.now (string_bytes c.args.file.now.path) c.args.file.now.stamp c.as_str.ensures.value c.requires c.skips.ensures.notes

pub returns-in_err-print_name-clause-notes : goal.returns-in_err-print_name-clause-notes
returns-in_err-print_name-clause-notes g c =
    notes_stamp g.T.Look.stamps (g.T.Tree.snapshot c.args.tree.now) (g.K.Knowledge.noted c.args.known.now) (g.K.Knowledge.noted c.skips.new.self)
    c.as_str.result.now (string_bytes c.args.file.now.path) c.args.file.now.stamp c.as_str.ensures.value c.requires c.skips.ensures.notes

pub returns-clause-notes : goal.returns-clause-notes
returns-clause-notes g c =
    notes_stamp g.T.Look.stamps (g.T.Tree.snapshot c.args.tree.now) (g.K.Knowledge.noted c.args.known.now) (g.K.Knowledge.noted c.skips.new.self)
    c.as_str.result.now (string_bytes c.args.file.now.path) c.args.file.now.stamp c.as_str.ensures.value c.requires c.skips.ensures.notes
