use Rattle.std.proofs.Common.{Result, Ok, true, refl}
use Rattle.cs_project.specs.Scopes.{unread}
use Rattle.cs_project.proofs.ListedLemmas.{lists_one}
use Rattle.cs_project.proofs.ScopeLemmas.{any_input}
use Rattle.cs_project.proofs.VisitorLemmas.{on_err}
use Rattle.cs_project.specs.declared.fault.FreshFault.{FreshFault}
use Rattle.cs_project.proofs.listing.NameListingVisitor.visit_input.Goals as goal

pub returns-in_err-print_name-clause-visits : goal.returns-in_err-print_name-clause-visits
returns-in_err-print_name-clause-visits g c =
    any_input (unread c.args._is_read (g.R.Source.model c.args._input.now)) (λ input. lists_one c.args.self.now c.args.self.now
    (c.args.word.now, input, true) c.args.word.now c.args.out.now.sent.bytes c.print_name.new.out.sent.bytes c.from_residual.result refl c.print_name.ensures.begins (on_err _ c.from_residual.result c.from_residual.ensures.0))

pub returns-clause-visits : goal.returns-clause-visits
returns-clause-visits g c =
    let fine : Result (Unit {0}) FreshFault = Ok tt in
    any_input (unread c.args._is_read (g.R.Source.model c.args._input.now)) (λ input. lists_one c.args.self.now c.args.self.now
    (c.args.word.now, input, true) c.args.word.now c.args.out.now.sent.bytes c.print_name.new.out.sent.bytes fine refl c.print_name.ensures.begins
    c.in_ok-print_name.ensures.printed)
