use Rattle.std.proofs.Common.{◌≡◌, ◌∷◌, [], refl, sym, subst}
use Rattle.std.proofs.lemmas.Result.{err_from_is_err_and}
use Rattle.cs_tree.proofs.GrowsLemmas.{Grows-same}
use Rattle.cs_args.specs.FileFaults.{fault_line_of}
use Rattle.cs_search.specs.GrepFaults.{is_failed_read}
use Rattle.cs_tree.specs.Failures.{count_if}
use Rattle.cs_tree.specs.Sinks.{Grows}
use Rattle.cs_tree.specs.TakesPrefix.{TakesPrefix}
use Rattle.cs_search.proofs.PrintedInputLemmas.{fault_text, Prints-input, PrintsPrefix-input, PrintsPrefix-fault, done, undone, PrintsAllFaults-none, PrintsAllFaults-left, PrintsAllFaults-refused}
use Rattle.cs_search.proofs.searching.Searcher.search.Goals as goal

pub returns-in_ok-print_fault-clause-prints : goal.returns-in_ok-print_fault-clause-prints
returns-in_ok-print_fault-clause-prints g c = λ has_match decides.
    let tool = c.args.self.now.tool in
    let name = c.args.name.now in
    let written = subst (λ fault. Grows (g.E.Sink.model c.args.err.now) (g.E.Sink.model c.print_fault.new.err)
    (fault_line_of tool name fault)) c.of_input.ensures c.in_ok-print_fault.ensures.written in
    Prints-input _ tool c.args.self.now.style has_match name (g.R.Source.model c.args.input.now) c.in_ok-answer.answer _
    _ (g.E.Sink.model c.args.err.now) (g.E.Sink.model c.print_fault.new.err)
    (c.in_ok-answer.ensures.report decides.0 decides.1 has_match decides.2)
    (subst (λ fault. Grows (g.E.Sink.model c.args.err.now) (g.E.Sink.model c.print_fault.new.err)
    (fault_text tool name fault)) (sym c.in-Some.is) written)

pub returns-in_default-clause-prints : goal.returns-in_default-clause-prints
returns-in_default-clause-prints g c = λ has_match decides.
    let tool = c.args.self.now.tool in
    let name = c.args.name.now in
    Prints-input _ tool c.args.self.now.style has_match name (g.R.Source.model c.args.input.now) c.in_ok-answer.answer _
    _ (g.E.Sink.model c.args.err.now) (g.E.Sink.model c.args.err.now) (c.in_ok-answer.ensures.report decides.0 decides.1 has_match decides.2)
    (subst (λ fault. Grows (g.E.Sink.model c.args.err.now) (g.E.Sink.model c.args.err.now) (fault_text tool name fault))
    (sym c.in_default.is) (Grows-same (g.E.Sink.model c.args.err.now)))

pub returns-in_ok-print_fault-clause-faults : goal.returns-in_ok-print_fault-clause-faults
returns-in_ok-print_fault-clause-faults g c =
    let tool = c.args.self.now.tool in
    let name = c.args.name.now in
    let failed = c.in_ok-answer.ensures.counts.0 in
    let written = subst (λ fault. Grows (g.E.Sink.model c.args.err.now) (g.E.Sink.model c.print_fault.new.err)
    (fault_line_of tool name fault)) c.of_input.ensures c.in_ok-print_fault.ensures.written in
    PrintsAllFaults-left tool done c.in-Some.fault name (g.R.Source.failed c.args.input.now)
    (g.R.Source.failed c.grep_within.new.input) (g.E.Sink.model c.args.err.now) (g.E.Sink.model c.print_fault.new.err)
    (subst (λ fault. g.R.Source.failed c.grep_within.new.input ≡ count_if (is_failed_read fault)
    (g.R.Source.failed c.args.input.now)) c.in-Some.is failed) written

pub returns-in_err-answer-clause-prints : goal.returns-in_err-answer-clause-prints
returns-in_err-answer-clause-prints g c =
    let p = err_from_is_err_and c.from_residual.result c.from_residual.ensures.1 in
    rw p.1 (λ has_match decides.
    PrintsPrefix-input _ c.args.self.now.tool c.args.self.now.style has_match c.args.name.now
    (g.R.Source.model c.args.input.now) (g.O.Sink.model c.args.out.now) (g.O.Sink.model c.grep_within.new.out)
    (g.E.Sink.model c.args.err.now) (c.in_err-answer.ensures.report decides.0 decides.1 has_match decides.2))

pub returns-in_err-print_fault-clause-prints : goal.returns-in_err-print_fault-clause-prints
returns-in_err-print_fault-clause-prints g c =
    let p = err_from_is_err_and c.from_residual-in_err-print_fault.result c.from_residual-in_err-print_fault.ensures.1 in
    rw p.1 (λ has_match decides.
    let tool = c.args.self.now.tool in
    let name = c.args.name.now in
    let err = g.E.Sink.model c.args.err.now in
    let later = g.E.Sink.model c.print_fault.new.err in
    PrintsPrefix-fault _ tool c.args.self.now.style has_match name (g.R.Source.model c.args.input.now)
    c.in_ok-answer.answer c.in-Some.fault _ _ err later c.in-Some.is (c.in_ok-answer.ensures.report decides.0 decides.1 has_match decides.2)
    (subst (λ fault. TakesPrefix (fault_line_of tool name fault) err later) c.of_input.ensures c.in_err-print_fault.ensures.written))

pub returns-in_default-clause-faults : goal.returns-in_default-clause-faults
returns-in_default-clause-faults g c =
    PrintsAllFaults-none c.args.self.now.tool done (c.args.name.now ∷ []) (g.R.Source.failed c.args.input.now)
    (g.R.Source.failed c.grep_within.new.input) (g.E.Sink.model c.args.err.now) (g.E.Sink.model c.args.err.now)
    (subst (λ fault. g.R.Source.failed c.grep_within.new.input ≡ count_if (is_failed_read fault)
    (g.R.Source.failed c.args.input.now)) c.in_default.is c.in_ok-answer.ensures.counts.0) refl

pub returns-in_err-answer-clause-faults : goal.returns-in_err-answer-clause-faults
returns-in_err-answer-clause-faults g c =
    let p = err_from_is_err_and c.from_residual.result c.from_residual.ensures.1 in
    let err = g.E.Sink.model c.args.err.now in
    PrintsAllFaults-refused c.args.self.now.tool c.from_residual.result p.0 (c.args.name.now ∷ []) _ _ err err p.1
    (PrintsAllFaults-none c.args.self.now.tool undone (c.args.name.now ∷ []) (g.R.Source.failed c.args.input.now)
    (g.R.Source.failed c.grep_within.new.input) err err c.in_err-answer.ensures.counts.0 refl)

pub returns-in_err-print_fault-clause-faults : goal.returns-in_err-print_fault-clause-faults
returns-in_err-print_fault-clause-faults g c =
    let p = err_from_is_err_and c.from_residual-in_err-print_fault.result c.from_residual-in_err-print_fault.ensures.1 in
    let tool = c.args.self.now.tool in
    let name = c.args.name.now in
    let err = g.E.Sink.model c.args.err.now in
    let later = g.E.Sink.model c.print_fault.new.err in
    let failed = subst (λ fault. g.R.Source.failed c.grep_within.new.input ≡ count_if (is_failed_read fault)
    (g.R.Source.failed c.args.input.now)) c.in-Some.is c.in_ok-answer.ensures.counts.0 in
    PrintsAllFaults-refused tool c.from_residual-in_err-print_fault.result p.0 (name ∷ []) _ _ err later p.1
    (PrintsAllFaults-left tool undone c.in-Some.fault name (g.R.Source.failed c.args.input.now)
    (g.R.Source.failed c.grep_within.new.input) err later failed
    (subst (λ fault. TakesPrefix (fault_line_of tool name fault) err later) c.of_input.ensures c.in_err-print_fault.ensures.written))
