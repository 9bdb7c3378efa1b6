use Rattle.std.proofs.Common.{◌≡◌, ◌+◌, ℕ, ◌∷◌, [], rules, ap, refl, subst, ◌∙◌, Err}
use Rattle.std.proofs.lemmas.Result.{err_from_is_err_and}
use Rattle.cs_tree.specs.FailureCount.{count_after}
use Rattle.cs_tree.specs.Trees.{is_tree_failure}
use Rattle.cs_tree.specs.TreeReaders.{open_model, tree_read, HasRead}
use Rattle.cs_tree.specs.ReadCounts.{ReadCounts}
use Rattle.cs_tree.specs.ConsumesAtMost.{ConsumesAtMost}
use Rattle.cs_tree.proofs.ReadCountLemmas.{reads_open}
use Rattle.cs_args.specs.FileFaults.{fault_line_of}
use Rattle.std.specs.Prelude.{option_map}
use Rattle.cs_tree.specs.Sinks.{Grows}
use Rattle.cs_search.specs.InputReport.{max_searched}
use Rattle.cs_search.specs.Searcher.{Prints, PrintsPrefix}
use Rattle.cs_tree.specs.TakesPrefix.{TakesPrefix}
use Rattle.cs_search.specs.Printed.{input_printed}
use Rattle.cs_search.proofs.PrintedInputLemmas.{Prints-opened, Prints-refused, PrintsPrefix-none, PrintsPrefix-opened, PrintsPrefix-refused, done, undone, PrintsAllFaults-none, PrintsAllFaults-open, PrintsAllFaults-refused}
use Rattle.cs_search.proofs.searching.Searcher.search_file.Goals as goal

pub returns-in-Err-clause-prints : goal.returns-in-Err-clause-prints
returns-in-Err-clause-prints g c = λ has_match decides.
    let tool = c.args.self.now.tool in
    let name = c.args.name.now in
    let file = c.in_ok-fault.ensures.file in
    Prints-refused max_searched tool c.args.self.now.style has_match name (g.T.Tree.snapshot c.args.tree.now)
    c.in-Err.fault (g.T.Tree.opened c.open.new.self) (g.O.Sink.model c.args.out.now) (g.E.Sink.model c.args.err.now)
    (g.E.Sink.model c.print_fault.new.err) file.1 c.in-Err.ensures.answer
    (subst (λ fault. Grows (g.E.Sink.model c.args.err.now) (g.E.Sink.model c.print_fault.new.err)
    (fault_line_of tool name fault)) file.0 c.in_ok-print_fault.ensures.written)

pub returns-clause-prints : goal.returns-clause-prints
returns-clause-prints g c = λ has_match decides.
    let tool = c.args.self.now.tool in
    let style = c.args.self.now.style in
    let name = c.args.name.now in
    let same = ap (λ t. open_model (g.T.Tree.snapshot t) (g.T.Tree.opened t)) c.new-reader.ensures.same_tree
    ∙ ap (λ s. open_model s (g.T.Tree.opened c.open.new.self)) c.open.ensures.keeps in
    Prints-opened max_searched tool style has_match name (g.T.Tree.snapshot c.args.tree.now)
    (g.T.Tree.opened c.open.new.self) (g.O.Sink.model c.args.out.now) (g.O.Sink.model c.search.new.out)
    (g.E.Sink.model c.args.err.now) (g.E.Sink.model c.search.new.err) c.in_ok-matched.matched
    c.in_default.ensures.answer
    (subst (λ input. Prints (option_map (input_printed max_searched tool style has_match name) input)
    (g.O.Sink.model c.args.out.now) (g.O.Sink.model c.search.new.out) (g.E.Sink.model c.args.err.now)
    (g.E.Sink.model c.search.new.err) c.in_ok-matched.matched) same (c.in_ok-matched.ensures.prints has_match decides))

pub returns-in-Err-clause-faults : goal.returns-in-Err-clause-faults
returns-in-Err-clause-faults g c =
    let tool = c.args.self.now.tool in
    let name = c.args.name.now in
    let file = c.in_ok-fault.ensures.file in
    PrintsAllFaults-open tool done c.in-Err.fault name (g.T.Tree.failed c.args.tree.now)
    (g.T.Tree.failed c.open.new.self) (g.E.Sink.model c.args.err.now) (g.E.Sink.model c.print_fault.new.err) file.1
    c.in-Err.ensures.failed
    (subst (λ fault. Grows (g.E.Sink.model c.args.err.now) (g.E.Sink.model c.print_fault.new.err)
    (fault_line_of tool name fault)) file.0 c.in_ok-print_fault.ensures.written)

pub returns-in_err-fault-clause-prints : goal.returns-in_err-fault-clause-prints
returns-in_err-fault-clause-prints g c =
    let p = err_from_is_err_and c.from_residual.result c.from_residual.ensures.1 in
    rw p.1 (λ has_match decides. PrintsPrefix-none _ _ _)

pub returns-in_err-print_fault-clause-prints : goal.returns-in_err-print_fault-clause-prints
returns-in_err-print_fault-clause-prints g c =
    let p = err_from_is_err_and c.from_residual-in_err-print_fault.result c.from_residual-in_err-print_fault.ensures.1 in
    rw p.1 (λ has_match decides.
    let tool = c.args.self.now.tool in
    let name = c.args.name.now in
    let file = c.in_ok-fault.ensures.file in
    PrintsPrefix-refused max_searched tool c.args.self.now.style has_match name (g.T.Tree.snapshot c.args.tree.now)
    c.in-Err.fault (g.T.Tree.opened c.open.new.self) (g.O.Sink.model c.args.out.now) (g.E.Sink.model c.args.err.now)
    (g.E.Sink.model c.print_fault.new.err) file.1 c.in-Err.ensures.answer
    (subst (λ fault. TakesPrefix (fault_line_of tool name fault) (g.E.Sink.model c.args.err.now)
    (g.E.Sink.model c.print_fault.new.err)) file.0 c.in_err-print_fault.ensures.written))

pub returns-in_err-matched-clause-prints : goal.returns-in_err-matched-clause-prints
returns-in_err-matched-clause-prints g c =
    let p = err_from_is_err_and c.from_residual-in_err-matched.result c.from_residual-in_err-matched.ensures.1 in
    rw p.1 (λ has_match decides.
    let tool = c.args.self.now.tool in
    let style = c.args.self.now.style in
    let name = c.args.name.now in
    let same = ap (λ t. open_model (g.T.Tree.snapshot t) (g.T.Tree.opened t)) c.new-reader.ensures.same_tree
    ∙ ap (λ s. open_model s (g.T.Tree.opened c.open.new.self)) c.open.ensures.keeps in
    PrintsPrefix-opened max_searched tool style has_match name (g.T.Tree.snapshot c.args.tree.now)
    (g.T.Tree.opened c.open.new.self) (g.O.Sink.model c.args.out.now) (g.O.Sink.model c.search.new.out)
    (g.E.Sink.model c.args.err.now) (g.E.Sink.model c.search.new.err) c.in_default.ensures.answer
    (subst (λ input. PrintsPrefix (option_map (input_printed max_searched tool style has_match name) input)
    (g.O.Sink.model c.args.out.now) (g.O.Sink.model c.search.new.out) (g.E.Sink.model c.args.err.now)
    (g.E.Sink.model c.search.new.err)) same (c.in_err-matched.ensures.prints has_match decides)))

pub returns-in_err-fault-clause-faults : goal.returns-in_err-fault-clause-faults
returns-in_err-fault-clause-faults g c =
    let p = err_from_is_err_and c.from_residual.result c.from_residual.ensures.1 in
    let tool = c.args.self.now.tool in
    let err = g.E.Sink.model c.args.err.now in
    PrintsAllFaults-refused tool c.from_residual.result p.0 (c.args.name.now ∷ []) _ _ err err p.1
    (PrintsAllFaults-none tool undone (c.args.name.now ∷ []) (g.T.Tree.failed c.args.tree.now) (g.T.Tree.failed c.open.new.self) err err
    (subst (λ fault. g.T.Tree.failed c.open.new.self ≡ count_after {A = Unit {0}} is_tree_failure (Err fault)
    (g.T.Tree.failed c.args.tree.now)) c.in_err-fault.ensures.memory c.in-Err.ensures.failed) refl)

pub returns-in_err-print_fault-clause-faults : goal.returns-in_err-print_fault-clause-faults
returns-in_err-print_fault-clause-faults g c =
    let p = err_from_is_err_and c.from_residual-in_err-print_fault.result c.from_residual-in_err-print_fault.ensures.1 in
    let tool = c.args.self.now.tool in
    let name = c.args.name.now in
    let file = c.in_ok-fault.ensures.file in
    let err = g.E.Sink.model c.args.err.now in
    let later = g.E.Sink.model c.print_fault.new.err in
    PrintsAllFaults-refused tool c.from_residual-in_err-print_fault.result p.0 (name ∷ []) _ _ err later p.1
    (PrintsAllFaults-open tool undone c.in-Err.fault name (g.T.Tree.failed c.args.tree.now)
    (g.T.Tree.failed c.open.new.self) err later file.1 c.in-Err.ensures.failed
    (subst (λ fault. TakesPrefix (fault_line_of tool name fault) err later) file.0 c.in_err-print_fault.ensures.written))

-- ---- how many bytes of the file are read

pub returns-clause-tree : goal.returns-clause-tree
returns-clause-tree g c =
    let opened = c.open.new.self in
    let same = c.new-reader.ensures.same_tree in
    let after = tree_read c.search.new.input in
    let reads = reads_open (max_searched + 1) (g.T.Tree.snapshot c.args.tree.now) (g.T.Tree.snapshot opened)
    (g.T.Tree.snapshot after) c.args.name.now _
    (g.T.Tree.read_counts c.args.tree.now) (g.T.Tree.read_counts opened) (g.T.Tree.read_counts after)
    (g.T.Tree.opened opened) (g.T.Tree.opened after)
    (g.met.T.Tree.counts_modelled opened) c.in_default.ensures.answer c.open.ensures.keeps c.open.ensures.counts
    (c.search.ensures.keeps.1 ∙ ap (λ t. g.T.Tree.snapshot t) same)
    (subst (λ t. ConsumesAtMost (max_searched + 1) (open_model (g.T.Tree.snapshot t) (g.T.Tree.opened t))
    (open_model (g.T.Tree.snapshot after) (g.T.Tree.opened after))) same c.search.ensures.loses)
    (subst (λ t. (before : ReadCounts) → (count : ℕ) → HasRead before count (g.T.Tree.opened t) (g.T.Tree.read_counts t) →
    HasRead before count (g.T.Tree.opened after) (g.T.Tree.read_counts after)) same c.search.ensures.keeps.2) in
    search rules

pub returns-in_err-matched-clause-tree : goal.returns-in_err-matched-clause-tree
returns-in_err-matched-clause-tree g c =
    let opened = c.open.new.self in
    let same = c.new-reader.ensures.same_tree in
    let after = tree_read c.search.new.input in
    let reads = reads_open (max_searched + 1) (g.T.Tree.snapshot c.args.tree.now) (g.T.Tree.snapshot opened)
    (g.T.Tree.snapshot after) c.args.name.now _
    (g.T.Tree.read_counts c.args.tree.now) (g.T.Tree.read_counts opened) (g.T.Tree.read_counts after)
    (g.T.Tree.opened opened) (g.T.Tree.opened after)
    (g.met.T.Tree.counts_modelled opened) c.in_default.ensures.answer c.open.ensures.keeps c.open.ensures.counts
    (c.search.ensures.keeps.1 ∙ ap (λ t. g.T.Tree.snapshot t) same)
    (subst (λ t. ConsumesAtMost (max_searched + 1) (open_model (g.T.Tree.snapshot t) (g.T.Tree.opened t))
    (open_model (g.T.Tree.snapshot after) (g.T.Tree.opened after))) same c.search.ensures.loses)
    (subst (λ t. (before : ReadCounts) → (count : ℕ) → HasRead before count (g.T.Tree.opened t) (g.T.Tree.read_counts t) →
    HasRead before count (g.T.Tree.opened after) (g.T.Tree.read_counts after)) same c.search.ensures.keeps.2) in
    search rules
