use Rattle.std.proofs.Common.{◌∷◌, [], List, refl, sym, subst, Option}
use Rattle.std.proofs.lemmas.Result.{err_from_is_err_and}
use Rattle.std.specs.Prelude.{option_map, map, string_bytes}
use Rattle.cs_tree.specs.Snapshot.{Snapshot}
use Rattle.cs_tree.specs.WritesBytes.{WritesBytes}
use Rattle.cs_search.specs.InputReport.{max_searched}
use Rattle.cs_args.specs.declared.jobs.Tool.{Tool}
use Rattle.cs_args.specs.declared.jobs.Tool.TheVariants.{Cgrep}
use Rattle.cs_search.specs.Cgrep.{standard_name}
use Rattle.cs_search.specs.Printed.{Printed, input_printed, file_printed, all_printed}
use Rattle.cs_search.specs.Searcher.{Prints, PrintsAllFaults, PrintsPrefix}
use Rattle.cs_search.proofs.PrintedInputLemmas.{done, undone, PrintsAllFaults-refused}
use Rattle.cs_search.proofs.CgrepLemmas.{cgrep_standard, cgrep_files, PrintsFaultsOf-standard, PrintsFaultsOf-files}
use Rattle.cs_search.proofs.searching.search_inputs.Goals as goal

pub returns-then-job-clause-prints : goal.returns-then-job-clause-prints
returns-then-job-clause-prints g c = λ has_match decides.
    let job = c.args.job.now in
    let model = g.R.Source.model c.args.input.now in
    let Claim = λ (printed : Option Printed). Prints printed (g.O.Sink.model c.args.out.now)
    (g.O.Sink.model c.search.new.out) (g.E.Sink.model c.args.err.now) (g.E.Sink.model c.search.new.err)
    c.in_ok-matched.matched in
    let p = c.in_ok-matched.ensures.prints has_match decides in
    let q = subst (λ tool. Claim (option_map
    (input_printed max_searched tool c.args.searcher.now.style has_match standard_name) model)) c.requires.0 p in
    subst Claim (sym (cgrep_standard max_searched job has_match (g.T.Tree.snapshot c.args.tree.now) model c.if-job.true))
    (subst (λ style. Claim (option_map (input_printed max_searched Cgrep style has_match standard_name) model)) c.requires.1 q)

pub returns-clause-prints : goal.returns-clause-prints
returns-clause-prints g c = λ has_match decides.
    let job = c.args.job.now in
    let snapshot = g.T.Tree.snapshot c.args.tree.now in
    let Claim = λ (printed : Option Printed). Prints printed (g.O.Sink.model c.args.out.now)
    (g.O.Sink.model c.search_files.new.out) (g.E.Sink.model c.args.err.now) (g.E.Sink.model c.search_files.new.err)
    c.in_ok-matched-2.matched in
    let p = c.in_ok-matched-2.ensures.prints has_match decides in
    let q = subst (λ tool. Claim (option_map
    (λ (s : Snapshot). all_printed (file_printed max_searched tool c.args.searcher.now.style has_match s)
    (map string_bytes c.deref.result.now)) snapshot)) c.requires.0 p in
    let r = subst (λ style. Claim (option_map
    (λ (s : Snapshot). all_printed (file_printed max_searched Cgrep style has_match s)
    (map string_bytes c.deref.result.now)) snapshot)) c.requires.1 q in
    subst Claim (sym (cgrep_files max_searched job has_match snapshot (g.R.Source.model c.args.input.now) c.if-job.false))
    (subst (λ names. Claim (option_map (λ (s : Snapshot). all_printed
    (file_printed max_searched Cgrep job.style has_match s) (map string_bytes names)) snapshot)) c.deref.ensures.value
    r)

pub returns-in_err-matched-clause-prints : goal.returns-in_err-matched-clause-prints
returns-in_err-matched-clause-prints g c =
    let p = err_from_is_err_and c.from_residual.result c.from_residual.ensures.1 in
    rw p.1 (λ has_match decides.
    let job = c.args.job.now in
    let model = g.R.Source.model c.args.input.now in
    let Claim = λ (printed : Option Printed). PrintsPrefix printed (g.O.Sink.model c.args.out.now)
    (g.O.Sink.model c.search.new.out) (g.E.Sink.model c.args.err.now) (g.E.Sink.model c.search.new.err) in
    let printed = c.in_err-matched.ensures.prints has_match decides in
    let q = subst (λ tool. Claim (option_map
    (input_printed max_searched tool c.args.searcher.now.style has_match standard_name) model)) c.requires.0 printed in
    subst Claim (sym (cgrep_standard max_searched job has_match (g.T.Tree.snapshot c.args.tree.now) model c.if-job.true))
    (subst (λ style. Claim (option_map (input_printed max_searched Cgrep style has_match standard_name) model)) c.requires.1 q))

pub returns-in_err-matched-2-clause-prints : goal.returns-in_err-matched-2-clause-prints
returns-in_err-matched-2-clause-prints g c =
    let p = err_from_is_err_and c.from_residual-in_err-matched-2.result c.from_residual-in_err-matched-2.ensures.1 in
    rw p.1 (λ has_match decides.
    let job = c.args.job.now in
    let snapshot = g.T.Tree.snapshot c.args.tree.now in
    let Claim = λ (printed : Option Printed). PrintsPrefix printed (g.O.Sink.model c.args.out.now)
    (g.O.Sink.model c.search_files.new.out) (g.E.Sink.model c.args.err.now) (g.E.Sink.model c.search_files.new.err) in
    let printed = c.in_err-matched-2.ensures.prints has_match decides in
    let q = subst (λ tool. Claim (option_map
    (λ (s : Snapshot). all_printed (file_printed max_searched tool c.args.searcher.now.style has_match s)
    (map string_bytes c.deref.result.now)) snapshot)) c.requires.0 printed in
    let r = subst (λ style. Claim (option_map
    (λ (s : Snapshot). all_printed (file_printed max_searched Cgrep style has_match s)
    (map string_bytes c.deref.result.now)) snapshot)) c.requires.1 q in
    subst Claim (sym (cgrep_files max_searched job has_match snapshot (g.R.Source.model c.args.input.now) c.if-job.false))
    (subst (λ names. Claim (option_map (λ (s : Snapshot). all_printed
    (file_printed max_searched Cgrep job.style has_match s) (map string_bytes names)) snapshot)) c.deref.ensures.value
    r))

pub returns-then-job-clause-faults : goal.returns-then-job-clause-faults
returns-then-job-clause-faults g c =
    PrintsFaultsOf-standard c.args.job.now _ _ _ _
    (λ lines. WritesBytes lines (g.E.Sink.model c.args.err.now) (g.E.Sink.model c.search.new.err) done) c.if-job.true
    refl
    (subst (λ tool. PrintsAllFaults tool (standard_name ∷ []) (g.R.Source.failed c.args.input.now)
    (g.R.Source.failed c.search.new.input) (g.E.Sink.model c.args.err.now) (g.E.Sink.model c.search.new.err) done)
    c.requires.0 c.in_ok-matched.ensures.faults)

pub returns-in_err-matched-clause-faults : goal.returns-in_err-matched-clause-faults
returns-in_err-matched-clause-faults g c =
    let p = err_from_is_err_and c.from_residual.result c.from_residual.ensures.1 in
    PrintsFaultsOf-standard c.args.job.now _ _ _ _
    (λ lines. WritesBytes lines (g.E.Sink.model c.args.err.now) (g.E.Sink.model c.search.new.err)
    c.from_residual.result) c.if-job.true refl
    (PrintsAllFaults-refused Cgrep c.from_residual.result p.0 (standard_name ∷ []) (g.R.Source.failed c.args.input.now)
    (g.R.Source.failed c.search.new.input) (g.E.Sink.model c.args.err.now) (g.E.Sink.model c.search.new.err) p.1
    (subst (λ tool. PrintsAllFaults tool (standard_name ∷ []) (g.R.Source.failed c.args.input.now)
    (g.R.Source.failed c.search.new.input) (g.E.Sink.model c.args.err.now) (g.E.Sink.model c.search.new.err) undone)
    c.requires.0 c.in_err-matched.ensures.faults))

pub returns-clause-faults : goal.returns-clause-faults
returns-clause-faults g c =
    let IsModelled = λ (tool : Tool) (names : List _). PrintsAllFaults tool (map string_bytes names)
    (g.T.Tree.failed c.args.tree.now) (g.T.Tree.failed c.search_files.new.tree) (g.E.Sink.model c.args.err.now)
    (g.E.Sink.model c.search_files.new.err) done in
    PrintsFaultsOf-files c.args.job.now _ _ _ _
    (λ lines. WritesBytes lines (g.E.Sink.model c.args.err.now) (g.E.Sink.model c.search_files.new.err) done)
    c.if-job.false refl
    (subst (IsModelled Cgrep) c.deref.ensures.value
    (subst (λ tool. IsModelled tool c.deref.result.now) c.requires.0 c.in_ok-matched-2.ensures.faults))

pub returns-in_err-matched-2-clause-faults : goal.returns-in_err-matched-2-clause-faults
returns-in_err-matched-2-clause-faults g c =
    let p = err_from_is_err_and c.from_residual-in_err-matched-2.result c.from_residual-in_err-matched-2.ensures.1 in
    let IsModelled = λ (tool : Tool) (names : List _). PrintsAllFaults tool (map string_bytes names)
    (g.T.Tree.failed c.args.tree.now) (g.T.Tree.failed c.search_files.new.tree) (g.E.Sink.model c.args.err.now)
    (g.E.Sink.model c.search_files.new.err) undone in
    PrintsFaultsOf-files c.args.job.now _ _ _ _
    (λ lines. WritesBytes lines (g.E.Sink.model c.args.err.now) (g.E.Sink.model c.search_files.new.err)
    c.from_residual-in_err-matched-2.result) c.if-job.false refl
    (PrintsAllFaults-refused Cgrep c.from_residual-in_err-matched-2.result p.0 (map string_bytes c.args.job.now.files.items) _ _ _ _ p.1
    (subst (IsModelled Cgrep) c.deref.ensures.value
    (subst (λ tool. IsModelled tool c.deref.result.now) c.requires.0 c.in_err-matched-2.ensures.faults)))
