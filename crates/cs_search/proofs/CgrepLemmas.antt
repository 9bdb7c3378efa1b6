-- The clauses of cgrep, from those of the functions that it calls.
use Rattle.std.proofs.Common.{◌≡◌, ℕ, Bool, true, false, cond, List, [], ◌∷◌, refl, sym, ap, subst, ◌∙◌, append-nil, Option, Some, None, Result, Ok, Err, ◌↔◌, ◌+◌, inl, inr, arith}
use Rattle.std.specs.Prelude.{option_map, map, string_bytes, IfOk, OnOk, MatchResult}
use Rattle.cs_syntax.specs.Matching.{Tree, HasMatch}
use Rattle.cs_syntax.specs.Parsing.{ParsesAs}
use Rattle.cs_syntax.specs.ParseErrors.{IsParseError}
use Rattle.cs_syntax.specs.declared.fault.PatternFault.{PatternFault}
use Rattle.cs_syntax.specs.declared.fault.PatternFault.TheVariants as pattern
use Rattle.cs_syntax.specs.declared.fault.PatternError.{PatternError}
use Rattle.cs_match.specs.Deciding.{Decides}
use Rattle.cs_tree.specs.TakesPrefix.{EndsAfter, MayEnd}
use Rattle.cs_tree.specs.ConsumesAtMost.{ConsumesAtMost}
use Rattle.cs_tree.specs.StreamModels.{SourceModel}
use Rattle.cs_tree.specs.Transfers.{Consumes}
use Rattle.cs_tree.specs.Sinks.{SinkModel, GrowsFlushed, HasFlushed, CountsOne}
use Rattle.cs_tree.specs.Snapshot.{Snapshot}
use Rattle.cs_tree.proofs.GrowsLemmas.{Grows-same, GrowsFlushed-chain, leaves_flushed}
use Rattle.cs_tree.proofs.ConsumesLemmas.{Consumes_few}
use Rattle.cs_args.specs.declared.jobs.Tool.{Tool}
use Rattle.cs_args.specs.declared.jobs.Tool.TheVariants.{Cgrep}
use Rattle.cs_args.specs.declared.jobs.GrepJob.{GrepJob}
use Rattle.cs_search.specs.declared.status.Status.{Status}
use Rattle.cs_search.specs.declared.status.Status.TheVariants.{Matched, NoMatch}
use Rattle.cs_search.specs.Printed.{Printed, PrintsAnswer, input_printed, file_printed, all_printed, PrintsFaults, SearchOutputs, searched_by_cgrep}
use Rattle.cs_search.specs.Searcher.{Prints}
use Rattle.cs_search.specs.InputReport.{max_searched}
use Rattle.cs_search.specs.Cgrep.{cgrep_printed, standard_name, PatternFirst, PrintsFaultsOf, IsGrep}
use Rattle.cs_search.specs.Programs.{IsProgramOf, RefusesPattern}
use Rattle.cs_search.specs.Refusals.{IsAccepted, DecidesText, SilentOnError, has_write_failed}
use Rattle.cs_search.specs.SearchEffects.{EndsBoth}
use Rattle.cs_search.specs.GrepFaults.{IsSearchFault}
use Rattle.cs_args.specs.declared.fault.ToolFault.{ToolFault}
use Rattle.cs_args.specs.declared.fault.ToolFault.TheVariants.{Write, Memory}
use Rattle.cs_search.proofs.PrintedInputLemmas.{PrintsFaults-no, PrintsAnswer-nothing, PrintsAnswer-all, outputs_of}
use Rattle.cs_args.specs.Faults.{pattern_fault, pattern_fault_at}

module _ (limit : ℕ) (job : GrepJob) (has_match : List ℕ → Bool) (snapshot : Option Snapshot) (input : Option SourceModel) where
  pub cgrep_standard : job.standard ≡ true → cgrep_printed limit job has_match snapshot input
      ≡ option_map (input_printed limit Cgrep job.style has_match standard_name) input
  unfolding cgrep_printed
  cgrep_standard e = rw e refl

  pub cgrep_files : job.standard ≡ false → cgrep_printed limit job has_match snapshot input
      ≡ option_map (λ (s : Snapshot). all_printed (file_printed limit Cgrep job.style has_match s)
      (map string_bytes job.files.items)) snapshot
  unfolding cgrep_printed searched_by_cgrep
  cgrep_files e = rw e refl

-- a pattern with an error
pattern_refused_at : (text : List ℕ) (fold : Bool) (error : PatternError) (fault : PatternFault) → error.fault ≡ fault →
    IsParseError text fold error → RefusesPattern text fold (pattern_fault_at fault error)
pattern_refused_at text fold error pattern.Memory is refused = (tt, refl)
pattern_refused_at text fold error fault is refused = ((refused, λ memory. cc), refl)

pub pattern_refused : (text : List ℕ) (fold : Bool) (error : PatternError) → IsParseError text fold error →
    RefusesPattern text fold (pattern_fault error)
pattern_refused text fold error refused = pattern_refused_at text fold error error.fault refl refused

-- a search that began
begun_first : (text : List ℕ) (fold : Bool) (answer : Result Status ToolFault) → IsSearchFault answer →
    IsAccepted text fold → PatternFirst text fold answer
begun_first text fold (Ok status) only is = is
begun_first text fold (Err Write) only is = is
begun_first text fold (Err Memory) only is = tt
begun_first text fold (Err fault) only is = absurd only

-- its errors may come after output
pub begun_silent : {A : Type 0} (Silent : Type 0) (answer : Result A ToolFault) → IsSearchFault answer → SilentOnError answer Silent
begun_silent Silent (Ok status) only = tt
begun_silent Silent (Err Write) only = λ unwritten forced. absurd (unwritten refl)
begun_silent Silent (Err Memory) only = λ unwritten forced. absurd (forced refl)
begun_silent Silent (Err fault) only = absurd only

-- A fault of the search of some inputs is one of the whole search.
pub same_fault : (fault : ToolFault) → IsSearchFault {A = Bool} (Err fault) → IsSearchFault {A = Status} (Err fault)
same_fault Write only = tt
same_fault Memory only = tt
same_fault fault only = absurd only

-- nothing was printed
pub all_silent : {A : Type 0} (Silent : Type 0) (answer : Result A ToolFault) → Silent → SilentOnError answer Silent
all_silent Silent (Ok status) silent = tt
all_silent Silent (Err fault) silent = λ unwritten forced. silent

abbrev status_of : Bool → Status
status_of matched = cond matched Matched NoMatch

-- everything was printed, and then both outputs are flushed
module _ (out now later err err-now err-later : Option SinkModel) where
  PrintsAnswer-flushed : (printed : Option Printed) (matched : Bool) (status : Status) →
      Prints printed out now err err-now matched → GrowsFlushed now later [] → GrowsFlushed err-now err-later [] →
      status ≡ status_of matched → PrintsAnswer printed (outputs_of out later err err-later) (Ok status)
  PrintsAnswer-flushed None matched status p flushed flushed-err is = tt
  PrintsAnswer-flushed (Some printed) matched status p flushed flushed-err is = (
    subst (GrowsFlushed out later) (append-nil printed.output) (GrowsFlushed-chain out now later printed.output [] p.0 flushed),
    subst (GrowsFlushed err err-later) (append-nil printed.errors)
        (GrowsFlushed-chain err err-now err-later printed.errors [] p.1 flushed-err),
    is ∙ ap status_of p.2,
  )

  pub PrintsAnswer-ended : (printed : Option Printed) (matched : Bool) (answer : Result Status ToolFault) →
      Prints printed out now err err-now matched →
      MatchResult answer (λ _. GrowsFlushed now later []) (λ _. MayEnd [] now later) → EndsAfter [] err-now err-later answer →
      IfOk answer (λ status. status ≡ status_of matched) → PrintsAnswer printed (outputs_of out later err err-later) answer
  PrintsAnswer-ended printed matched (Ok status) p ends ends-err is = PrintsAnswer-flushed printed matched status p ends ends-err is
  PrintsAnswer-ended printed matched (Err fault) p ends ends-err is =
      PrintsAnswer-all printed fault out now later err err-now err-later matched p ends ends-err

  ended_flushed : (answer : Result Status ToolFault) →
      MatchResult answer (λ _. GrowsFlushed now later []) (λ _. MayEnd [] now later) → EndsAfter [] err-now err-later answer →
      OnOk answer (HasFlushed later × HasFlushed err-later)
  ended_flushed (Ok status) ends ends-err = (leaves_flushed now later [] ends, leaves_flushed err-now err-later [] ends-err)
  ended_flushed (Err fault) ends ends-err = tt

-- A search without an error, and then a flush of both outputs.
pub ended_outputs : {O E : Type 0} (out_model : O → Option SinkModel) (out_failed : O → ℕ) (err_model : E → Option SinkModel)
    (err_failed : E → ℕ) (out now later : O) (err err-now err-later : E) (answer : Result Status ToolFault) →
    CountsOne false (out_failed out) (out_failed now) (err_failed err) (err_failed err-now) →
    MatchResult answer (λ _. GrowsFlushed (out_model now) (out_model later) []) (λ _. MayEnd [] (out_model now) (out_model later)) →
    EndsAfter [] (err_model err-now) (err_model err-later) answer →
    CountsOne (has_write_failed answer) (out_failed now) (out_failed later) (err_failed err-now) (err_failed err-later) →
    EndsBoth out_model out_failed err_model err_failed out later err err-later answer
ended_outputs out_model out_failed err_model err_failed out now later err err-now err-later answer same ends ends-err counts = (
  ended_flushed (out_model out) (out_model now) (out_model later) (err_model err) (err_model err-now) (err_model err-later) answer
      ends ends-err,
  subst (λ n. CountsOne (has_write_failed answer) n (out_failed later) (err_failed err) (err_failed err-later)) same.0
      (subst (λ n. CountsOne (has_write_failed answer) (out_failed now) (out_failed later) n (err_failed err-later)) same.1 counts),
)

-- ---- the printed faults

module _ (job : GrepJob) (tree tree' input input' : ℕ) where
  module _ (Writes : List ℕ → Type 0) where
    pub PrintsFaultsOf-standard : job.standard ≡ true → tree' ≡ tree → PrintsFaults Cgrep (standard_name ∷ []) input
        input' Writes → PrintsFaultsOf job tree tree' input input' Writes
    PrintsFaultsOf-standard e same faults = rw e (same, faults)

    pub PrintsFaultsOf-files : job.standard ≡ false → input' ≡ input →
        PrintsFaults Cgrep (map string_bytes job.files.items) tree tree' Writes → PrintsFaultsOf job tree tree' input
        input' Writes
    PrintsFaultsOf-files e same faults = rw e (same, faults)

  -- the same for another statement about the lines
  module _ (Writes Wanted : List ℕ → Type 0) (gives : (tool : Tool) (names : List (List ℕ)) (failed failed' : ℕ) →
      PrintsFaults tool names failed failed' Writes → PrintsFaults tool names failed failed' Wanted) where
    as_by : (b : Bool) → job.standard ≡ b → PrintsFaultsOf job tree tree' input input' Writes →
        PrintsFaultsOf job tree tree' input input' Wanted
    as_by true e faults = let now = rw e at faults in PrintsFaultsOf-standard Wanted e now.0
        (gives Cgrep (standard_name ∷ []) input input' now.1)
    as_by false e faults = let now = rw e at faults in PrintsFaultsOf-files Wanted e now.0
        (gives Cgrep (map string_bytes job.files.items) tree tree' now.1)

    pub PrintsFaultsOf-as : PrintsFaultsOf job tree tree' input input' Writes → PrintsFaultsOf job tree tree' input input' Wanted
    PrintsFaultsOf-as faults = as_by job.standard refl faults

pub PrintsFaultsOf-nothing : {A E : Type 0} (r : Result A E) (fault : E) (job : GrepJob) (tree input : ℕ)
    (err : Option SinkModel) → r ≡ Err fault → PrintsFaultsOf job tree tree input input
    (λ lines. EndsAfter lines err err r)
PrintsFaultsOf-nothing r fault job tree input err is = by_standard job.standard refl
  where
    by_standard : (b : Bool) → job.standard ≡ b → PrintsFaultsOf job tree tree input input (λ lines. EndsAfter lines err err r)
    by_standard true e = PrintsFaultsOf-standard job tree tree input input (λ lines. EndsAfter lines err err r) e refl
        (PrintsFaults-no Cgrep r fault (standard_name ∷ []) input input err err is refl (Grows-same err))
    by_standard false e = PrintsFaultsOf-files job tree tree input input (λ lines. EndsAfter lines err err r) e refl
        (PrintsFaults-no Cgrep r fault (map string_bytes job.files.items) tree tree err err is refl (Grows-same err))

-- ---- the promise of cgrep

-- nothing is read
Consumes-none : (model : Option SourceModel) → Consumes model model []
Consumes-none None = tt
Consumes-none (Some model) = (refl, refl)

-- an error before anything is searched
pub grep_unsearched : (job : GrepJob) (tree : Option Snapshot) (failed : ℕ) (input : Option SourceModel) (input_failed : ℕ)
    (out err : Option SinkModel) (fault : ToolFault) →
    PatternFirst {A = Status} (string_bytes job.pattern) job.fold (Err fault) →
    IsGrep job tree failed failed input input input_failed input_failed (outputs_of out out err err) (Err fault)
grep_unsearched job tree failed input input_failed out err fault first = record {
  prints = λ has_match tests. PrintsAnswer-nothing (cgrep_printed max_searched job has_match tree input)
      (outputs_of out out err err) fault (Grows-same out, Grows-same err);
  begins = inl (Grows-same out, Grows-same err);
  pattern = first;
  faults = PrintsFaultsOf-nothing {A = Status} (Err fault) fault job failed input_failed err refl;
  loses = Consumes_few input input [] (max_searched + 1) (Consumes-none input) (omega arith);
}

-- a search that began
pub grep_begun : (job : GrepJob) (tree : Option Snapshot) (failed failed' : ℕ) (input input' : Option SourceModel)
    (input_failed input_failed' : ℕ) (outputs : SearchOutputs) (answer : Result Status ToolFault) →
    IsAccepted (string_bytes job.pattern) job.fold → IsSearchFault answer → ConsumesAtMost (max_searched + 1) input input' →
    ((has_match : List ℕ → Bool) → DecidesText (string_bytes job.pattern) job.fold has_match →
    PrintsAnswer (cgrep_printed max_searched job has_match tree input) outputs answer) →
    PrintsFaultsOf job failed failed' input_failed input_failed' (λ lines. EndsAfter lines outputs.err outputs.err_then answer) →
    IsGrep job tree failed failed' input input' input_failed input_failed' outputs answer
grep_begun job tree failed failed' input input' input_failed input_failed' outputs answer accepted only loses prints faults = record {
  prints = prints;
  begins = inr accepted;
  pattern = begun_first (string_bytes job.pattern) job.fold answer only accepted;
  faults = faults;
  loses = loses;
}

-- a text parses as one tree
pub read_once : (text : List ℕ) (fold : Bool) (t u : Tree) → ParsesAs text fold t → ParsesAs text fold u → t ≡ u
read_once text fold t u r s = cc

-- a test that decides a pattern also decides its program
pub Decides-program : (has_match : List ℕ → Bool) (read compiled wanted : Tree) →
    ((line : List ℕ) → HasMatch compiled line ↔ HasMatch read line) → read ≡ wanted → Decides has_match wanted →
    Decides has_match compiled
Decides-program has_match read compiled wanted same is decides =
    λ line. let d = subst (λ (t : Tree). Decides has_match t) (sym is) decides line in
    (λ h. (same line).1 (d.0 h), λ f. d.1 ((same line).0 f))

-- the same for the program of a text
pub decides_program : (text : List ℕ) (fold : Bool) (program : Tree) (has_match : List ℕ → Bool) →
    IsProgramOf text fold program → DecidesText text fold has_match → Decides has_match program
decides_program text fold program has_match is tests = Decides-program has_match is.0 program tests.0
    is.3 (read_once text fold is.0 tests.0 is.1 tests.1) tests.2
