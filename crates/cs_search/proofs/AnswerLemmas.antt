-- The answer of a search of one input, by what cs_lines printed and what its sink has.
use Rattle.std.proofs.Common.{◌≡◌, ℕ, Bool, true, false, ◌&&◌, List, [], ◌++◌, refl, sym, ap, subst, ◌∙◌, Option, Some, None, Result, Ok, Err, Bor, arith}
use Rattle.std.specs.Prelude.{IfOk, OnErr, MatchOption, MatchResult}
use Rattle.std.specs.declared.alloc.AllocError.{AllocError}
use Rattle.cs_syntax.specs.Matching.{Tree}
use Rattle.cs_match.specs.Deciding.{Decides}
use Rattle.cs_match.specs.Lines.{lines}
use Rattle.cs_tree.specs.Failures.{count_if}
use Rattle.cs_tree.specs.FailureCount.{count_after}
use Rattle.cs_tree.specs.Sinks.{Grows, SinkModel}
use Rattle.cs_tree.specs.StreamModels.{SourceModel}
use Rattle.cs_tree.specs.TakesPrefix.{TakesPrefix}
use Rattle.cs_tree.specs.declared.fault.IoFault.{IoFault}
use Rattle.cs_tree.specs.declared.fault.IoFault.TheVariants as io
use Rattle.cs_tree.proofs.GrowsLemmas.{Grows-same}
use Rattle.cs_tree.proofs.PrefixLemmas.{prefix_all, prefix_left}
use Rattle.cs_tree.specs.SinkOutputs.{Begins, HasHanded, failures_after, given as given_to}
use Rattle.cs_lines.specs.Streamed.{is_failed}
use Rattle.cs_lines.specs.Streams.{BeginsInput, ShowsBegun, ShowsText, StreamsInput, has_failed_read}
use Rattle.cs_lines.specs.Work.{Takes, TakesRead, input_work, line_weight, shown_work}
use Rattle.cs_lines.specs.declared.form.ShowOptions.{ShowOptions}
use Rattle.cs_lines.specs.declared.rows.Page.{Page}
use Rattle.cs_lines.specs.declared.search.LineSearch.{LineSearch}
use Rattle.cs_tree.specs.declared.sink_output.SinkOutput.{SinkOutput}
use Rattle.cs_lines.specs.declared.stream.Ended.{Ended}
use Rattle.cs_lines.specs.declared.stream.Ended.TheVariants.{Whole, Failed, TooLong}
use Rattle.cs_lines.specs.declared.stream.Streamed.{Streamed}
use Rattle.cs_lines.proofs.WorkLemmas.{shown_is_input}
use Rattle.cs_args.specs.declared.jobs.Style.{Style}
use Rattle.cs_search.specs.GrepFaults.{answer_of, fault_of, has_read_failed, is_failed_read, is_grep_failure, streamed_as}
use Rattle.cs_search.specs.GrepReports.{IsReported, IsReportedBy, ReportsBy, text_report}
use Rattle.cs_search.specs.InputReport.{input_report}
use Rattle.cs_search.specs.Report.{Report, any_match, matches_from, report}
use Rattle.cs_search.specs.StyleLaws.{IsStyled}
use Rattle.cs_search.specs.Styles.{options_of}
use Rattle.cs_search.specs.declared.status.GrepFault.{GrepFault}
use Rattle.cs_search.specs.declared.status.Grepped.{Grepped}
use Rattle.cs_search.specs.declared.status.ReadFault.{ReadFault}
use Rattle.cs_search.specs.declared.styles.Printer.{Printer}
use Rattle.cs_search.proofs.StyleReportLemmas.{input_begun, input_reported, text_report_begun, text_reported}
use Rattle.cs_search.proofs.StyleTotalLemmas.{kept_fault}

-- the page of a printer
abbrev pub page_of : Bor Printer → ShowOptions → Page
page_of printer options = record {
  options = record { ref_ptr = printer.ref_ptr; now = options };
  name = printer.now.name;
  begun = false;
}

-- ---- what the sink has

-- the same of what the sink's reference leaves
pub as_left : {O : Type 0} (P : O → Type 0) (a b : O) → b ≡ a → P a → P b
as_left P a b e p = subst P (sym e) p

-- nothing was printed to a new one
pub new_handed : {O : Type 0} (model : O → Option SinkModel) (sink : SinkOutput O) (out : O) →
    sink.sink.now ≡ out → given_to sink ≡ [] → sink.fault ≡ None → HasHanded model (model out) sink
new_handed model sink out same none fault =
    subst (λ (f : Option IoFault). MatchOption f (Grows (model out) (model sink.sink.now) (given_to sink))
    (λ _. TakesPrefix (given_to sink) (model out) (model sink.sink.now))) (sym fault)
    (subst (λ (bytes : List ℕ). Grows (model out) (model sink.sink.now) bytes) (sym none)
    (subst (λ (o : _). Grows (model out) (model o) []) (sym same) (Grows-same (model out))))

-- its failures are those of the answer
pub writes_counted : (fault : Option IoFault) (printed : Result Streamed AllocError) (was now : ℕ) → now ≡ failures_after fault was →
    now ≡ count_after is_grep_failure (answer_of fault printed) was
writes_counted None (Ok streamed) was now e = e
writes_counted None (Err refused) was now e = e
writes_counted (Some io.Failed) printed was now e = e
writes_counted (Some io.Memory) printed was now e = e

-- ---- failed reads

failed_alike : (ended : Ended) → is_failed ended ≡ is_failed_read (fault_of ended)
failed_alike Whole = refl
failed_alike Failed = refl
failed_alike TooLong = refl

none_failed : (b : Bool) (fault : IoFault) → (b ≡ true → ◌≡◌ {A = Option IoFault} (Some fault) None) → b ≡ false
none_failed false fault alone = refl
none_failed true fault alone = (let e = alone refl in cc)

pub reads_counted : (fault : Option IoFault) (printed : Result Streamed AllocError) (was now : ℕ) →
    now ≡ count_if (has_failed_read printed) was → (has_failed_read printed ≡ true → fault ≡ None) →
    now ≡ count_if (has_read_failed (answer_of fault printed)) was
reads_counted None (Ok streamed) was now e alone = e ∙ ap (λ (b : Bool). count_if b was) (failed_alike streamed.ended)
reads_counted None (Err refused) was now e alone = e
reads_counted (Some fault) printed was now e alone =
    e ∙ ap (λ (b : Bool). count_if b was) (none_failed (has_failed_read printed) fault alone)

-- ---- steps

work_is : (style : Style) (options : ShowOptions) (w : ℕ) (text : List ℕ) → options ≡ options_of style →
    shown_work options w text ≡ input_work w text
work_is style options w text styled =
    ap (λ (by : ShowOptions). shown_work by w text) styled ∙ shown_is_input (options_of style) w text refl refl

module _ (style : Style) (page : Page) (styled : IsStyled style page) (old new : LineSearch) where
  pub text_work : (text : List ℕ) → Takes (shown_work page.options.now (line_weight old) text) old new →
      Takes (input_work (line_weight old) text) old new
  text_work text takes = subst (λ n. Takes n old new) (work_is style page.options.now (line_weight old) text styled) takes

  pub read_work : (most : ℕ) (model later : Option SourceModel) →
      TakesRead (shown_work page.options.now (line_weight old)) [] most model later old new →
      TakesRead (input_work (line_weight old)) [] most model later old new
  read_work most model later takes = record { text = takes.text; read = takes.read; size = takes.size; bound = text_work takes.text takes.bound }

-- ---- the report

-- given the report's output, or its beginning after an error
module _ (found : Report ReadFault) (given : List ℕ) (start later : Option SinkModel) where
  abbrev IsAnswered : Result Grepped GrepFault → Type 0
  IsAnswered result = MatchResult result (IsReported found start later) (λ _. TakesPrefix found.output start later)

  abbrev IsHanded : Option IoFault → Type 0
  IsHanded fault = MatchOption fault (Grows start later given) (λ _. TakesPrefix given start later)

  some_begun : Begins given found.output → TakesPrefix given start later → TakesPrefix found.output start later
  some_begun begins prefix = subst (λ bytes. TakesPrefix bytes start later) (sym begins.1) (prefix_left given begins.0 start later prefix)

  answered : (fault : Option IoFault) (printed : Result Streamed AllocError) → IsHanded fault →
      IfOk printed (λ streamed. (given ≡ found.output) × (streamed.marked ≡ found.matched) × (fault_of streamed.ended ≡ found.fault)) →
      OnErr printed (Begins given found.output) → IsAnswered (answer_of fault printed)
  answered None (Ok streamed) handed is begins = (subst (Grows start later) is.0 handed, is.1, is.2)
  answered None (Err refused) handed is begins = some_begun begins (prefix_all given start later handed)
  answered (Some fault) (Ok streamed) handed is begins = subst (λ bytes. TakesPrefix bytes start later) is.0 handed
  answered (Some fault) (Err refused) handed is begins = some_begun begins handed

-- by each test
each_test : (result : Result Grepped GrepFault) (Is : (List ℕ → Bool) → Type 0) (P : (List ℕ → Bool) → Grepped → Type 0)
    (Q : (List ℕ → Bool) → Type 0) →
    ((has_match : List ℕ → Bool) → Is has_match → MatchResult result (P has_match) (λ _. Q has_match)) →
    MatchResult result (λ answer. (has_match : List ℕ → Bool) → Is has_match → P has_match answer)
    (λ _. (has_match : List ℕ → Bool) → Is has_match → Q has_match)
each_test (Ok answer) Is P Q f = f
each_test (Err fault) Is P Q f = f

unmodelled : (result : Result Grepped GrepFault) → MatchResult result (λ _. Unit {0}) (λ _. Unit {0})
unmodelled (Ok answer) = tt
unmodelled (Err fault) = tt

ok_of : {A E : Type 0} (result : Result A E) (P Q : A → Type 0) → ((x : A) → P x → Q x) → IfOk result P → IfOk result Q
ok_of (Ok x) P Q f h = f x h
ok_of (Err e) P Q f h = tt

module _ (style : Style) (page : Page) (styled : IsStyled style page) (tree : Tree) (first given : List ℕ) (none : first ≡ [])
    (start later : Option SinkModel) (fault : Option IoFault)
    (handed : MatchOption fault (Grows start later given) (λ _. TakesPrefix given start later)) where
  -- of an input
  pub input_answered : (limit : ℕ) (model : Option SourceModel) (printed : Result Streamed AllocError) →
      IfOk printed (StreamsInput tree page limit model first given) → BeginsInput tree page limit model first given printed →
      ReportsBy tree model (input_report limit style page.name.now) start later (answer_of fault printed)
  input_answered limit None printed text begins =
      each_test (answer_of fault printed) (λ has_match. Decides has_match tree) (λ _ _. Unit {0}) (λ _. Unit {0})
      (λ has_match decides. unmodelled (answer_of fault printed))
  input_answered limit (Some source) printed text begins =
      each_test (answer_of fault printed) (λ has_match. Decides has_match tree)
      (λ has_match answer. IsReported (input_report limit style page.name.now has_match source) start later answer)
      (λ has_match. TakesPrefix (input_report limit style page.name.now has_match source).output start later)
      (λ has_match decides.
      let found = input_report limit style page.name.now has_match source in
      answered found given start later fault printed handed
      (ok_of printed (StreamsInput tree page limit (Some source) first given) _ (λ streamed h.
      let is = input_reported style page tree first given limit (Some source) streamed styled h has_match decides in
      (is.0 ∙ ap (λ (l : List ℕ). l ++ found.output) none, is.1, is.2)) text)
      (subst (λ (l : List ℕ). OnErr printed (Begins given (l ++ found.output))) none
      (input_begun style page tree first given limit (Some source) printed styled begins has_match decides)))

  no_fault : (has_match : List ℕ → Bool) (text : List ℕ) → (text_report style page.name.now has_match text).fault ≡ None
  unfolding report
  no_fault has_match text = kept_fault (style.list && any_match (matches_from 1 has_match (lines text)))

  -- of a text in memory
  pub text_answered : (text : List ℕ) (printed : Result Bool AllocError) →
      IfOk printed (ShowsText tree page text first given) → OnErr printed (ShowsBegun tree page text first given) →
      IsReportedBy tree (λ has_match. text_report style page.name.now has_match text) start later
      (answer_of fault (streamed_as printed))
  text_answered text printed shown begins =
      each_test (answer_of fault (streamed_as printed)) (λ has_match. Decides has_match tree)
      (λ has_match answer. IsReported (text_report style page.name.now has_match text) start later answer)
      (λ has_match. TakesPrefix (text_report style page.name.now has_match text).output start later)
      (λ has_match decides. by_result has_match decides printed shown begins)
    where
      by_result : (has_match : List ℕ → Bool) → Decides has_match tree → (printed : Result Bool AllocError) →
          IfOk printed (ShowsText tree page text first given) → OnErr printed (ShowsBegun tree page text first given) →
          IsAnswered (text_report style page.name.now has_match text) given start later (answer_of fault (streamed_as printed))
      by_result has_match decides (Ok marked) shown begins =
          let found = text_report style page.name.now has_match text in
          let is = text_reported style page tree first given text marked styled shown has_match decides in
          answered found given start later fault (streamed_as (Ok marked)) handed
          (is.0 ∙ ap (λ (l : List ℕ). l ++ found.output) none, is.1, sym (no_fault has_match text)) tt
      by_result has_match decides (Err refused) shown begins =
          let found = text_report style page.name.now has_match text in
          answered found given start later fault (Err refused) handed tt
          (subst (λ (l : List ℕ). Begins given (l ++ found.output)) none
          (text_report_begun style page tree first given text styled begins has_match decides))
