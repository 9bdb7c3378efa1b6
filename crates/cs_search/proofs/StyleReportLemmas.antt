-- What the calls of cs_lines promise, by the options of a style.
use Rattle.std.proofs.Common.{◌≡◌, ℕ, Bool, true, false, cond, nat_lt, List, ◌++◌, length, take, Option, None, Some, Result, Ok, Err, OnErr, refl, sym, ap, subst, ◌∙◌}
use Rattle.std.specs.declared.alloc.AllocError.{AllocError}
use Rattle.cs_syntax.specs.Matching.{Tree}
use Rattle.cs_match.specs.Lines.{lines}
use Rattle.cs_tree.specs.StreamModels.{SourceModel, Ending, ends, fails}
use Rattle.cs_lines.specs.Findings.{of_lines}
use Rattle.cs_lines.specs.Printed.{LinesBegun, LinesPrinted, marked_of}
use Rattle.cs_tree.specs.SinkOutputs.{Begins}
use Rattle.cs_lines.specs.Shown.{between, following, line_gap, line_groups, line_rows, total_groups}
use Rattle.cs_lines.specs.Streamed.{ended_of, is_whole, read_lines}
use Rattle.cs_lines.specs.Streams.{BeginsInput, ShowsBegun, ShowsText, StreamsInput, TextBegun, TextCut, TextShown, TotalShown}
use Rattle.cs_lines.specs.declared.form.Mode.{Mode}
use Rattle.cs_lines.specs.declared.form.Mode.TheVariants.{Lines, Counts, Names}
use Rattle.cs_lines.specs.declared.form.ShowOptions.{ShowOptions}
use Rattle.cs_lines.specs.declared.rows.Page.{Page}
use Rattle.cs_lines.specs.declared.stream.Ended.{Ended}
use Rattle.cs_lines.specs.declared.stream.Ended.TheVariants.{Whole, Failed, TooLong}
use Rattle.cs_lines.specs.declared.stream.Streamed.{Streamed}
use Rattle.cs_args.specs.declared.jobs.Style.{Style}
use Rattle.cs_search.specs.GrepFaults.{fault_of}
use Rattle.cs_search.specs.GrepReports.{text_report}
use Rattle.cs_search.specs.InputReport.{fault_within, input_report}
use Rattle.cs_search.specs.Report.{report}
use Rattle.cs_search.specs.StyleLaws.{BeginsReport, BeginsTextReport, IsStyled, ReportsInput, ReportsText, shown_lines, shown_total, styled}
use Rattle.cs_search.specs.Styles.{options_of}
use Rattle.cs_search.specs.declared.status.ReadFault.{ReadFault}
use Rattle.cs_search.proofs.StyleStreamLemmas.{stream_reported}
use Rattle.cs_search.proofs.StyleTotalLemmas.{begun_alike, by_mode, counts, lines_begun_alike, listed, mode_counted, mode_listed, mode_plain, plain, some_marked}

-- ---- inputs

ending_fault : (b : Bool) (ending : Ending) →
    fault_of (cond b TooLong (elim ending [ ends ↦ Whole | fails ↦ Failed ]))
    ≡ cond b (fault_of TooLong) (elim ending [ ends ↦ fault_of Whole | fails ↦ fault_of Failed ])
ending_fault true ending = refl
ending_fault false ends = refl
ending_fault false fails = refl

same_fault : (limit : ℕ) (source : SourceModel) → fault_of (ended_of limit source) ≡ fault_within limit source
same_fault limit source = ending_fault (nat_lt limit (length source.bytes)) source.ending

-- the output of a report, by the lines that were read
output_is : (style : Style) (name : List ℕ) (has_match : List ℕ → Bool) (text : List ℕ) (ended : Ended) →
    styled style name has_match (read_lines ended text) (is_whole ended) ≡ (report style name has_match text (fault_of ended)).output
unfolding report
output_is style name has_match text Whole = refl
output_is style name has_match text Failed = refl
output_is style name has_match text TooLong = refl

begins_none : (given later all : List ℕ) → later ≡ given → Begins later (given ++ all)
begins_none given later all e = (all, ap (λ l. l ++ all) (sym e))

module _ (style : Style) (page : Page) (options : IsStyled style page) (has_match : List ℕ → Bool) (given later : List ℕ) where
  abbrev lines_by : List (List ℕ) → ShowOptions → Bool → List ℕ
  lines_by read by begun =
      following (line_gap by) begun (line_groups by (of_lines has_match) page.name.now (line_rows by (of_lines has_match) read))

  same_lines : (read : List (List ℕ)) → lines_by read page.options.now page.begun ≡ shown_lines style page.name.now has_match read
  same_lines read = ap (λ (by : ShowOptions). lines_by read by page.begun) options
      ∙ lines_begun_alike style page.begun
      (line_groups (options_of style) (of_lines has_match) page.name.now (line_rows (options_of style) (of_lines has_match) read))

  abbrev total_by : List (List ℕ) → ShowOptions → Bool → List ℕ
  total_by read by begun =
      following (between by) begun (total_groups by page.name.now by.mode (marked_of by (of_lines has_match) read))

  same_total : (read : List (List ℕ)) → total_by read page.options.now page.begun ≡ shown_total style page.name.now has_match read
  same_total read = ap (λ (by : ShowOptions). total_by read by page.begun) options
      ∙ begun_alike style page.begun
      (total_groups (options_of style) page.name.now (options_of style).mode (marked_of (options_of style) (of_lines has_match) read))

  same_marks : (read : List (List ℕ)) → nat_lt 0 (marked_of page.options.now (of_lines has_match) read)
      ≡ nat_lt 0 (marked_of (options_of style) (of_lines has_match) read)
  same_marks read = ap (λ (by : ShowOptions). nat_lt 0 (marked_of by (of_lines has_match) read)) options

  as_mode : (mode : Mode) → (options_of style).mode ≡ mode → page.options.now.mode ≡ mode
  as_mode mode is = ap (λ (all : ShowOptions). all.mode) options ∙ is

  -- lines that were begun
  lines_begun : (read : List (List ℕ)) (output : List ℕ) → shown_lines style page.name.now has_match read ≡ output →
      LinesBegun page (of_lines has_match) read given later → Begins later (given ++ output)
  lines_begun read output is f = (f.0, ap (λ l. given ++ l) (sym (same_lines read ∙ is)) ∙ f.1)

  module _ (ended : Ended) (text whole : List ℕ) where
    abbrev output : List ℕ
    output = (report style page.name.now has_match text (fault_of ended)).output

    abbrev IsBegun : Result Streamed AllocError → Type 0
    IsBegun result = OnErr result (Begins later (given ++ output))

    none_begun : (result : Result Streamed AllocError) → OnErr result (later ≡ given) → IsBegun result
    none_begun (Ok streamed) f = tt
    none_begun (Err fault) f = begins_none given later output f

    some_begun : (result : Result Streamed AllocError) → Begins later (given ++ output) → IsBegun result
    some_begun (Ok streamed) f = tt
    some_begun (Err fault) f = f

    input_cut : (result : Result Streamed AllocError) →
        TextCut page (of_lines has_match) ended text given later whole page.options.now.mode result → IsBegun result
    input_cut result f =
        let by = λ (mode : Mode) (is : (options_of style).mode ≡ mode).
        subst (λ (mode : Mode). TextCut page (of_lines has_match) ended text given later whole mode result) (as_mode mode is) f in
        by_mode style
        (λ e. none_begun result (by Names (mode_listed style e)))
        (λ e h. none_begun result (by Counts (mode_counted style e h)))
        (λ e h. some_begun result (lines_begun (read_lines ended text) output
        (plain style page.name.now has_match (read_lines ended text) e h (is_whole ended)
        ∙ output_is style page.name.now has_match text ended) (by Lines (mode_plain style e h)).0))

  -- ---- a text in memory

  module _ (text : List ℕ) where
    abbrev styled_text : List ℕ
    styled_text = styled style page.name.now has_match (lines text) true

    abbrev IsShown : Bool → Type 0
    IsShown here =
        let found = text_report style page.name.now has_match text in
        (later ≡ given ++ found.output) × (here ≡ found.matched)

    as_shown : (here : Bool) → later ≡ given ++ styled_text →
        here ≡ nat_lt 0 (marked_of (options_of style) (of_lines has_match) (lines text)) → IsShown here
    unfolding report
    as_shown here p q = (p, q ∙ some_marked style page.name.now has_match (lines text) 1)

    total_shown : (here : Bool) → shown_total style page.name.now has_match (lines text) ≡ styled_text →
        TotalShown page (of_lines has_match) text given later here → IsShown here
    total_shown here is f =
        as_shown here (f.0 ∙ ap (λ l. given ++ l) (same_total (lines text) ∙ is)) (f.1 ∙ same_marks (lines text))

    rows_shown : (here : Bool) → shown_lines style page.name.now has_match (lines text) ≡ styled_text →
        LinesPrinted page (of_lines has_match) (lines text) given later here → IsShown here
    rows_shown here is f =
        as_shown here (f.0 ∙ ap (λ l. given ++ l) (same_lines (lines text) ∙ is)) (f.1 ∙ same_marks (lines text))

    text_shown : (here : Bool) → TextShown page (of_lines has_match) text given later page.options.now.mode here → IsShown here
    text_shown here f =
        let by = λ (mode : Mode) (is : (options_of style).mode ≡ mode).
        subst (λ (mode : Mode). TextShown page (of_lines has_match) text given later mode here) (as_mode mode is) f in
        by_mode style
        (λ e. total_shown here (listed style page.name.now has_match (lines text) e true) (by Names (mode_listed style e)))
        (λ e h. total_shown here (counts style page.name.now has_match (lines text) e h) (by Counts (mode_counted style e h)))
        (λ e h. rows_shown here (plain style page.name.now has_match (lines text) e h true) (by Lines (mode_plain style e h)))

    abbrev text_output : List ℕ
    text_output = (text_report style page.name.now has_match text).output

    text_begun : TextBegun page (of_lines has_match) text given later page.options.now.mode → Begins later (given ++ text_output)
    text_begun f =
        let by = λ (mode : Mode) (is : (options_of style).mode ≡ mode).
        subst (λ (mode : Mode). TextBegun page (of_lines has_match) text given later mode) (as_mode mode is) f in
        by_mode style
        (λ e. begins_none given later text_output (by Names (mode_listed style e)))
        (λ e h. begins_none given later text_output (by Counts (mode_counted style e h)))
        (λ e h. lines_begun (lines text) text_output
        (plain style page.name.now has_match (lines text) e h true ∙ output_is style page.name.now has_match text Whole)
        (by Lines (mode_plain style e h)))

-- ---- the calls

module _ (style : Style) (page : Page) (tree : Tree) (given later : List ℕ) where
  pub input_reported : (limit : ℕ) (model : Option SourceModel) (streamed : Streamed) → IsStyled style page →
      StreamsInput tree page limit model given later streamed → ReportsInput style page tree given later limit model streamed
  unfolding input_report
  input_reported limit None streamed options f = tt
  input_reported limit (Some source) streamed options f = λ has_match decides.
      subst (λ (fault : Option ReadFault). (let found = report style page.name.now has_match (take limit source.bytes) fault in
      (later ≡ given ++ found.output) × (streamed.marked ≡ found.matched) × (fault_of streamed.ended ≡ found.fault)))
      (same_fault limit source)
      (stream_reported style page has_match (ended_of limit source) (take limit source.bytes) given later streamed options
      (f has_match decides))

  pub input_begun : (limit : ℕ) (model : Option SourceModel) (result : Result Streamed AllocError) → IsStyled style page →
      BeginsInput tree page limit model given later result → BeginsReport style page tree given later limit model result
  unfolding input_report
  input_begun limit None result options f = tt
  input_begun limit (Some source) result options f = λ has_match decides.
      subst (λ (fault : Option ReadFault). OnErr result (Begins later (given
      ++ (report style page.name.now has_match (take limit source.bytes) fault).output)))
      (same_fault limit source)
      (input_cut style page options has_match given later (ended_of limit source) (take limit source.bytes) source.bytes result
      (f has_match decides))

  pub text_reported : (text : List ℕ) (here : Bool) → IsStyled style page → ShowsText tree page text given later here →
      ReportsText style page tree given later text here
  text_reported text here options f = λ has_match decides. text_shown style page options has_match given later text here (f has_match decides)

  pub text_report_begun : (text : List ℕ) → IsStyled style page → ShowsBegun tree page text given later →
      BeginsTextReport style page tree given later text
  text_report_begun text options f = λ has_match decides. text_begun style page options has_match given later text (f has_match decides)
