-- What cs_lines prints by the options of a style is what the style prints (`Report`). Each is proved by a function of `laws`.
use Rattle.std.specs.Prelude.{◌≡◌, ℕ, Bool, true, false, nat_lt, if◌then◌else◌, List, [], ◌++◌, Option, Some, None, IfSome, OnErr, Result}
use Rattle.std.specs.declared.alloc.AllocError.{AllocError}
use Rattle.cs_syntax.specs.Matching.{Tree}
use Rattle.cs_match.specs.Deciding.{Decides}
use Rattle.cs_match.specs.Lines.{terminated_lines}
use Rattle.cs_lines.specs.Findings.{of_lines}
use Rattle.cs_lines.specs.Shown.{at_most, between, count_of, following, line_gap, line_groups, line_rows, shows_lines, text_groups, total_groups, wanted_of}
use Rattle.cs_tree.specs.SinkOutputs.{Begins}
use Rattle.cs_lines.specs.Streams.{BeginsInput, ShowsBegun, ShowsText, StreamsInput, TextStreamed}
use Rattle.cs_lines.specs.declared.form.Mode.{Mode}
use Rattle.cs_lines.specs.declared.form.Mode.TheVariants.{Lines, Counts, Names, Others}
use Rattle.cs_lines.specs.declared.rows.Page.{Page}
use Rattle.cs_lines.specs.declared.stream.Ended.{Ended}
use Rattle.cs_lines.specs.declared.stream.Streamed.{Streamed}
use Rattle.cs_args.specs.declared.jobs.Style.{Style}
use Rattle.cs_tree.specs.StreamModels.{SourceModel}
use Rattle.cs_search.specs.GrepFaults.{fault_of}
use Rattle.cs_search.specs.GrepReports.{text_report}
use Rattle.cs_search.specs.InputReport.{input_report}
use Rattle.cs_search.specs.Report.{any_match, matches_from, matches_output, report}
use Rattle.cs_search.specs.Styles.{options_of}
use Rattle.cs_search.specs.declared.status.ReadFault.{ReadFault}

-- ---- lists of lines

module _ (style : Style) (name : List ℕ) (has_match : List ℕ → Bool) (lines : List (List ℕ)) where
  -- what cs_lines prints of these lines
  abbrev pub shown_lines : List ℕ
  shown_lines = following (line_gap (options_of style)) false
      (line_groups (options_of style) (of_lines has_match) name (line_rows (options_of style) (of_lines has_match) lines))

  -- how many of them are marked
  abbrev pub marked_count : ℕ
  marked_count = at_most None (wanted_of (options_of style) (of_lines has_match) lines)

  -- what it prints where no lines are printed
  abbrev pub shown_total : List ℕ
  shown_total = following (between (options_of style)) false (total_groups (options_of style) name (options_of style).mode marked_count)

  -- What the style prints of these lines, which are all those of a text or not.
  abbrev pub styled : Bool → List ℕ
  styled whole = matches_output style name whole (matches_from 1 has_match lines)

-- Lines are printed alike, also those before a fault.
abbrev pub LinesArePrintedAlike : Type 0
LinesArePrintedAlike = (style : Style) (name : List ℕ) (has_match : List ℕ → Bool) (lines : List (List ℕ)) (whole : Bool) →
    (options_of style).mode ≡ Lines → shown_lines style name has_match lines ≡ styled style name has_match lines whole

-- So are a count and a name, of a text that is read to its end.
abbrev pub TotalsArePrintedAlike : Type 0
TotalsArePrintedAlike = (style : Style) (name : List ℕ) (has_match : List ℕ → Bool) (lines : List (List ℕ)) →
    shows_lines (options_of style).mode ≡ false → shown_total style name has_match lines ≡ styled style name has_match lines true

-- At a fault a name is printed alike,
abbrev pub NamesArePrintedAlike : Type 0
NamesArePrintedAlike = (style : Style) (name : List ℕ) (has_match : List ℕ → Bool) (lines : List (List ℕ)) (whole : Bool) →
    (options_of style).mode ≡ Names → shown_total style name has_match lines ≡ styled style name has_match lines whole

-- and no count.
abbrev pub FaultsHaveNoCount : Type 0
FaultsHaveNoCount = (style : Style) (name : List ℕ) (has_match : List ℕ → Bool) (lines : List (List ℕ)) →
    (options_of style).mode ≡ Counts → styled style name has_match lines false ≡ []

-- A line is marked if and only if one matches.
abbrev pub MatchesAreMarked : Type 0
MatchesAreMarked = (style : Style) (name : List ℕ) (has_match : List ℕ → Bool) (lines : List (List ℕ)) (number : ℕ) →
    nat_lt 0 (marked_count style name has_match lines) ≡ any_match (matches_from number has_match lines)

-- Nothing is printed between texts, so that it does not matter whether something was printed before.
abbrev pub NothingIsBetween : Type 0
NothingIsBetween = (style : Style) (begun : Bool) (groups : List (List ℕ)) →
    (following (line_gap (options_of style)) begun groups ≡ following (line_gap (options_of style)) false groups)
    × (following (between (options_of style)) begun groups ≡ following (between (options_of style)) false groups)

-- ---- texts

-- What is printed for a text is the output of its report, and a line is marked if the report says so.
abbrev pub TextsArePrintedAlike : Type 0
TextsArePrintedAlike = (style : Style) (name : List ℕ) (has_match : List ℕ → Bool) (text : List ℕ) →
    following (between (options_of style)) false (text_groups (options_of style) (of_lines has_match) name text)
    ≡ (text_report style name has_match text).output

abbrev pub TextsAreMarkedAlike : Type 0
TextsAreMarkedAlike = (style : Style) (name : List ℕ) (has_match : List ℕ → Bool) (text : List ℕ) →
    nat_lt 0 (count_of (options_of style) (of_lines has_match) text) ≡ (text_report style name has_match text).matched

-- What is printed of the lines of a text that were read, by the mode: at a fault no count.
abbrev pub shown_by : Mode → Style → List ℕ → (List ℕ → Bool) → List (List ℕ) → Bool → List ℕ
shown_by Lines style name has_match lines whole = shown_lines style name has_match lines
shown_by Counts style name has_match lines whole = if whole then shown_total style name has_match lines else []
shown_by Names style name has_match lines whole = shown_total style name has_match lines
shown_by Others style name has_match lines whole = shown_total style name has_match lines

-- The same for a text that is read up to a fault.
abbrev pub FaultsArePrintedAlike : Type 0
FaultsArePrintedAlike =
    (style : Style) (name : List ℕ) (has_match : List ℕ → Bool) (text : List ℕ) (fault : ReadFault) →
    shown_by (options_of style).mode style name has_match (terminated_lines text) false
    ≡ (report style name has_match text (Some fault)).output

abbrev pub FaultsAreMarkedAlike : Type 0
FaultsAreMarkedAlike =
    (style : Style) (name : List ℕ) (has_match : List ℕ → Bool) (text : List ℕ) (fault : ReadFault) →
    nat_lt 0 (marked_count style name has_match (terminated_lines text)) ≡ (report style name has_match text (Some fault)).matched

-- ---- texts that are read block by block

-- What cs_lines says that it printed of a text is the output of its report; it has its match and its fault.
abbrev pub StreamsAreReported : Type 0
StreamsAreReported =
    (style : Style) (page : Page) (has_match : List ℕ → Bool) (ended : Ended) (text given later : List ℕ) (streamed : Streamed) →
    page.options.now ≡ options_of style →
    TextStreamed page (of_lines has_match) ended text given later page.options.now.mode streamed →
    let found = report style page.name.now has_match text (fault_of ended) in
    (later ≡ given ++ found.output) × (streamed.marked ≡ found.matched) × (fault_of streamed.ended ≡ found.fault)

-- ---- what the calls of cs_lines promise, by the options of a style

module _ (style : Style) (page : Page) where
  -- the options are those of the style
  abbrev pub IsStyled : Type 0
  IsStyled = page.options.now ≡ options_of style

  module _ (tree : Tree) (given later : List ℕ) where
    -- `print_input` printed the output of the report of an input, and answers its match and its fault.
    abbrev pub ReportsInput : ℕ → Option SourceModel → Streamed → Type 0
    ReportsInput limit model streamed = IfSome model (λ source. (has_match : List ℕ → Bool) → Decides has_match tree →
        let found = input_report limit style page.name.now has_match source in
        (later ≡ given ++ found.output) × (streamed.marked ≡ found.matched) × (fault_of streamed.ended ≡ found.fault))

    -- After an error what it printed begins that output.
    abbrev pub BeginsReport : {E : Type 0} → ℕ → Option SourceModel → Result Streamed E → Type 0
    BeginsReport limit model result = IfSome model (λ source. (has_match : List ℕ → Bool) → Decides has_match tree →
        OnErr result (Begins later (given ++ (input_report limit style page.name.now has_match source).output)))

    -- `print_text` printed the output of the report of a text, and answers its match.
    abbrev pub ReportsText : List ℕ → Bool → Type 0
    ReportsText text here = (has_match : List ℕ → Bool) → Decides has_match tree →
        let found = text_report style page.name.now has_match text in (later ≡ given ++ found.output) × (here ≡ found.matched)

    -- After an error what it printed begins that output.
    abbrev pub BeginsTextReport : List ℕ → Type 0
    BeginsTextReport text = (has_match : List ℕ → Bool) → Decides has_match tree →
        Begins later (given ++ (text_report style page.name.now has_match text).output)

abbrev pub InputsAreReported : Type 0
InputsAreReported = (style : Style) (page : Page) (tree : Tree) (given later : List ℕ) (limit : ℕ) (model : Option SourceModel)
    (streamed : Streamed) → IsStyled style page → StreamsInput tree page limit model given later streamed →
    ReportsInput style page tree given later limit model streamed

abbrev pub InputsAreBegun : Type 0
InputsAreBegun = (style : Style) (page : Page) (tree : Tree) (given later : List ℕ) (limit : ℕ) (model : Option SourceModel)
    (result : Result Streamed AllocError) → IsStyled style page → BeginsInput tree page limit model given later result →
    BeginsReport style page tree given later limit model result

abbrev pub TextsAreReported : Type 0
TextsAreReported = (style : Style) (page : Page) (tree : Tree) (given later text : List ℕ) (here : Bool) →
    IsStyled style page → ShowsText tree page text given later here → ReportsText style page tree given later text here

abbrev pub TextsAreBegun : Type 0
TextsAreBegun = (style : Style) (page : Page) (tree : Tree) (given later text : List ℕ) →
    IsStyled style page → ShowsBegun tree page text given later → BeginsTextReport style page tree given later text
