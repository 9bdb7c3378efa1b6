-- What cs_lines says that it printed of a text, by the options of a style, is what the report says.
use Rattle.std.proofs.Common.{◌≡◌, ℕ, Bool, true, false, ◌&&◌, cond, nat_le, nat_lt, List, [], ◌∷◌, ◌++◌, None, refl, sym, ap, subst, ◌∙◌, arith, append-nil}
use Rattle.std.proofs.lemmas.Bool.Decides.{nat_tests}
use Rattle.cs_match.specs.Lines.{newline}
use Rattle.cs_lines.specs.Counts.{ended_by, limit_by}
use Rattle.cs_lines.specs.Findings.{Finding, of_lines}
use Rattle.cs_lines.specs.Printed.{marked_of}
use Rattle.cs_lines.specs.Shown.{between, following, line_gap, line_groups, line_rows, total_groups, wanted_of}
use Rattle.cs_lines.specs.Streamed.{is_whole, read_lines}
use Rattle.cs_lines.specs.Streams.{LinesStreamed, TextStreamed, TotalStreamed}
use Rattle.cs_lines.specs.declared.form.Mode.{Mode}
use Rattle.cs_lines.specs.declared.form.Mode.TheVariants.{Lines, Counts, Names}
use Rattle.cs_lines.specs.declared.form.ShowOptions.{ShowOptions}
use Rattle.cs_lines.specs.declared.rows.Page.{Page}
use Rattle.cs_lines.specs.declared.stream.Ended.{Ended}
use Rattle.cs_lines.specs.declared.stream.Ended.TheVariants.{Whole, Failed, TooLong}
use Rattle.cs_lines.specs.declared.stream.Streamed.{Streamed}
use Rattle.cs_args.specs.declared.jobs.Style.{Style}
use Rattle.cs_search.specs.Report.{any_match, matches_from, report}
use Rattle.cs_search.specs.GrepFaults.{fault_of}
use Rattle.cs_search.specs.StyleLaws.{marked_count, shown_lines, shown_total, styled}
use Rattle.cs_search.specs.Styles.{options_of}
use Rattle.cs_search.proofs.StyleTotalLemmas.{begun_alike, by_mode, counts_if, lines_begun_alike, matches_output_listed, mode_counted, mode_listed, mode_plain, plain, some_marked, total_name}

-- ---- where the reading ended

-- one marked line is enough for a name
keep_name : (b : Bool) (ended : Ended) (given line : List ℕ) →
    cond (is_whole (cond b Whole ended)) (given ++ cond b line []) given ≡ given ++ cond b line []
keep_name true ended given line = refl
keep_name false Whole given line = refl
keep_name false Failed given line = sym (append-nil given)
keep_name false TooLong given line = sym (append-nil given)

keep_count : (b : Bool) (given line : List ℕ) → cond b (given ++ line) given ≡ given ++ cond b line []
keep_count true given line = refl
keep_count false given line = sym (append-nil given)

fault_if : (b : Bool) (ended : Ended) → fault_of (cond b Whole ended) ≡ cond b None (fault_of ended)
fault_if true ended = refl
fault_if false ended = refl

enough_if : (count : ℕ) → nat_le 1 count ≡ nat_lt 0 count
enough_if count = grind (arith, nat_tests)

-- ---- the report

module _ (style : Style) (name : List ℕ) (has_match : List ℕ → Bool) (text given later : List ℕ) (marked : Bool) (stopped : Ended) where
  abbrev IsAsReported : Ended → Type 0
  IsAsReported ended =
      let found = report style name has_match text (fault_of ended) in
      (later ≡ given ++ found.output) × (marked ≡ found.matched) × (fault_of stopped ≡ found.fault)

  abbrev some_match : Ended → Bool
  some_match ended = any_match (matches_from 1 has_match (read_lines ended text))

  as_reported : (ended : Ended) → later ≡ given ++ styled style name has_match (read_lines ended text) (is_whole ended) →
      marked ≡ some_match ended → fault_of stopped ≡ cond (style.list && some_match ended) None (fault_of ended) → IsAsReported ended
  unfolding report
  as_reported Whole p q r = (p, q, r)
  as_reported Failed p q r = (p, q, r)
  as_reported TooLong p q r = (p, q, r)

-- ---- by the mode

module _ (style : Style) (page : Page) (has_match : List ℕ → Bool) (ended : Ended) (text given later : List ℕ) (streamed : Streamed)
    (options : page.options.now ≡ options_of style) where
  abbrev name : List ℕ
  name = page.name.now

  abbrev finding : Finding
  finding = of_lines has_match

  abbrev read : List (List ℕ)
  read = read_lines ended text

  abbrev found : Bool
  found = any_match (matches_from 1 has_match read)

  abbrev Goal : Type 0
  Goal = IsAsReported style name has_match text given later streamed.marked streamed.ended ended

  abbrev lines_by : ShowOptions → Bool → List ℕ
  lines_by by begun = following (line_gap by) begun (line_groups by finding name (line_rows by finding read))

  same_lines : lines_by page.options.now page.begun ≡ shown_lines style name has_match read
  same_lines = ap (λ (by : ShowOptions). lines_by by page.begun) options
      ∙ lines_begun_alike style page.begun (line_groups (options_of style) finding name (line_rows (options_of style) finding read))

  abbrev total_by : ShowOptions → Bool → List ℕ
  total_by by begun = following (between by) begun (total_groups by name by.mode (marked_of by finding read))

  same_total : total_by page.options.now page.begun ≡ shown_total style name has_match read
  same_total = ap (λ (by : ShowOptions). total_by by page.begun) options
      ∙ begun_alike style page.begun
      (total_groups (options_of style) name (options_of style).mode (marked_of (options_of style) finding read))

  same_marks : nat_lt 0 (marked_of page.options.now finding read) ≡ found
  same_marks = ap (λ (by : ShowOptions). nat_lt 0 (marked_of by finding read)) options ∙ some_marked style name has_match read 1

  lines_reported : style.list ≡ false → style.count ≡ false → LinesStreamed page finding ended text given later streamed → Goal
  lines_reported e h f =
      as_reported style name has_match text given later streamed.marked streamed.ended ended
      (f.1.0 ∙ ap (λ l. given ++ l) (same_lines ∙ plain style name has_match read e h (is_whole ended)))
      (f.1.1 ∙ same_marks)
      (ap fault_of f.0 ∙ sym (ap (λ (b : Bool). cond (b && found) None (fault_of ended)) e))

  module _ (f : TotalStreamed page finding ended text given later streamed) where
    abbrev ended_in : ShowOptions → Mode → Ended
    ended_in by mode = ended_by (limit_by mode by.most) (wanted_of by finding read) ended

    ended_as : (mode : Mode) → (options_of style).mode ≡ mode → streamed.ended ≡ ended_in (options_of style) mode
    ended_as mode is =
        f.0 ∙ ap (λ (by : ShowOptions). ended_in by by.mode) options ∙ ap (ended_in (options_of style)) is

    later_as : later ≡ cond (is_whole streamed.ended) (given ++ shown_total style name has_match read) given
    later_as = f.1 ∙ ap (λ l. cond (is_whole streamed.ended) (given ++ l) given) same_total

    name_reported : style.list ≡ true → Goal
    name_reported e =
        let line = name ++ newline ∷ [] in
        let total : shown_total style name has_match read ≡ cond found line [] =
        ap (λ (mode : Mode). following (between (options_of style)) false
        (total_groups (options_of style) name mode (marked_count style name has_match read))) (mode_listed style e)
        ∙ total_name style name has_match read in
        let ends : streamed.ended ≡ cond found Whole ended =
        ended_as Names (mode_listed style e)
        ∙ ap (λ (b : Bool). cond b Whole ended) (enough_if (marked_count style name has_match read) ∙ some_marked style name has_match read 1) in
        as_reported style name has_match text given later streamed.marked streamed.ended ended
        (later_as
        ∙ ap (λ l. cond (is_whole streamed.ended) (given ++ l) given) total
        ∙ ap (λ (end : Ended). cond (is_whole end) (given ++ cond found line []) given) ends
        ∙ keep_name found ended given line
        ∙ ap (λ l. given ++ l) (sym (matches_output_listed style name e (is_whole ended) (matches_from 1 has_match read))))
        (f.2 ∙ same_marks)
        (ap fault_of ends ∙ fault_if found ended ∙ sym (ap (λ (b : Bool). cond (b && found) None (fault_of ended)) e))

    count_reported : style.list ≡ false → style.count ≡ true → Goal
    count_reported e h =
        let ends : streamed.ended ≡ ended = ended_as Counts (mode_counted style e h) in
        as_reported style name has_match text given later streamed.marked streamed.ended ended
        (later_as
        ∙ ap (λ (end : Ended). cond (is_whole end) (given ++ shown_total style name has_match read) given) ends
        ∙ keep_count (is_whole ended) given (shown_total style name has_match read)
        ∙ ap (λ l. given ++ l) (counts_if style name has_match read e h (is_whole ended)))
        (f.2 ∙ same_marks)
        (ap fault_of ends ∙ sym (ap (λ (b : Bool). cond (b && found) None (fault_of ended)) e))

  pub stream_reported : TextStreamed page finding ended text given later page.options.now.mode streamed → Goal
  stream_reported f =
      let by = λ (mode : Mode) (is : (options_of style).mode ≡ mode).
      subst (λ (mode : Mode). TextStreamed page finding ended text given later mode streamed)
      (ap (λ (all : ShowOptions). all.mode) options ∙ is) f in
      by_mode style
      (λ e. name_reported (by Names (mode_listed style e)) e)
      (λ e h. count_reported (by Counts (mode_counted style e h)) e h)
      (λ e h. lines_reported e h (by Lines (mode_plain style e h)))
