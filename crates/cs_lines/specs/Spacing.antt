-- Rows one after another, with what is printed before each: the definition that the printing of a text is proved from.
use Rattle.std.specs.Prelude.{ℕ, ◌≡◌, ◌+◌, Bool, true, false, not, ◌||◌, nat_eq, nat_lt, if◌then◌else◌, List, [], ◌∷◌, ◌++◌}
use Rattle.cs_lines.specs.Contexts.{Row}
use Rattle.cs_lines.specs.Forms.{Span}
use Rattle.cs_lines.specs.Printing.{needs_spans}
use Rattle.cs_lines.specs.Findings.{Finding}
use Rattle.cs_lines.specs.Shown.{shown_bytes, heading, gap, line_gap}
use Rattle.cs_lines.specs.declared.form.ShowOptions.{ShowOptions}
use Rattle.cs_lines.specs.declared.rows.Page.{Page}
use Rattle.cs_lines.specs.declared.rows.Rows.{Rows}

-- What was printed, whether a row of the text was, and the number after that of the last one.
pub record Progress : Type 0 where
  pub given : List ℕ
  pub shown : Bool
  pub next : ℕ

-- what is printed before a row with this number
abbrev pub before_row : List ℕ → List ℕ → Bool → ℕ → ℕ → List ℕ
before_row opening gap false next number = opening
before_row opening gap true next number = if nat_eq number next then [] else gap

module _ (opening gap : List ℕ) (bytes : Row → List ℕ) where
  abbrev pub spaced : Bool → ℕ → List Row → List ℕ
  spaced shown next [] = []
  spaced shown next (row ∷ rows) = before_row opening gap shown next row.number ++ (bytes row ++ spaced true (row.number + 1) rows)

  -- after these rows
  abbrev pub printed : Progress → List Row → Progress
  printed progress [] = progress
  printed progress (row ∷ rows) = printed (record {
    given = progress.given ++ (before_row opening gap progress.shown progress.next row.number ++ bytes row);
    shown = true;
    next = row.number + 1;
  }) rows

-- ---- of a page

-- what is printed before the first row of a text
abbrev pub opening_of : Page → List ℕ
opening_of page =
    (if page.begun then line_gap page.options.now else []) ++ heading page.options.now page.name.now

abbrev pub printed_by : Page → Finding → Progress → List Row → Progress
printed_by page finding =
    printed (opening_of page) (gap page.options.now) (shown_bytes page.options.now finding page.name.now)

-- no line of the text is shown yet
abbrev pub fresh_rows : Page → Rows
fresh_rows page = record { page = page; number = 1; most = page.options.now.most; left = 0; shown = false; next = 1 }

abbrev pub progress_of : Rows → List ℕ → Progress
progress_of rows given = record { given = given; shown = rows.shown; next = rows.next }

-- the finding has these matches in a marked line, if they are needed
abbrev pub HasSpans : Page → Finding → Row → List Span → Type 0
HasSpans page finding row spans =
    row.marked ≡ true → needs_spans page.options.now.form ≡ true → finding.spans row.line ≡ spans

-- these rows were printed
abbrev pub IsPrinted : Rows → Rows → List ℕ → List ℕ → List Row → Type 0
IsPrinted old new given later rows =
    ((finding : Finding) → progress_of new later ≡ printed_by old.page finding (progress_of old given) rows) × (new.page ≡ old.page)

-- the scan of the lines is where it was
abbrev pub KeepsScan : Rows → Rows → Type 0
KeepsScan old new = (new.number ≡ old.number) × (new.most ≡ old.most) × (new.left ≡ old.left)

-- This row was printed, if the finding has these matches in its line and they are needed.
abbrev pub ShowsRow : Rows → Rows → List ℕ → List ℕ → Row → List Span → Type 0
ShowsRow old new given later row spans = ((finding : Finding) → HasSpans old.page finding row spans →
    progress_of new later ≡ printed_by old.page finding (progress_of old given) (row ∷ []))
    × (new.page ≡ old.page) × KeepsScan old new

-- ---- numbers

-- whether numbers matter: they are printed, or say what is between two rows
abbrev pub has_numbers : ShowOptions → Bool
has_numbers options = options.form.number || nat_lt 0 (options.before + options.after)

-- only marked lines are shown, and not where their matches are
abbrev pub is_plain : ShowOptions → Bool
is_plain options = not (nat_lt 0 (options.before + options.after) || needs_spans options.form)

-- What is seen of a progress. Where numbers do not matter, lines that are not shown are not counted.
abbrev pub seen : Progress → List ℕ × Bool
seen progress = (progress.given, progress.shown)
