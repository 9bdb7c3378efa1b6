-- The effect of printing a text on an output. It is said of each finding of the search, unless a line has used up its budget.
use Rattle.std.specs.Prelude.{ℕ, ◌≡◌, Bool, false, nat_lt, List, ◌++◌}
use Rattle.cs_lines.specs.declared.search.LineSearch.{LineSearch}
use Rattle.cs_lines.specs.Findings.{Finding, IsFoundBy, has_stopped}
use Rattle.cs_tree.specs.SinkOutputs.{Begins}
use Rattle.cs_lines.specs.Project.{ItemShown, shown_as}
use Rattle.cs_lines.specs.Shown.{at_most, following, line_gap, line_groups, line_rows, wanted_of, between}
use Rattle.cs_lines.specs.declared.binary.BinaryFiles.{BinaryFiles}
use Rattle.cs_lines.specs.declared.form.ShowOptions.{ShowOptions}
use Rattle.cs_lines.specs.declared.rows.Page.{Page}

-- how many of these lines are marked
abbrev pub marked_of : ShowOptions → Finding → List (List ℕ) → ℕ
marked_of options finding lines = at_most options.most (wanted_of options finding lines)

-- what is printed of these lines
abbrev pub lines_bytes : Page → Finding → List (List ℕ) → List ℕ
lines_bytes page finding lines = following (line_gap page.options.now) page.begun
    (line_groups page.options.now finding page.name.now (line_rows page.options.now finding lines))

-- The lines were printed, and this says whether one is marked.
abbrev pub LinesPrinted : Page → Finding → List (List ℕ) → List ℕ → List ℕ → Bool → Type 0
LinesPrinted page finding lines given later marked =
    (later ≡ given ++ lines_bytes page finding lines) × (marked ≡ nat_lt 0 (marked_of page.options.now finding lines))

-- what was printed begins what is printed of the lines
abbrev pub LinesBegun : Page → Finding → List (List ℕ) → List ℕ → List ℕ → Type 0
LinesBegun page finding lines given later = Begins later (given ++ lines_bytes page finding lines)

-- ---- a text of a project

abbrev pub item_bytes : Page → ItemShown → List ℕ
item_bytes page shown = following (between page.options.now) page.begun shown.groups

-- What is printed for a text was printed, and this says whether a line is marked, by what it is searched as.
abbrev pub PrintsItem : LineSearch → LineSearch → Page → BinaryFiles → List ℕ → List ℕ → List ℕ → Bool → Type 0
PrintsItem search search' page kind text given later marked = has_stopped search' ≡ false → (finding : Finding) → IsFoundBy finding search →
    let shown = shown_as page.options.now finding page.name.now kind text in
    (later ≡ given ++ item_bytes page shown) × (marked ≡ shown.marked)

-- what was printed begins what is printed for the text
abbrev pub BeginsItem : LineSearch → LineSearch → Page → BinaryFiles → List ℕ → List ℕ → List ℕ → Type 0
BeginsItem search search' page kind text given later = has_stopped search' ≡ false → (finding : Finding) → IsFoundBy finding search →
    Begins later (given ++ item_bytes page (shown_as page.options.now finding page.name.now kind text))
