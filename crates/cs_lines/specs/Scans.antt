-- The rows of a text, line by line: the definition that the search of a text is proved from.
use Rattle.std.specs.Prelude.{ℕ, ◌≡◌, ◌≤◌, ◌+◌, ◌-◌, Bool, true, false, ◌&&◌, nat_lt, if◌then◌else◌, List, [], ◌∷◌, ◌++◌, length, drop, take, slice_range, Option}
use Rattle.cs_match.specs.Lines.{terminated_lines}
use Rattle.cs_match.specs.Skipping.{AreWholeLines}
use Rattle.cs_match.specs.Skipped.{AreLinesBetween}
use Rattle.cs_lines.specs.declared.search.LineSearch.{LineSearch}
use Rattle.cs_lines.specs.Contexts.{Row, row_at, is_open, one_less}
use Rattle.cs_lines.specs.Findings.{Finding, IsFoundBy, Tests, has_stopped}
use Rattle.cs_lines.specs.Forms.{Span}
use Rattle.cs_tree.specs.SinkOutputs.{Begins}
use Rattle.cs_lines.specs.Printing.{needs_spans}
use Rattle.cs_lines.specs.Shown.{is_wanted}
use Rattle.cs_lines.specs.Spacing.{printed_by, progress_of, seen}
use Rattle.cs_lines.specs.declared.rows.Rows.{Rows}
use Rattle.cs_lines.specs.declared.searching.Place.{Place}

-- The number of the first line that is not shown yet, how many lines may still be marked, and how many of the next lines are
-- shown since they are after a marked one.
pub record Scan : Type 0 where
  pub number : ℕ
  pub most : Option ℕ
  pub left : ℕ

-- lines that are not marked; the first has this number
abbrev pub rows_at : ℕ → List (List ℕ) → List Row
rows_at number [] = []
rows_at number (line ∷ lines) = row_at number line false ∷ rows_at (number + 1) lines

-- the last `count` of these lines; the first of all has this number
abbrev pub last_rows : ℕ → ℕ → List (List ℕ) → List Row
last_rows count number lines = rows_at (number + (length lines - count)) (drop (length lines - count) lines)

-- lines are held only where none is shown since it is after a marked one
abbrev pub Fits : List (List ℕ) → ℕ → Type 0
Fits [] left = Unit {0}
Fits (line ∷ held) left = left ≡ 0

module _ (before after : ℕ) (is_wanted : List ℕ → Bool) where
  -- `held` are the lines before that are not shown yet
  abbrev pub scan_rows : Scan → List (List ℕ) → List (List ℕ) → List Row
  scan_rows scan held [] = []
  scan_rows scan held (line ∷ lines) =
      if is_wanted line && is_open scan.most
      then last_rows before scan.number held ++ row_at (scan.number + length held) line true
      ∷ scan_rows (record { number = scan.number + length held + 1; most = one_less scan.most; left = after }) [] lines
      else (if nat_lt 0 scan.left
      then row_at scan.number line false
      ∷ scan_rows (record { number = scan.number + 1; most = scan.most; left = scan.left - 1 }) held lines
      else scan_rows scan (held ++ line ∷ []) lines)

-- no line of these is marked
abbrev pub NoneMarked : (List ℕ → Bool) → Option ℕ → List (List ℕ) → Type 0
NoneMarked is_wanted most [] = Unit {0}
NoneMarked is_wanted most (line ∷ lines) = ((is_wanted line && is_open most) ≡ false) × NoneMarked is_wanted most lines

-- ---- of a text that is printed

abbrev pub scan_of : Rows → Scan
scan_of rows = record { number = rows.number; most = rows.most; left = rows.left }

-- the rows that are still to be shown of a text
abbrev pub rows_by : Rows → Finding → List (List ℕ) → List (List ℕ) → List Row
rows_by rows finding held lines =
    let options = rows.page.options.now in
    scan_rows options.before options.after (is_wanted options finding.has_match) (scan_of rows) held lines

-- The lines from `from` on were passed, none of which is marked: those before, from `held` on, were held, and those from
-- `held'` on are held now.
pub record IsPassed (old new : Rows) (block : List ℕ) (held from held' : ℕ) : Type 0 where
  pub within : held' ≤ length block
  pub whole : AreWholeLines (drop held' block)
  pub lines : terminated_lines (drop held' block) ≡ terminated_lines (slice_range block held from) ++ drop old.left (terminated_lines (drop from block))
  pub most : new.most ≡ old.most
  pub left : new.left ≡ old.left - length (take old.left (terminated_lines (drop from block)))
  pub number : new.number ≡ old.number + length (take old.left (terminated_lines (drop from block)))
  pub room : new.number + held ≤ old.number + held'

-- what is still to be printed, the same in two states
abbrev pub PrintsAlike : Rows → Rows → List ℕ → List ℕ → Finding → List (List ℕ) → List (List ℕ) → List (List ℕ) → List (List ℕ) → Type 0
PrintsAlike old new given given' finding held lines held' lines' =
    seen (printed_by old.page finding (progress_of old given) (rows_by old finding held lines))
    ≡ seen (printed_by new.page finding (progress_of new given') (rows_by new finding held' lines'))

-- A marked line with these matches was shown, and the last of the lines that were held before it.
abbrev pub IsMarkShown : Rows → Rows → List ℕ → List ℕ → List (List ℕ) → List ℕ → List Span → Type 0
IsMarkShown old new given later held line spans = (new.page ≡ old.page) × ((finding : Finding) →
    (needs_spans old.page.options.now.form ≡ true → finding.spans line ≡ spans) →
    is_wanted old.page.options.now finding.has_match line ≡ true → (more : List (List ℕ)) →
    PrintsAlike old new given later finding held (line ∷ more) [] more)

-- Lines were searched, and `held'` are held now: what is to be printed of them and of any lines after them was printed, except
-- what is to be printed now.
abbrev pub Searches : LineSearch → LineSearch → Rows → Rows → List ℕ → List ℕ → List (List ℕ) → List (List ℕ) → List (List ℕ) → Type 0
Searches search search' old new given given' held lines held' =
    has_stopped search' ≡ false → (finding : Finding) (later : List (List ℕ)) → IsFoundBy finding search →
    PrintsAlike old new given given' finding held (lines ++ later) held' later

-- what was printed begins what is to be printed of these lines and of any lines after them
abbrev pub BeginsRows : LineSearch → LineSearch → Rows → List ℕ → List ℕ → List (List ℕ) → List (List ℕ) → Type 0
BeginsRows search search' old given later held lines =
    has_stopped search' ≡ false → (finding : Finding) (more : List (List ℕ)) → IsFoundBy finding search →
    Begins later (printed_by old.page finding (progress_of old given) (rows_by old finding held (lines ++ more))).given

-- The last lines were searched: what is to be printed of them was printed.
abbrev pub SearchesLast : LineSearch → LineSearch → Rows → Rows → List ℕ → List ℕ → List (List ℕ) → List (List ℕ) → Type 0
SearchesLast search search' old new given given' held lines =
    has_stopped search' ≡ false → (finding : Finding) → IsFoundBy finding search →
    seen (printed_by old.page finding (progress_of old given) (rows_by old finding held lines)) ≡ seen (progress_of new given')

-- ---- the search of a block

-- the lines that are held at a place, and those that were not passed
abbrev pub held_at : Place → List (List ℕ)
held_at place = terminated_lines (slice_range place.block.now place.held place.at)

abbrev pub lines_at : Place → List (List ℕ)
lines_at place = terminated_lines (drop place.at place.block.now)

-- The lines of a block up to an offset were searched: those that were not passed are not marked.
pub record IsPlaced (search : LineSearch) (rows : Rows) (place : Place) (offset : ℕ) : Type 0 where
  pub order : place.held ≤ place.at
  pub whole : AreWholeLines (drop place.held place.block.now)
  pub between : AreWholeLines (slice_range place.block.now place.held place.at)
  pub lines : AreLinesBetween place.block.now place.at offset
  pub fits : Fits (held_at place) rows.left
  pub unmarked : (test : List ℕ → Bool) → Tests test search →
      NoneMarked (is_wanted rows.page.options.now test) rows.most (terminated_lines (slice_range place.block.now place.at offset))

-- The lines are searched up to another offset now: what is to be printed of the block and of any lines after it is the same.
pub record Marks (search search' : LineSearch) (old new : Rows) (given given' : List ℕ) (place place' : Place) (offset : ℕ) : Type 0 where
  pub placed : IsPlaced search' new place' offset
  pub block : place'.block ≡ place.block
  pub page : new.page ≡ old.page
  pub room : new.number + place.held ≤ old.number + place'.held
  pub rises : place.held ≤ place'.held
  pub rows : has_stopped search' ≡ false → (finding : Finding) (later : List (List ℕ)) → IsFoundBy finding search →
      PrintsAlike old new given given' finding (held_at place) (lines_at place ++ later) (held_at place') (lines_at place' ++ later)

abbrev pub BeginsMarks : LineSearch → LineSearch → Rows → List ℕ → List ℕ → Place → Type 0
BeginsMarks search search' old given later place = BeginsRows search search' old given later (held_at place) (lines_at place)
