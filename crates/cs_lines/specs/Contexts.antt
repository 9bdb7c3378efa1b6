-- Which lines of a text are shown, and in which groups: functions on the list of its lines.
use Rattle.std.specs.Prelude.{ℕ, ◌+◌, ◌-◌, Bool, true, false, ◌||◌, ◌&&◌, nat_eq, nat_lt, if◌then◌else◌, List, [], ◌∷◌, take, map, Option, Some, None}

-- whether another line may be marked, if only so many may
abbrev pub is_open : Option ℕ → Bool
is_open None = true
is_open (Some most) = nat_lt 0 most

abbrev pub one_less : Option ℕ → Option ℕ
one_less None = None
one_less (Some most) = Some (most - 1)

-- A line is marked if it passes the test; only the first `most` marks stay.
abbrev pub first_marks : Option ℕ → List Bool → List Bool
first_marks most [] = []
first_marks most (mark ∷ marks) =
    if mark && is_open most then true ∷ first_marks (one_less most) marks else false ∷ first_marks most marks

abbrev pub has_mark : List Bool → Bool
has_mark [] = false
has_mark (mark ∷ marks) = mark || has_mark marks

-- A line is shown if it is marked, or one of the `after` lines before it, or one of the `before` lines after it. `earlier` are
-- the marks of the lines before, the nearest first.
abbrev pub shown_after : ℕ → ℕ → List Bool → List Bool → List Bool
shown_after before after earlier [] = []
shown_after before after earlier (mark ∷ later) =
    (mark || (has_mark (take after earlier) || has_mark (take before later))) ∷ shown_after before after (mark ∷ earlier) later

-- A line that is shown: its number, its bytes, and whether it is marked.
pub record Row : Type 0 where
  pub number : ℕ
  pub line : List ℕ
  pub marked : Bool

abbrev pub row_at : ℕ → List ℕ → Bool → Row
row_at number line mark = record { number = number; line = line; marked = mark }

abbrev pub rows_from : ℕ → List (List ℕ) → List Bool → List Bool → List Row
rows_from number [] marks shown = []
rows_from number (line ∷ lines) [] shown = []
rows_from number (line ∷ lines) (mark ∷ marks) [] = []
rows_from number (line ∷ lines) (mark ∷ marks) (here ∷ shown) =
    if here then row_at number line mark ∷ rows_from (number + 1) lines marks shown else rows_from (number + 1) lines marks shown

-- the lines to show of all lines of a text
abbrev pub rows_of : Option ℕ → ℕ → ℕ → (List ℕ → Bool) → List (List ℕ) → List Row
rows_of most before after is_wanted lines =
    let marks = first_marks most (map is_wanted lines) in rows_from 1 lines marks (shown_after before after [] marks)

-- lines whose numbers follow each other are one group
abbrev pub with_row : Row → List (List Row) → List (List Row)
with_row row [] = (row ∷ []) ∷ []
with_row row ([] ∷ groups) = (row ∷ []) ∷ groups
with_row row ((next ∷ group) ∷ groups) =
    if nat_eq next.number (row.number + 1) then (row ∷ next ∷ group) ∷ groups else (row ∷ []) ∷ (next ∷ group) ∷ groups

abbrev pub groups_of : List Row → List (List Row)
groups_of [] = []
groups_of (row ∷ rows) = with_row row (groups_of rows)
