-- How a line is printed, after rg: NAME:NUMBER:COLUMN:LINE, and NAME-NUMBER-LINE for a line around a match.
use Rattle.std.specs.Prelude.{ℕ, ◌+◌, ◌∷◌, ◌++◌, Bool, nat_lt, if◌then◌else◌, List, [], drop, slice_range, codes, decimal, Option, Some, None, ◌||◌}
use Rattle.std.specs.List.{flat_map}
use Rattle.cs_match.specs.Lines.{newline}
use Rattle.cs_lines.specs.Contexts.{Row}
use Rattle.cs_lines.specs.declared.form.LineForm.{LineForm}

-- ---- spans

-- a match of a line, from its start to its end
abbrev pub Span : Type 0
Span = ℕ × ℕ

abbrev pub is_filled : Span → Bool
is_filled span = nat_lt span.0 span.1

-- the column of the first match, which may be empty; the first column is 1
abbrev pub first_column : List Span → Option ℕ
first_column [] = None
first_column (span ∷ spans) = Some (span.0 + 1)

-- ---- forms

abbrev pub escape : List ℕ
escape = 27 ∷ codes "["

abbrev pub dyed : LineForm → List ℕ → List ℕ → List ℕ
dyed form colour text =
    if form.colour then escape ++ (colour ++ (codes "m" ++ (text ++ (escape ++ codes "m")))) else text

abbrev pub separator : Bool → List ℕ
separator marked = if marked then codes ":" else codes "-"

-- a text and its separator
abbrev pub separated : LineForm → Bool → List ℕ → List ℕ → List ℕ
separated form marked colour text = dyed form colour text ++ dyed form (codes "36") (separator marked)

-- no name with -h, and none beside a line under --heading
abbrev pub name_part : LineForm → List ℕ → Bool → List ℕ
name_part form name marked =
    if form.bare || form.heading then []
    else (if form.nul then dyed form (codes "35") name ++ 0 ∷ [] else separated form marked (codes "35") name)

abbrev pub number_part : LineForm → ℕ → Bool → List ℕ
number_part form number marked = if form.number then separated form marked (codes "32") (decimal number) else []

-- the column is not dyed
abbrev pub column_part : LineForm → Bool → Option ℕ → List ℕ
column_part form marked None = []
column_part form marked (Some column) =
    if form.column then decimal column ++ dyed form (codes "36") (separator marked) else []

-- NAME:NUMBER:COLUMN: as far as the form has them
abbrev pub prefix_of : LineForm → List ℕ → Row → Option ℕ → List ℕ
prefix_of form name row column =
    name_part form name row.marked ++ (number_part form row.number row.marked ++ column_part form row.marked column)

-- the line from an offset on, its matches dyed that are not empty
abbrev pub painted_from : LineForm → List ℕ → ℕ → List Span → List ℕ
painted_from form line at [] = drop at line
painted_from form line at (span ∷ spans) =
    if is_filled span
    then slice_range line at span.0 ++ (dyed form (codes "1;31") (slice_range line span.0 span.1) ++ painted_from form line span.1 spans)
    else painted_from form line at spans

-- a line with its matches dyed
abbrev pub painted : LineForm → List ℕ → List Span → List ℕ
painted form line spans = if form.colour then painted_from form line 0 spans else line

-- the line after its prefix, by its first match
abbrev pub whole_bytes : LineForm → List ℕ → Row → List Span → List ℕ
whole_bytes form name row spans =
    prefix_of form name row (first_column spans) ++ (painted form row.line spans ++ newline ∷ [])

-- a match: by itself (-o) unless it is empty, else its line (--vimgrep)
abbrev pub match_bytes : LineForm → List ℕ → Row → List Span → Span → List ℕ
match_bytes form name row spans span =
    if form.only
    then (if is_filled span
    then prefix_of form name row (Some (span.0 + 1)) ++ (dyed form (codes "1;31") (slice_range row.line span.0 span.1) ++ newline ∷ [])
    else [])
    else prefix_of form name row (Some (span.0 + 1)) ++ (painted form row.line spans ++ newline ∷ [])

-- A marked line, whose matches are `spans`: the line, or each of its matches. A line that has none, as with -v, is printed
-- whole in each form.
abbrev pub marked_bytes : LineForm → List ℕ → Row → List Span → List ℕ
marked_bytes form name row [] = whole_bytes form name row []
marked_bytes form name row (span ∷ spans) =
    if form.only || form.each then flat_map (match_bytes form name row (span ∷ spans)) (span ∷ spans)
    else whole_bytes form name row (span ∷ spans)

-- a line as it is printed
abbrev pub row_bytes : LineForm → List ℕ → Row → List Span → List ℕ
row_bytes form name row spans =
    if row.marked then marked_bytes form name row spans else prefix_of form name row None ++ (row.line ++ newline ∷ [])
