-- What is printed for a text, and for texts one after another.
use Rattle.std.specs.Prelude.{Option, None, ℕ, ◌+◌, Bool, true, false, not, ◌&&◌, nat_lt, nat_eq, if◌then◌else◌, List, [], ◌∷◌, ◌++◌, map, take, codes, decimal, min, count_by, Some}
use Rattle.std.specs.List.{flat_map, list_any}
use Rattle.cs_match.specs.Lines.{newline, lines}
use Rattle.cs_lines.specs.declared.form.Mode.{Mode}
use Rattle.cs_lines.specs.declared.form.Mode.TheVariants.{Lines, Counts, Names, Others}
use Rattle.cs_lines.specs.declared.form.ShowOptions.{ShowOptions}
use Rattle.cs_lines.specs.Contexts.{Row, rows_of, groups_of}
use Rattle.cs_lines.specs.Findings.{Finding}
use Rattle.cs_lines.specs.Forms.{row_bytes, dyed}

-- as git: a NUL is among the first 8000 bytes
abbrev pub is_binary : List ℕ → Bool
is_binary text = list_any (λ b. nat_eq b 0) (take 8000 text)

abbrev pub joined : List ℕ → List (List ℕ) → List ℕ
joined between [] = []
joined between (group ∷ []) = group
joined between (group ∷ next ∷ groups) = group ++ (between ++ joined between (next ∷ groups))

-- the line between groups, if lines around a match are asked for
abbrev pub gap : ShowOptions → List ℕ
gap options =
    if nat_lt 0 (options.before + options.after) then dyed options.form (codes "36") (codes "--") ++ newline ∷ [] else []

abbrev pub shows_lines : Mode → Bool
shows_lines Lines = true
shows_lines Counts = false
shows_lines Names = false
shows_lines Others = false

-- what is between the lines of two texts: with headings an empty line
abbrev pub line_gap : ShowOptions → List ℕ
line_gap options = if options.form.heading then newline ∷ [] else gap options

-- what is between the groups of two texts: nothing, if no lines are shown
abbrev pub between : ShowOptions → List ℕ
between options = if shows_lines options.mode then line_gap options else []

-- with -v a line is wanted if it has no match
abbrev pub is_wanted : ShowOptions → (List ℕ → Bool) → List ℕ → Bool
is_wanted options has_match line = if options.invert then not (has_match line) else has_match line

abbrev pub at_most : Option ℕ → ℕ → ℕ
at_most None count = count
at_most (Some most) count = min most count

module _ (options : ShowOptions) (name : List ℕ) where
  -- the name, and what ends it
  abbrev pub name_bytes : List ℕ → List ℕ
  name_bytes end = dyed options.form (codes "35") name ++ (if options.form.nul then 0 ∷ [] else end)

  -- what is before a count: nothing with -h; as Go's csearch has it, the name, a colon and a space
  abbrev pub counted_bytes : List ℕ
  counted_bytes =
      if options.form.spaced then name_bytes (codes ": ") else (if options.form.bare then [] else name_bytes (codes ":"))

  abbrev pub count_bytes : ℕ → List ℕ
  count_bytes count = counted_bytes ++ (decimal count ++ newline ∷ [])

  -- the name above the lines of a text
  abbrev pub heading : List ℕ
  heading = if options.form.heading && not options.form.bare then name_bytes (newline ∷ []) else []

  -- -c: how many lines are marked, unless it is 0
  abbrev pub count_groups : ℕ → List (List ℕ)
  count_groups count = if nat_lt 0 count then count_bytes count ∷ [] else []

  -- -l and -L
  abbrev pub name_groups : Bool → List (List ℕ)
  name_groups here = if here then name_bytes (newline ∷ []) ∷ [] else []

  -- a binary text with a marked line
  abbrev pub binary_groups : Bool → List (List ℕ)
  binary_groups here = if here then (dyed options.form (codes "35") name ++ codes ": binary file matches\n") ∷ [] else []

  -- what is printed for a text with so many marked lines whose lines are not printed
  abbrev pub total_groups : Mode → ℕ → List (List ℕ)
  total_groups Lines count = binary_groups (nat_lt 0 count)
  total_groups Counts count = count_groups count
  total_groups Names count = name_groups (nat_lt 0 count)
  total_groups Others count = name_groups (not (nat_lt 0 count))

module _ (options : ShowOptions) (finding : Finding) where
  -- the lines that are shown of these
  abbrev pub line_rows : List (List ℕ) → List Row
  line_rows lines = rows_of options.most options.before options.after (is_wanted options finding.has_match) lines

  abbrev pub text_rows : List ℕ → List Row
  text_rows text = line_rows (lines text)

  -- how many of these lines are wanted
  abbrev pub wanted_of : List (List ℕ) → ℕ
  wanted_of lines = count_by (is_wanted options finding.has_match) lines

  abbrev pub wanted_count : List ℕ → ℕ
  wanted_count text = wanted_of (lines text)

  -- how many lines are marked
  abbrev pub count_of : List ℕ → ℕ
  count_of text = at_most options.most (wanted_count text)

  module _ (name : List ℕ) where
    abbrev pub shown_bytes : Row → List ℕ
    shown_bytes row = row_bytes options.form name row (finding.spans row.line)

    -- the groups of the shown rows; with headings a text is one group, after its name
    abbrev pub line_groups : List Row → List (List ℕ)
    line_groups [] = []
    line_groups (row ∷ rows) =
        let groups = map (λ group. flat_map shown_bytes group) (groups_of (row ∷ rows)) in
        if options.form.heading then (heading options name ++ joined (gap options) groups) ∷ [] else groups

    abbrev pub groups_by : Mode → List ℕ → List (List ℕ)
    groups_by Lines text = line_groups (text_rows text)
    groups_by mode text = total_groups options name mode (count_of text)

    -- The groups of lines that are printed for a text.
    abbrev pub text_groups : List ℕ → List (List ℕ)
    text_groups text = groups_by options.mode text

-- the groups of a text after those of others, if any were printed
abbrev pub following : List ℕ → Bool → List (List ℕ) → List ℕ
following between begun [] = []
following between begun (group ∷ groups) = (if begun then between else []) ++ joined between (group ∷ groups)

abbrev pub has_groups : List (List ℕ) → Bool
has_groups [] = false
has_groups (group ∷ groups) = true
