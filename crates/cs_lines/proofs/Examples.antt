-- Worked rows of what is printed.
use Rattle.std.proofs.Common.{◌≡◌, ℕ, Bool, true, false, List, [], ◌∷◌, ◌++◌, Some, None, refl, codes}
use Rattle.std.specs.Str.{bytes_eq}
use Rattle.std.specs.Fmt.{digits}
use Rattle.cs_match.specs.LastPart.{last_part}
use Rattle.cs_match.specs.Lines.{lines}
use Rattle.cs_lines.specs.declared.form.LineForm.{LineForm}
use Rattle.cs_lines.specs.declared.form.Mode.TheVariants.{Lines, Counts, Names, Others}
use Rattle.cs_lines.specs.declared.form.ShowOptions.{ShowOptions}
use Rattle.cs_lines.specs.Contexts.{first_marks, shown_after}
use Rattle.cs_lines.specs.Forms.{Span}
use Rattle.cs_lines.specs.Findings.{Finding}
use Rattle.cs_lines.specs.Project.{nothing_shown, text_shown}
use Rattle.cs_lines.specs.declared.binary.BinaryFiles.TheVariants.{WithoutMatch, Binary, Text}
use Rattle.cs_lines.specs.Shown.{text_groups, joined, between}
use Rattle.cs_lines.specs.Work.{file_work, part_work, walks}

marks : List Bool
marks = false ∷ false ∷ true ∷ false ∷ false ∷ false ∷ true ∷ []

one_line_around : shown_after 1 1 [] marks ≡ false ∷ true ∷ true ∷ true ∷ false ∷ true ∷ true ∷ []
unfolding marks
one_line_around = refl

two_lines_after : shown_after 0 2 [] marks ≡ false ∷ false ∷ true ∷ true ∷ true ∷ false ∷ true ∷ []
unfolding marks
two_lines_after = refl

at_most_one : first_marks (Some 1) marks ≡ false ∷ false ∷ true ∷ false ∷ false ∷ false ∷ false ∷ []
unfolding marks
at_most_one = refl

-- the pattern `ab`, on the lines below
is_ab : List ℕ → Bool
is_ab line = bytes_eq line (codes "ab ab")

spans_if : Bool → List Span
spans_if true = (0, 2) ∷ (3, 5) ∷ []
spans_if false = []

finding : Finding
finding = record { has_match = is_ab; spans = λ line. spans_if (is_ab line) }

text : List ℕ
text = codes "x\nab ab\ny\nz\nab ab\n"

numbered : LineForm
numbered = record {
  bare = false;
  heading = false;
  number = true;
  column = false;
  only = false;
  each = false;
  nul = false;
  spaced = false;
  colour = false;
}

plain : ShowOptions
plain = record { mode = Lines; most = None; before = 0; after = 0; invert = false; form = numbered }

-- what is printed for the text under these names
for_names : ShowOptions → List (List ℕ) → List (List ℕ)
for_names options [] = []
for_names options (name ∷ names) = text_groups options finding name text ++ for_names options names

-- `-n -B1 ab`
lines_before : ShowOptions
lines_before = record plain { before = 1 }

lines_before_matches : joined (between lines_before) (for_names lines_before (codes "f" ∷ codes "g" ∷ []))
    ≡ codes "f-1-x\nf:2:ab ab\n--\nf-4-z\nf:5:ab ab\n--\ng-1-x\ng:2:ab ab\n--\ng-4-z\ng:5:ab ab\n"
unfolding lines_before plain numbered text is_ab lines digits finding spans_if for_names
lines_before_matches = refl

-- `--vimgrep -m1 ab`
vimgrep : ShowOptions
vimgrep = record plain { most = Some 1; form = record numbered { column = true; each = true } }

a_line_for_each_match : joined (between vimgrep) (for_names vimgrep (codes "f" ∷ []))
    ≡ codes "f:2:1:ab ab\nf:2:4:ab ab\n"
unfolding vimgrep plain numbered text is_ab lines digits finding spans_if for_names
a_line_for_each_match = refl

-- `-c ab`
counted : ShowOptions
counted = record plain { mode = Counts }

a_count : joined (between counted) (for_names counted (codes "f" ∷ []))
    ≡ codes "f:2\n"
unfolding counted plain numbered text is_ab lines digits finding spans_if for_names
a_count = refl

-- `-c -C1 ab`: nothing is between texts
counted_around : ShowOptions
counted_around = record plain { mode = Counts; before = 1; after = 1 }

counts : joined (between counted_around) (for_names counted_around (codes "f" ∷ codes "g" ∷ []))
    ≡ codes "f:2\ng:2\n"
unfolding counted_around plain numbered text is_ab lines digits finding spans_if for_names
counts = refl

-- `--heading -c ab`: the name stays beside the count
counted_below : ShowOptions
counted_below = record plain { mode = Counts; form = record numbered { heading = true } }

a_name_beside_a_count : joined (between counted_below) (for_names counted_below (codes "f" ∷ []))
    ≡ codes "f:2\n"
unfolding counted_below plain numbered text is_ab lines digits finding spans_if for_names
a_name_beside_a_count = refl

-- `-l --heading ab`
listed : ShowOptions
listed = record plain { mode = Names; form = record numbered { heading = true } }

names : joined (between listed) (for_names listed (codes "f" ∷ codes "g" ∷ []))
    ≡ codes "f\ng\n"
unfolding listed plain numbered text is_ab lines digits finding spans_if for_names
names = refl

-- `-L ab`
others : ShowOptions
others = record plain { mode = Others }

no_names : joined (between others) (for_names others (codes "f" ∷ []))
    ≡ []
unfolding others plain numbered text is_ab lines digits finding spans_if for_names
no_names = refl

-- `--heading -n -A1 ab`
headed : ShowOptions
headed = record plain { after = 1; form = record numbered { heading = true } }

names_above : joined (between headed) (for_names headed (codes "f" ∷ codes "g" ∷ []))
    ≡ codes "f\n2:ab ab\n3-y\n--\n5:ab ab\n\ng\n2:ab ab\n3-y\n--\n5:ab ab\n"
unfolding headed plain numbered text is_ab lines digits finding spans_if for_names
names_above = refl

-- `--heading -h -m1 ab`: an empty line between texts, and no name
headed_bare : ShowOptions
headed_bare = record plain { most = Some 1; form = record numbered { heading = true; bare = true; number = false } }

no_names_above : joined (between headed_bare) (for_names headed_bare (codes "f" ∷ codes "g" ∷ []))
    ≡ codes "ab ab\n\nab ab\n"
unfolding headed_bare plain numbered text is_ab lines digits finding spans_if for_names
no_names_above = refl

-- `-o -m1 -A1 ab`
matches_alone : ShowOptions
matches_alone = record plain { most = Some 1; after = 1; form = record numbered { number = false; only = true } }

matches_and_lines_after : joined (between matches_alone) (for_names matches_alone (codes "f" ∷ []))
    ≡ codes "f:ab\nf:ab\nf-y\n"
unfolding matches_alone plain numbered text is_ab lines digits finding spans_if for_names
matches_and_lines_after = refl

-- `-n -m1 -A3 ab`, as grep has it
lines_after_the_last : ShowOptions
lines_after_the_last = record plain { most = Some 1; after = 3 }

a_match_after_the_last : joined (between lines_after_the_last) (for_names lines_after_the_last (codes "f" ∷ []))
    ≡ codes "f:2:ab ab\nf-3-y\nf-4-z\nf-5-ab ab\n"
unfolding lines_after_the_last plain numbered text is_ab lines digits finding spans_if for_names
a_match_after_the_last = refl

-- `-v -n ab`
inverted : ShowOptions
inverted = record plain { invert = true }

lines_without_a_match : joined (between inverted) (for_names inverted (codes "f" ∷ []))
    ≡ codes "f:1:x\nf:3:y\nf:4:z\n"
unfolding inverted plain numbered text is_ab lines digits finding spans_if for_names
lines_without_a_match = refl

-- `-v --vimgrep ab`, as rg has it: a line without a match has no column
inverted_each : ShowOptions
inverted_each = record plain { invert = true; form = record numbered { column = true; each = true } }

a_line_without_a_match : joined (between inverted_each) (for_names inverted_each (codes "f" ∷ []))
    ≡ codes "f:1:x\nf:3:y\nf:4:z\n"
unfolding inverted_each plain numbered text is_ab lines digits finding spans_if for_names
a_line_without_a_match = refl

-- `-v -o -m1 -A1 ab`, as rg has it, except that it shows matches of the line after
inverted_alone : ShowOptions
inverted_alone = record plain { invert = true; most = Some 1; after = 1; form = record numbered { number = false; only = true } }

a_line_in_place_of_matches : joined (between inverted_alone) (for_names inverted_alone (codes "f" ∷ codes "g" ∷ []))
    ≡ codes "f:x\nf-ab ab\n--\ng:x\ng-ab ab\n"
unfolding inverted_alone plain numbered text is_ab lines digits finding spans_if for_names
a_line_in_place_of_matches = refl

-- `-h -m1 --color=always ab`
coloured : ShowOptions
coloured = record plain { most = Some 1; form = record numbered { bare = true; number = false; colour = true } }

matches_are_dyed : joined (between coloured) (for_names coloured (codes "f" ∷ []))
    ≡ 27 ∷ (codes "[1;31mab" ++ 27 ∷ (codes "[m " ++ 27 ∷ (codes "[1;31mab" ++ 27 ∷ codes "[m\n")))
unfolding coloured plain numbered text is_ab lines digits finding spans_if for_names
matches_are_dyed = refl

-- the pattern `q*`, which matches the empty text at each offset of a line
empty_spans : List Span
empty_spans = (0, 0) ∷ (1, 1) ∷ []

nothing : Finding
nothing = record { has_match = λ line. true; spans = λ line. empty_spans }

-- `-o -m1 -A1 'q*'`, as grep has it: nothing of a line, and a line between the texts
nothing_of_lines : joined (between matches_alone) (text_groups matches_alone nothing (codes "f") (codes "x\n") ++ text_groups matches_alone nothing (codes "g") (codes "x\n"))
    ≡ codes "--\n"
unfolding matches_alone plain numbered empty_spans lines digits nothing
nothing_of_lines = refl

spans_of_a_line : finding.spans (codes "ab ab") ≡ (0, 2) ∷ (3, 5) ∷ []
unfolding finding is_ab spans_if
spans_of_a_line = refl

-- a text with a NUL
binary : List ℕ
binary = codes "ab ab\n" ++ 0 ∷ codes "\nab ab\n"

a_binary_file_that_is_named : (text_shown plain finding (codes "f") Binary binary).groups ≡ codes "f: binary file matches\n" ∷ []
unfolding plain numbered binary finding is_ab lines
a_binary_file_that_is_named = refl

a_binary_file_that_is_counted : (text_shown counted finding (codes "f") Binary binary).groups ≡ codes "f:2\n" ∷ []
unfolding counted plain numbered binary finding is_ab lines digits
a_binary_file_that_is_counted = refl

a_binary_file_that_is_met : text_shown plain finding (codes "f") WithoutMatch binary ≡ nothing_shown
unfolding binary
a_binary_file_that_is_met = refl

a_binary_file_as_text : (text_shown plain finding (codes "f") Text binary).groups
    ≡ codes "f:1:ab ab\n" ∷ codes "f:3:ab ab\n" ∷ []
unfolding plain numbered binary finding is_ab lines digits spans_if
a_binary_file_as_text = refl

-- ---- steps

plain_lines_are_walked_once : walks plain ≡ 1
unfolding plain
plain_lines_are_walked_once = refl

inverted_lines_are_walked_twice : walks inverted ≡ 2
unfolding inverted plain
inverted_lines_are_walked_twice = refl

held_lines_are_walked_three_times : walks lines_before ≡ 3
unfolding lines_before plain
held_lines_are_walked_three_times = refl

ten_bytes_and_four_dropped : part_work lines_before 1 10 4 ≡ 42302
unfolding lines_before plain
ten_bytes_and_four_dropped = refl

file_of_four_bytes : file_work plain 1 (97 ∷ 10 ∷ 97 ∷ 97 ∷ []) ≡ 16936
unfolding plain last_part
file_of_four_bytes = refl
