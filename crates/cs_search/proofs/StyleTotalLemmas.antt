-- The report of a style, by the mode of its options.
use Rattle.std.proofs.Common.{◌≡◌, ℕ, Bool, true, false, ◌&&◌, cond, nat_lt, List, [], ◌∷◌, ◌++◌, length, codes, decimal, Option, None, Some, refl, sym, ap, ◌∙◌, arith, append_assoc, ⊎_elim}
use Rattle.std.specs.List.{flat_map}
use Rattle.std.proofs.lemmas.Bool.{lt-ltb, cases_Bool, false≢true}
use Rattle.cs_match.specs.Lines.{newline, lines, terminated_lines}
use Rattle.cs_lines.specs.Findings.{of_lines}
use Rattle.cs_lines.specs.Shown.{between, count_bytes, count_of, following, groups_by, line_gap, line_groups, line_rows, shows_lines, text_groups, total_groups}
use Rattle.cs_lines.specs.declared.form.Mode.{Mode}
use Rattle.cs_lines.specs.declared.form.Mode.TheVariants.{Lines, Counts, Names, Others}
use Rattle.cs_args.specs.declared.jobs.Style.{Style}
use Rattle.cs_search.specs.GrepReports.{text_report}
use Rattle.cs_search.specs.Report.{MatchingLine, any_match, count_line, match_line, matches_from, matches_output, name_line, report}
use Rattle.cs_search.specs.StyleLaws.{shown_lines, shown_total, shown_by, marked_count, styled}
use Rattle.cs_search.specs.Styles.{mode_of, options_of}
use Rattle.cs_search.specs.declared.status.ReadFault.{ReadFault}
use Rattle.cs_search.proofs.StyleLemmas.{counted, lines_shown}

-- ---- what a style prints

pub kept_fault : (b : Bool) → ◌≡◌ {A = Option ReadFault} (cond b None None) None
kept_fault true = refl
kept_fault false = refl

some_counted : (matches : List MatchingLine) → nat_lt 0 (length matches) ≡ any_match matches
some_counted [] = refl
some_counted (matching ∷ matches) = lt-ltb 0 (length (matching ∷ matches)) (omega arith)

module _ (style : Style) (name : List ℕ) where
  pub matches_output_listed : style.list ≡ true → (whole : Bool) (matches : List MatchingLine) →
      matches_output style name whole matches ≡ cond (any_match matches) (name ++ newline ∷ []) []
  unfolding matches_output name_line
  matches_output_listed e whole matches = rw e refl

  matches_output_counted : style.list ≡ false → style.count ≡ true → (whole : Bool) (matches : List MatchingLine) →
      matches_output style name whole matches ≡ cond (whole && any_match matches) (count_line name (length matches)) []
  unfolding matches_output
  matches_output_counted e h whole matches = rw (e, h) refl

  matches_output_plain : style.list ≡ false → style.count ≡ false → (whole : Bool) (matches : List MatchingLine) →
      matches_output style name whole matches ≡ flat_map (match_line style name) matches
  unfolding matches_output
  matches_output_plain e h whole matches = rw (e, h) refl

-- ---- modes

abbrev pub is_count : Mode → Bool
is_count Lines = false
is_count Counts = true
is_count Names = false
is_count Others = false

module _ (style : Style) where
  pub mode_listed : style.list ≡ true → mode_of style ≡ Names
  mode_listed e = ap (λ (b : Bool). cond b Names (cond style.count Counts Lines)) e

  pub mode_counted : style.list ≡ false → style.count ≡ true → mode_of style ≡ Counts
  mode_counted e h = ap (λ (b : Bool). cond b Names (cond style.count Counts Lines)) e ∙ ap (λ (b : Bool). cond b Counts Lines) h

  pub mode_plain : style.list ≡ false → style.count ≡ false → mode_of style ≡ Lines
  mode_plain e h = ap (λ (b : Bool). cond b Names (cond style.count Counts Lines)) e ∙ ap (λ (b : Bool). cond b Counts Lines) h

  -- by the mode
  pub by_mode : {A : Type 0} → (style.list ≡ true → A) → (style.list ≡ false → style.count ≡ true → A) →
      (style.list ≡ false → style.count ≡ false → A) → A
  by_mode listed counted plain =
      ⊎_elim listed (λ e. ⊎_elim (counted e) (plain e) (cases_Bool style.count)) (cases_Bool style.list)

-- ---- lists of lines

-- nothing is printed between the texts of a style
pub any_begun : (begun : Bool) (groups : List (List ℕ)) → following [] begun groups ≡ following [] false groups
any_begun begun [] = refl
any_begun true (group ∷ groups) = refl
any_begun false (group ∷ groups) = refl

begun_if : (b begun : Bool) (groups : List (List ℕ)) → following (cond b [] []) begun groups ≡ following (cond b [] []) false groups
begun_if true begun groups = any_begun begun groups
begun_if false begun groups = any_begun begun groups

module _ (style : Style) where
  pub lines_begun_alike : (begun : Bool) (groups : List (List ℕ)) →
      following (line_gap (options_of style)) begun groups ≡ following (line_gap (options_of style)) false groups
  lines_begun_alike begun groups = any_begun begun groups

  pub begun_alike : (begun : Bool) (groups : List (List ℕ)) →
      following (between (options_of style)) begun groups ≡ following (between (options_of style)) false groups
  begun_alike begun groups = begun_if (shows_lines (options_of style).mode) begun groups

follow_one : (between : List ℕ) (b : Bool) (group : List ℕ) → following between false (cond b (group ∷ []) []) ≡ cond b group []
follow_one between true group = refl
follow_one between false group = refl

module _ (style : Style) (name : List ℕ) (has_match : List ℕ → Bool) (lines : List (List ℕ)) where
  abbrev matches : List MatchingLine
  matches = matches_from 1 has_match lines

  pub some_marked : (number : ℕ) → nat_lt 0 (marked_count style name has_match lines) ≡ any_match (matches_from number has_match lines)
  some_marked number = ap (nat_lt 0) (counted has_match lines number) ∙ some_counted (matches_from number has_match lines)

  abbrev total_by : Mode → List ℕ
  total_by mode = following (between (options_of style)) false (total_groups (options_of style) name mode (marked_count style name has_match lines))

  pub total_name : total_by Names ≡ cond (any_match matches) (name ++ newline ∷ []) []
  total_name =
      follow_one (between (options_of style)) (nat_lt 0 (marked_count style name has_match lines)) (name ++ newline ∷ [])
      ∙ ap (λ (b : Bool). cond b (name ++ newline ∷ []) []) (some_marked 1)

  count_is : count_bytes (options_of style) name (marked_count style name has_match lines) ≡ count_line name (length matches)
  unfolding count_line
  count_is =
      append_assoc name (codes ": ") (decimal (marked_count style name has_match lines) ++ newline ∷ [])
      ∙ ap (λ n. name ++ (codes ": " ++ (decimal n ++ newline ∷ []))) (counted has_match lines 1)

  pub total_count : total_by Counts ≡ cond (any_match matches) (count_line name (length matches)) []
  total_count =
      let bytes = count_bytes (options_of style) name (marked_count style name has_match lines) in
      follow_one (between (options_of style)) (nat_lt 0 (marked_count style name has_match lines)) bytes
      ∙ ap (λ (b : Bool). cond b bytes []) (some_marked 1)
      ∙ ap (λ l. cond (any_match matches) l []) count_is

  pub listed : style.list ≡ true → (whole : Bool) → shown_total style name has_match lines ≡ styled style name has_match lines whole
  listed e whole = ap total_by (mode_listed style e) ∙ total_name ∙ sym (matches_output_listed style name e whole matches)

  pub counts : style.list ≡ false → style.count ≡ true → shown_total style name has_match lines ≡ styled style name has_match lines true
  counts e h = ap total_by (mode_counted style e h) ∙ total_count ∙ sym (matches_output_counted style name e h true matches)

  pub no_count : style.list ≡ false → style.count ≡ true → styled style name has_match lines false ≡ []
  no_count e h = matches_output_counted style name e h false matches

  pub plain : style.list ≡ false → style.count ≡ false → (whole : Bool) → shown_lines style name has_match lines ≡ styled style name has_match lines whole
  plain e h whole = lines_shown style name has_match lines ∙ sym (matches_output_plain style name e h whole matches)

  pub counts_if : style.list ≡ false → style.count ≡ true → (whole : Bool) →
      cond whole (shown_total style name has_match lines) [] ≡ styled style name has_match lines whole
  counts_if e h true = counts e h
  counts_if e h false = sym (no_count e h)

  abbrev shown_in : Bool → Mode → List ℕ
  shown_in whole mode = shown_by mode style name has_match lines whole

  -- by the mode of the style
  pub shown_alike : (whole : Bool) → shown_by (options_of style).mode style name has_match lines whole ≡ styled style name has_match lines whole
  shown_alike whole = by_mode style
      (λ e. ap (shown_in whole) (mode_listed style e) ∙ listed e whole)
      (λ e h. ap (shown_in whole) (mode_counted style e h) ∙ counts_if e h whole)
      (λ e h. ap (shown_in whole) (mode_plain style e h) ∙ plain e h whole)

  pub lines_alike : (whole : Bool) → (options_of style).mode ≡ Lines → shown_lines style name has_match lines ≡ styled style name has_match lines whole
  lines_alike whole is = by_mode style
      (λ e. absurd (false≢true (ap shows_lines (sym (mode_listed style e) ∙ is))))
      (λ e h. absurd (false≢true (ap shows_lines (sym (mode_counted style e h) ∙ is))))
      (λ e h. plain e h whole)

  pub totals_alike : shows_lines (options_of style).mode ≡ false → shown_total style name has_match lines ≡ styled style name has_match lines true
  totals_alike is = by_mode style
      (λ e. listed e true) counts (λ e h. absurd (false≢true (sym is ∙ ap shows_lines (mode_plain style e h))))

  pub names_alike : (whole : Bool) → (options_of style).mode ≡ Names → shown_total style name has_match lines ≡ styled style name has_match lines whole
  names_alike whole is = by_mode style
      (λ e. listed e whole)
      (λ e h. absurd (false≢true (ap is_count (sym is ∙ mode_counted style e h))))
      (λ e h. absurd (false≢true (ap shows_lines (sym is ∙ mode_plain style e h))))

  pub counts_alike : (options_of style).mode ≡ Counts → styled style name has_match lines false ≡ []
  counts_alike is = by_mode style
      (λ e. absurd (false≢true (ap is_count (sym (mode_listed style e) ∙ is))))
      no_count
      (λ e h. absurd (false≢true (ap is_count (sym (mode_plain style e h) ∙ is))))

-- ---- texts

module _ (style : Style) (name : List ℕ) (has_match : List ℕ → Bool) (text : List ℕ) where
  abbrev text_by : Mode → List ℕ
  text_by mode = following (between (options_of style)) false (groups_by (options_of style) (of_lines has_match) name mode text)

  abbrev after : Mode → List ℕ
  after mode = following (cond (shows_lines mode) [] []) false
      (line_groups (options_of style) (of_lines has_match) name (line_rows (options_of style) (of_lines has_match) (lines text)))

  text_styled : following (between (options_of style)) false (text_groups (options_of style) (of_lines has_match) name text)
      ≡ styled style name has_match (lines text) true
  text_styled =
      let found = matches_from 1 has_match (lines text) in
      by_mode style
      (λ e. ap text_by (mode_listed style e) ∙ total_name style name has_match (lines text) ∙ sym (matches_output_listed style name e true found))
      (λ e h. ap text_by (mode_counted style e h) ∙ total_count style name has_match (lines text) ∙ sym (matches_output_counted style name e h true found))
      (λ e h. ap text_by (mode_plain style e h) ∙ ap after (mode_plain style e h) ∙ plain style name has_match (lines text) e h true)

  pub texts_alike : following (between (options_of style)) false (text_groups (options_of style) (of_lines has_match) name text)
      ≡ (text_report style name has_match text).output
  unfolding report
  texts_alike = text_styled

  pub texts_marked : nat_lt 0 (count_of (options_of style) (of_lines has_match) text) ≡ (text_report style name has_match text).matched
  unfolding report
  texts_marked = some_marked style name has_match (lines text) 1

  module _ (fault : ReadFault) where
    pub faults_alike : shown_by (options_of style).mode style name has_match (terminated_lines text) false
        ≡ (report style name has_match text (Some fault)).output
    unfolding report
    faults_alike = shown_alike style name has_match (terminated_lines text) false

    pub faults_marked : nat_lt 0 (marked_count style name has_match (terminated_lines text)) ≡ (report style name has_match text (Some fault)).matched
    unfolding report
    faults_marked = some_marked style name has_match (terminated_lines text) 1
