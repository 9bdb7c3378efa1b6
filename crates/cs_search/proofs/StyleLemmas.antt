-- What cs_lines prints by the options of a style is what the style prints.
use Rattle.std.proofs.Common.{◌≡◌, ℕ, ◌+◌, Bool, true, false, ◌&&◌, ◌||◌, cond, nat_eq, List, [], ◌∷◌, ◌++◌, map, take, length, codes, decimal, None, refl, sym, ap, ◌∙◌, arith, append_assoc, append-nil}
use Rattle.std.specs.List.{count_by, flat_map}
use Rattle.std.proofs.lemmas.List.Sums.{sum_by-cons}
use Rattle.cs_match.specs.Lines.{newline}
use Rattle.cs_lines.specs.Contexts.{Row, first_marks, groups_of, has_mark, row_at, rows_from, shown_after, with_row}
use Rattle.cs_lines.specs.Findings.{of_lines}
use Rattle.cs_lines.specs.Forms.{row_bytes}
use Rattle.cs_lines.specs.Shown.{following, joined, line_gap, line_groups, line_rows}
use Rattle.cs_args.specs.declared.jobs.Style.{Style}
use Rattle.cs_search.specs.Report.{MatchingLine, matches_from, match_line}
use Rattle.cs_search.specs.Styles.{form_of, options_of}

-- ---- groups with nothing between them

joined_cons : (group : List ℕ) (groups : List (List ℕ)) → joined [] (group ∷ groups) ≡ group ++ joined [] groups
joined_cons group [] = sym (append-nil group)
joined_cons group (next ∷ groups) = refl

follow_none : (groups : List (List ℕ)) → following [] false groups ≡ joined [] groups
follow_none [] = refl
follow_none (group ∷ groups) = refl

module _ (bytes : Row → List ℕ) where
  abbrev texts : List (List Row) → List (List ℕ)
  texts groups = map (λ group. flat_map bytes group) groups

  joined_if : (b : Bool) (row next : Row) (group : List Row) (groups : List (List Row)) →
      joined [] (texts (cond b ((row ∷ next ∷ group) ∷ groups) ((row ∷ []) ∷ (next ∷ group) ∷ groups)))
      ≡ bytes row ++ joined [] (texts ((next ∷ group) ∷ groups))
  joined_if true row next group groups =
      joined_cons (flat_map bytes (row ∷ next ∷ group)) (texts groups)
      ∙ append_assoc (bytes row) (flat_map bytes (next ∷ group)) (joined [] (texts groups))
      ∙ ap (λ l. bytes row ++ l) (sym (joined_cons (flat_map bytes (next ∷ group)) (texts groups)))
  joined_if false row next group groups =
      ap (λ l. l ++ joined [] (texts ((next ∷ group) ∷ groups))) (append-nil (bytes row))

  joined_with : (row : Row) (groups : List (List Row)) →
      joined [] (texts (with_row row groups)) ≡ bytes row ++ joined [] (texts groups)
  joined_with row [] = refl
  joined_with row ([] ∷ groups) =
      joined_cons (flat_map bytes (row ∷ [])) (texts groups)
      ∙ ap (λ l. l ++ joined [] (texts groups)) (append-nil (bytes row))
      ∙ ap (λ l. bytes row ++ l) (sym (joined_cons [] (texts groups)))
  joined_with row ((next ∷ group) ∷ groups) = joined_if (nat_eq next.number (row.number + 1)) row next group groups

  joined_groups : (rows : List Row) → joined [] (texts (groups_of rows)) ≡ flat_map bytes rows
  joined_groups [] = refl
  joined_groups (row ∷ rows) = joined_with row (groups_of rows) ∙ ap (λ l. bytes row ++ l) (joined_groups rows)

-- ---- the rows of the matching lines

abbrev row_of : MatchingLine → Row
row_of matching = row_at matching.0 matching.1 true

none_near : (marks : List Bool) → has_mark (take 0 marks) ≡ false
none_near [] = refl
none_near (mark ∷ marks) = refl

none_around : (earlier later : List Bool) → (has_mark (take 0 earlier) || has_mark (take 0 later)) ≡ false
none_around earlier later = ap (λ b. b || has_mark (take 0 later)) (none_near earlier) ∙ none_near later

module _ (line : List ℕ) (lines : List (List ℕ)) (marks : List Bool) (number : ℕ) (rest : List MatchingLine)
    (more : (earlier : List Bool) → rows_from (number + 1) lines marks (shown_after 0 0 earlier marks) ≡ map row_of rest) where
  rows_if : (b : Bool) (earlier : List Bool) →
      rows_from number (line ∷ lines) (cond (b && true) (true ∷ marks) (false ∷ marks))
      (shown_after 0 0 earlier (cond (b && true) (true ∷ marks) (false ∷ marks)))
      ≡ map row_of (cond b ((number, line) ∷ rest) rest)
  rows_if true earlier = ap (λ rows. row_at number line true ∷ rows) (more (true ∷ earlier))
  rows_if false earlier =
      let rows = rows_from (number + 1) lines marks (shown_after 0 0 (false ∷ earlier) marks) in
      ap (λ b. cond b (row_at number line false ∷ rows) rows) (none_around earlier marks) ∙ more (false ∷ earlier)

module _ (has_match : List ℕ → Bool) where
  abbrev marks_of : List (List ℕ) → List Bool
  marks_of lines = first_marks None (map has_match lines)

  rows_are : (lines : List (List ℕ)) (number : ℕ) (earlier : List Bool) →
      rows_from number lines (marks_of lines) (shown_after 0 0 earlier (marks_of lines)) ≡ map row_of (matches_from number has_match lines)
  unfolding matches_from
  rows_are [] number earlier = refl
  rows_are (line ∷ lines) number earlier =
      rows_if line lines (marks_of lines) number (matches_from (number + 1) has_match lines)
      (λ earlier. rows_are lines (number + 1) earlier) (has_match line) earlier

  -- how many lines match
  counted_if : (b : Bool) (count : ℕ) (matching : MatchingLine) (matches : List MatchingLine) → count ≡ length matches →
      cond b 1 0 + count ≡ length (cond b (matching ∷ matches) matches)
  counted_if true count matching matches e = omega (arith, e)
  counted_if false count matching matches e = omega (arith, e)

  pub counted : (lines : List (List ℕ)) (number : ℕ) → count_by has_match lines ≡ length (matches_from number has_match lines)
  unfolding matches_from
  counted [] number = refl
  counted (line ∷ lines) number =
      sum_by-cons (λ line. cond (has_match line) 1 0) line lines
      ∙ counted_if (has_match line) (count_by has_match lines) (number, line) (matches_from (number + 1) has_match lines)
      (counted lines (number + 1))

-- ---- lines

flat_rows : (bytes : Row → List ℕ) (output : MatchingLine → List ℕ) → ((matching : MatchingLine) → bytes (row_of matching) ≡ output matching) →
    (matches : List MatchingLine) → flat_map bytes (map row_of matches) ≡ flat_map output matches
flat_rows bytes output e [] = refl
flat_rows bytes output e (matching ∷ matches) =
    ap (λ l. l ++ flat_map bytes (map row_of matches)) (e matching) ∙ ap (λ l. output matching ++ l) (flat_rows bytes output e matches)

prefix_end : (a b c : List ℕ) → (a ++ (b ++ [])) ++ c ≡ a ++ (b ++ c)
prefix_end a b c = append_assoc a (b ++ []) c ∙ ap (λ l. a ++ (l ++ c)) (append-nil b)

bare_if : (b : Bool) (part : List ℕ) → cond (b || false) [] part ≡ cond b [] part
bare_if true part = refl
bare_if false part = refl

module _ (style : Style) (name : List ℕ) where
  abbrev bytes_of : Row → List ℕ
  bytes_of row = row_bytes (form_of style) name row []

  row_is_line : (matching : MatchingLine) → bytes_of (row_of matching) ≡ match_line style name matching
  unfolding match_line
  row_is_line matching =
      let part = cond style.number (decimal matching.0 ++ codes ":") [] in
      let end = matching.1 ++ newline ∷ [] in
      ap (λ l. (l ++ (part ++ [])) ++ end) (bare_if style.bare (name ++ codes ":"))
      ∙ prefix_end (cond style.bare [] (name ++ codes ":")) part end

  groups_are : (has_match : List ℕ → Bool) (rows : List Row) →
      line_groups (options_of style) (of_lines has_match) name rows ≡ texts bytes_of (groups_of rows)
  groups_are has_match [] = refl
  groups_are has_match (row ∷ rows) = refl

  -- the lines that are shown are those that match
  pub lines_shown : (has_match : List ℕ → Bool) (lines : List (List ℕ)) →
      following (line_gap (options_of style)) false
      (line_groups (options_of style) (of_lines has_match) name (line_rows (options_of style) (of_lines has_match) lines))
      ≡ flat_map (match_line style name) (matches_from 1 has_match lines)
  lines_shown has_match lines =
      let rows = line_rows (options_of style) (of_lines has_match) lines in
      ap (following [] false) (groups_are has_match rows)
      ∙ follow_none (texts bytes_of (groups_of rows))
      ∙ joined_groups bytes_of rows
      ∙ ap (flat_map bytes_of) (rows_are has_match lines 1 [])
      ∙ flat_rows bytes_of (match_line style name) row_is_line (matches_from 1 has_match lines)
