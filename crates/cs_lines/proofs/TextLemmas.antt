-- The groups of a text are its rows one after another, with what is printed before each.
use Rattle.std.proofs.Common.{◌≡◌, ℕ, Bool, true, false, not, ◌&&◌, cond, if◌then◌else◌, List, [], ◌∷◌, ◌++◌, take, drop, map, refl, sym, ap, ◌∙◌, append_assoc, append-nil}
use Rattle.std.specs.List.{flat_map}
use Rattle.cs_match.specs.Lines.{newline, lines, terminated_lines}
use Rattle.cs_match.specs.LastPart.{last_line, last_part}
use Rattle.cs_match.specs.NoNewline.{HasNoNewline}
use Rattle.cs_match.specs.Skipping.{AreWholeLines}
use Rattle.cs_match.proofs.LinesLemmas.{lines-split}
use Rattle.cs_match.proofs.WholeLineLemmas.{ended_all, rest_is_last}
use Rattle.cs_lines.specs.Contexts.{Row, groups_of}
use Rattle.cs_lines.specs.Findings.{Finding}
use Rattle.cs_lines.specs.Shown.{following, has_groups, joined, line_gap, gap, heading, name_bytes, line_groups, shown_bytes}
use Rattle.cs_lines.specs.Spacing.{Progress, spaced, printed}
use Rattle.cs_lines.specs.declared.form.ShowOptions.{ShowOptions}
use Rattle.cs_lines.proofs.SpacingLemmas.{Begins, begins, joined_rows}

-- the lines of a text, by the length of those that have ended
pub lines_are : (text : List ℕ) (end : ℕ) → AreWholeLines (take end text) → HasNoNewline (drop end text) →
    lines text ≡ terminated_lines (take end text) ++ last_line (drop end text)
lines_are text end whole part =
    lines-split text
    ∙ ap (λ (ls : List (List ℕ)). ls ++ last_line (last_part text)) (ended_all text end whole part)
    ∙ ap (λ rest. terminated_lines (take end text) ++ last_line rest) (sym (rest_is_last text end whole part))

-- whether a row is shown
abbrev pub has_rows : List Row → Bool
has_rows [] = false
has_rows (row ∷ rows) = true

module _ (options : ShowOptions) (finding : Finding) (name : List ℕ) where
  abbrev bytes : Row → List ℕ
  bytes row = shown_bytes options finding name row

  abbrev texts : List (List Row) → List (List ℕ)
  texts groups = map (λ group. flat_map bytes group) groups

  abbrev before : Bool → List ℕ → List ℕ
  before begun between = if begun then between else []

  follow_first : (row : Row) (groups : List (List Row)) (begun : Bool) → Begins row groups →
      following (gap options) begun (texts groups) ≡ before begun (gap options) ++ joined (gap options) (texts groups)
  follow_first row groups begun b =
      ap (λ (gs : List (List Row)). following (gap options) begun (texts gs)) b.2
      ∙ ap (λ (gs : List (List Row)). before begun (gap options) ++ joined (gap options) (texts gs)) (sym b.2)

  has_first : (row : Row) (groups : List (List Row)) → Begins row groups → has_groups (texts groups) ≡ true
  has_first row groups b = ap (λ (gs : List (List Row)). has_groups (texts gs)) b.2

  -- the name above the lines
  abbrev title : Bool → Bool → List ℕ
  title above bare = cond (above && not bare) (name_bytes options name (newline ∷ [])) []

  by_heading : (t bare begun : Bool) (row : Row) (rows : List Row) (rest : List ℕ) → joined (gap options) (texts (groups_of (row ∷ rows))) ≡ rest →
      following (cond t (newline ∷ []) (gap options)) begun
      (cond t ((title t bare ++ joined (gap options) (texts (groups_of (row ∷ rows)))) ∷ []) (texts (groups_of (row ∷ rows))))
      ≡ (before begun (cond t (newline ∷ []) (gap options)) ++ title t bare) ++ rest
  by_heading true bare begun row rows rest is =
      ap (λ r. before begun (newline ∷ []) ++ (title true bare ++ r)) is
      ∙ sym (append_assoc (before begun (newline ∷ [])) (title true bare) rest)
  by_heading false bare begun row rows rest is =
      follow_first row (groups_of (row ∷ rows)) begun (begins row (groups_of rows))
      ∙ ap (λ r. before begun (gap options) ++ r) is
      ∙ ap (λ r. r ++ rest) (sym (append-nil (before begun (gap options))))

  pub follows : (rows : List Row) (begun : Bool) → following (line_gap options) begun (line_groups options finding name rows)
      ≡ spaced (before begun (line_gap options) ++ heading options name) (gap options) (λ row. shown_bytes options finding name row) false 1 rows
  follows [] begun = refl
  follows (row ∷ rows) begun = by_heading options.form.heading options.form.bare begun row rows _ (joined_rows (before begun (line_gap options) ++ heading options name) (gap options) bytes row rows)

  pub has_by : (rows : List Row) → has_groups (line_groups options finding name rows) ≡ has_rows rows
  has_by [] = refl
  has_by (row ∷ rows) = by_above options.form.heading (heading options name ++ joined (gap options) (texts (groups_of (row ∷ rows))))
    where
      by_above : (t : Bool) (group : List ℕ) → has_groups (cond t (group ∷ []) (texts (groups_of (row ∷ rows)))) ≡ true
      by_above true group = refl
      by_above false group = has_first row (groups_of (row ∷ rows)) (begins row (groups_of rows))

  pub shown_true : (opening gap : List ℕ) (rows : List Row) (p : Progress) → p.shown ≡ true → (printed opening gap bytes p rows).shown ≡ true
  shown_true opening gap [] p is = is
  shown_true opening gap (row ∷ rows) p is = shown_true opening gap rows _ refl

  pub shown_is : (opening gap' : List ℕ) (rows : List Row) (p : Progress) → p.shown ≡ false →
      (printed opening gap' bytes p rows).shown ≡ has_rows rows
  shown_is opening gap' [] p is = is
  shown_is opening gap' (row ∷ rows) p is = shown_true opening gap' rows _ refl
