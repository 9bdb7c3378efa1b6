-- Lines of a text are shown if and only if one is marked.
use Rattle.std.proofs.Common.{◌≡◌, ℕ, ◌+◌, Bool, true, false, ◌&&◌, cond, nat_lt, List, [], ◌∷◌, ◌++◌, length, Option, None, Some, refl, sym, ap, ◌∙◌, arith}
use Rattle.std.proofs.lemmas.Bool.Decides.{nat_tests}
use Rattle.std.proofs.lemmas.Bool.{false≢true}
use Rattle.std.proofs.lemmas.List.Sums.{sum_by-cons}
use Rattle.std.specs.List.{count_by}
use Rattle.cs_match.specs.Lines.{lines}
use Rattle.cs_lines.specs.Contexts.{Row, row_at, is_open, one_less}
use Rattle.cs_lines.specs.Findings.{Finding}
use Rattle.cs_lines.specs.Scans.{last_rows, scan_rows}
use Rattle.cs_lines.specs.Printed.{marked_of}
use Rattle.cs_lines.specs.Shown.{at_most, line_rows, text_rows, count_of, is_wanted}
use Rattle.cs_lines.specs.declared.form.ShowOptions.{ShowOptions}
use Rattle.cs_lines.proofs.ScanLemmas.{scan_at, rows_are_scanned}
use Rattle.cs_lines.proofs.TextLemmas.{has_rows}

has_after : (a : List Row) (row : Row) (b : List Row) → has_rows (a ++ row ∷ b) ≡ true
has_after [] row b = refl
has_after (first ∷ a) row b = refl

open_some : (most : Option ℕ) (n : ℕ) → is_open most ≡ true → nat_lt 0 (at_most most (1 + n)) ≡ true
open_some None n e = grind (arith, nat_tests)
open_some (Some most) n e = grind (arith, nat_tests, e)

closed : (most : Option ℕ) (n : ℕ) → is_open most ≡ false → at_most most n ≡ 0
closed None n e = absurd (false≢true (sym e))
closed (Some most) n e = grind (arith, nat_tests, e)

none : (most : Option ℕ) → nat_lt 0 (at_most most 0) ≡ false
none None = refl
none (Some most) = grind (arith, nat_tests)

module _ (before after : ℕ) (test : List ℕ → Bool) where
  abbrev scanned : Option ℕ → ℕ → List (List ℕ) → List (List ℕ) → List Row
  scanned most number held lines = scan_rows before after test (scan_at before after test number most 0) held lines

  abbrev Agrees : List (List ℕ) → Type 0
  Agrees lines = (most : Option ℕ) (number : ℕ) (held : List (List ℕ)) →
      has_rows (scanned most number held lines) ≡ nat_lt 0 (at_most most (count_by test lines))

  module _ (line : List ℕ) (lines : List (List ℕ)) (more : Agrees lines) (most : Option ℕ) (number : ℕ) (held : List (List ℕ)) where
    abbrev marked : List Row
    marked =
        last_rows before number held ++ row_at (number + length held) line true
        ∷ scan_rows before after test (scan_at before after test (number + length held + 1) (one_less most) after) [] lines

    by_tests : (t o : Bool) → is_open most ≡ o →
        has_rows (cond (t && o) marked (scanned most number (held ++ line ∷ []) lines))
        ≡ nat_lt 0 (at_most most (cond t 1 0 + count_by test lines))
    by_tests true true e =
        has_after (last_rows before number held) (row_at (number + length held) line true) _
        ∙ sym (open_some most (count_by test lines) e)
    by_tests true false e =
        more most number (held ++ line ∷ [])
        ∙ ap (nat_lt 0) (closed most (count_by test lines) e ∙ sym (closed most (1 + count_by test lines) e))
    by_tests false o e =
        let same : count_by test lines ≡ 0 + count_by test lines = omega arith in
        more most number (held ++ line ∷ []) ∙ ap (λ n. nat_lt 0 (at_most most n)) same

  pub some_shown : (lines : List (List ℕ)) → Agrees lines
  some_shown [] most number held = sym (none most)
  some_shown (line ∷ lines) most number held =
      by_tests line lines (some_shown lines) most number held (test line) (is_open most) refl
      ∙ ap (λ n. nat_lt 0 (at_most most n)) (sym (sum_by-cons (λ line. cond (test line) 1 0) line lines))

module _ (options : ShowOptions) (finding : Finding) where
  pub lines_if_marked : (lines : List (List ℕ)) → has_rows (line_rows options finding lines) ≡ nat_lt 0 (marked_of options finding lines)
  lines_if_marked lines =
      let wanted = is_wanted options finding.has_match in
      ap has_rows (rows_are_scanned options.before options.after wanted options.most lines)
      ∙ some_shown options.before options.after wanted lines options.most 1 []

  pub rows_if_marked : (text : List ℕ) → has_rows (text_rows options finding text) ≡ nat_lt 0 (count_of options finding text)
  rows_if_marked text = lines_if_marked (lines text)
