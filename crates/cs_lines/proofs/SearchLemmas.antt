-- A search of a block: the lines up to a marked one, and that one.
use Rattle.std.proofs.Common.{◌≡◌, ℕ, ◌+◌, ◌-◌, ◌≤◌, Bool, true, ◌&&◌, List, [], ◌∷◌, ◌++◌, length, take, drop, Option, sym, ap, ◌∙◌, arith, append_assoc}
use Rattle.std.proofs.lemmas.List.{drop-take, take-take, length-take-le}
use Rattle.cs_match.specs.Lines.{terminated_lines}
use Rattle.cs_match.specs.Skipping.{IsLineAfter}
use Rattle.cs_lines.specs.Contexts.{Row, row_at, is_open, one_less}
use Rattle.cs_lines.specs.Scans.{Fits, NoneMarked, rows_at, last_rows, scan_rows}
use Rattle.cs_lines.specs.Spacing.{Progress, printed}
use Rattle.cs_lines.proofs.BlockLemmas.{lines_from, line_here}
use Rattle.cs_lines.proofs.ScanLemmas.{scan_at, scan_unmarked, scan_marked}
use Rattle.cs_lines.proofs.SpacingLemmas.{printed_append}

module _ (opening gap : List ℕ) (bytes : Row → List ℕ) (before after : ℕ) (is_wanted : List ℕ → Bool) (most : Option ℕ) where
  abbrev print : Progress → List Row → Progress
  print p rows = printed opening gap bytes p rows

  abbrev scanned : ℕ → ℕ → List (List ℕ) → List (List ℕ) → List Row
  scanned number left held lines = scan_rows before after is_wanted (scan_at before after is_wanted number most left) held lines

  module _ (lines later held now : List (List ℕ)) (number left next less : ℕ) (fits : Fits held left) (none : NoneMarked is_wanted most lines)
      (number-is : next ≡ number + length (take left lines)) (left-is : less ≡ left - length (take left lines))
      (held-is : now ≡ held ++ drop left lines) where
    pub pass_rows : scanned number left held (lines ++ later) ≡ rows_at number (take left lines) ++ scanned next less now later
    pass_rows =
        scan_unmarked before after is_wanted most later lines number left held fits none
        ∙ ap (λ n. rows_at number (take left lines) ++ scanned n (left - length (take left lines)) (held ++ drop left lines) later) (sym number-is)
        ∙ ap (λ l. rows_at number (take left lines) ++ scanned next l (held ++ drop left lines) later) (sym left-is)
        ∙ ap (λ (h : List (List ℕ)). rows_at number (take left lines) ++ scanned next less h later) (sym held-is)

    -- lines that are not marked
    pub pass_step : (p q : Progress) → q ≡ print p (rows_at number (take left lines)) →
        print p (scanned number left held (lines ++ later)) ≡ print q (scanned next less now later)
    pass_step p q is =
        ap (print p) pass_rows
        ∙ printed_append opening gap bytes (rows_at number (take left lines)) (scanned next less now later) p
        ∙ ap (λ r. print r (scanned next less now later)) (sym is)

  -- a marked line
  pub mark_step : (line : List ℕ) (later held : List (List ℕ)) (number left : ℕ) (p q : Progress) → (is_wanted line && is_open most) ≡ true →
      q ≡ print p (last_rows before number held ++ row_at (number + length held) line true ∷ []) →
      print p (scanned number left held (line ∷ later))
      ≡ print q (scan_rows before after is_wanted (scan_at before after is_wanted (number + length held + 1) (one_less most) after) [] later)
  mark_step line later held number left p q marked is =
      let last = last_rows before number held in
      let row = row_at (number + length held) line true in
      let rest = scan_rows before after is_wanted (scan_at before after is_wanted (number + length held + 1) (one_less most) after) [] later in
      ap (print p) (scan_marked before after is_wanted line later number left most held marked ∙ sym (append_assoc last (row ∷ []) rest))
      ∙ printed_append opening gap bytes (last ++ row ∷ []) rest p
      ∙ ap (λ r. print r rest) (sym is)

-- parts of a block that ends at `start`
module _ (block : List ℕ) (start : ℕ) (within : start ≤ length block) where
  pub cut_size : length (take start block) ≡ start
  cut_size = length-take-le start block within

  pub cut_rest : (at : ℕ) → at ≤ start → drop at (take start block) ≡ take (start - at) (drop at block)
  cut_rest at low =
      let split : start ≡ at + (start - at) = omega arith in
      ap (λ n. drop at (take n block)) split ∙ drop-take at (start - at) block

  pub cut_part : (from to : ℕ) → from ≤ to → to ≤ start → take (to - from) (drop from (take start block)) ≡ take (to - from) (drop from block)
  cut_part from to low high =
      ap (λ text. take (to - from) text) (cut_rest from (omega arith))
      ∙ take-take (to - from) (start - from) (drop from block) (omega arith)

-- a line after others
module _ (block : List ℕ) (from start end : ℕ) (line : IsLineAfter block from start end) where
  pub lines_to : terminated_lines (drop from block) ≡ terminated_lines (take (start - from) (drop from block))
      ++ take (end - start) (drop start block) ∷ terminated_lines (drop (end + 1) block)
  lines_to =
      lines_from block from start line.low line.before
      ∙ ap (λ (ls : List (List ℕ)). terminated_lines (take (start - from) (drop from block)) ++ ls) (line_here block start end line.order line.part line.newline)
