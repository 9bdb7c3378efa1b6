-- Where numbers do not matter, rows print the same with any numbers.
use Rattle.std.proofs.Common.{◌≡◌, ℕ, ◌+◌, ◌-◌, Bool, true, false, ◌||◌, ◌&&◌, cond, nat_eq, nat_lt, not, if◌then◌else◌, List, [], ◌∷◌, ◌++◌, length, drop, codes, decimal, slice_range, Option, Some, None, refl, sym, ap, ◌∙◌, arith, append_assoc, length-drop}
use Rattle.std.specs.List.{flat_map}
use Rattle.std.proofs.lemmas.Bool.{false≢true}
use Rattle.std.proofs.lemmas.Bool.Decides.{nat_tests}
use Rattle.std.proofs.lemmas.Grind.{common_steps}
use Rattle.cs_match.specs.Lines.{newline}
use Rattle.cs_lines.specs.Contexts.{Row, row_at, is_open, one_less}
use Rattle.cs_lines.specs.Findings.{Finding}
use Rattle.cs_lines.specs.Forms.{Span, column_part, dyed, first_column, is_filled, marked_bytes, match_bytes, name_part, number_part, painted, prefix_of, row_bytes, separated, whole_bytes}
use Rattle.cs_lines.specs.Printing.{needs_spans}
use Rattle.cs_lines.specs.Scans.{PrintsAlike, Scan, last_rows, rows_at, scan_of, scan_rows}
use Rattle.cs_lines.specs.Shown.{gap, is_wanted, shown_bytes}
use Rattle.cs_lines.specs.Spacing.{Progress, before_row, has_numbers, is_plain, opening_of, printed, printed_by, progress_of, seen}
use Rattle.cs_lines.specs.declared.form.ShowOptions.{ShowOptions}
use Rattle.cs_lines.specs.declared.rows.Page.{Page}
use Rattle.cs_lines.specs.declared.rows.Rows.{Rows}
use Rattle.cs_lines.proofs.ScanLemmas.{scan_at, scan_marked}
use Rattle.cs_lines.proofs.SpacingLemmas.{printed_append}

-- ---- rows with the same lines and marks

abbrev pub Alike : List Row → List Row → Type 0
Alike [] [] = Unit {0}
Alike [] (y ∷ ys) = ⊥
Alike (x ∷ xs) [] = ⊥
Alike (x ∷ xs) (y ∷ ys) = (x.line ≡ y.line) × (x.marked ≡ y.marked) × Alike xs ys

pub alike_append : (a b c d : List Row) → Alike a b → Alike c d → Alike (a ++ c) (b ++ d)
alike_append [] [] c d h k = k
alike_append [] (y ∷ b) c d h k = absurd h
alike_append (x ∷ a) [] c d h k = absurd h
alike_append (x ∷ a) (y ∷ b) c d h k = (h.0, h.1, alike_append a b c d h.2 k)

pub alike_at : (n m : ℕ) (lines : List (List ℕ)) → Alike (rows_at n lines) (rows_at m lines)
alike_at n m [] = tt
alike_at n m (line ∷ lines) = (refl, refl, alike_at (n + 1) (m + 1) lines)

module _ (before after : ℕ) (wanted : List ℕ → Bool) where
  abbrev scanned : ℕ → Option ℕ → ℕ → List (List ℕ) → List (List ℕ) → List Row
  scanned number most left held lines = scan_rows before after wanted (scan_at before after wanted number most left) held lines

  abbrev at_mark : ℕ → Option ℕ → List (List ℕ) → List (List ℕ) → List ℕ → List Row
  at_mark k most held lines line =
      last_rows before k held ++ row_at (k + length held) line true ∷ scanned (k + length held + 1) (one_less most) after [] lines

  abbrev at_miss : ℕ → Option ℕ → ℕ → List (List ℕ) → List (List ℕ) → List ℕ → Bool → List Row
  at_miss k most left held lines line s =
      cond s (row_at k line false ∷ scanned (k + 1) most (left - 1) held lines) (scanned k most left (held ++ line ∷ []) lines)

  pub alike_scan : (lines : List (List ℕ)) (n m left : ℕ) (most : Option ℕ) (held : List (List ℕ)) →
      Alike (scanned n most left held lines) (scanned m most left held lines)
  alike_scan [] n m left most held = tt
  alike_scan (line ∷ lines) n m left most held = by_mark (alike_scan lines) (wanted line && is_open most)
    where
      by_left : ((n m left : ℕ) (most : Option ℕ) (held : List (List ℕ)) → Alike (scanned n most left held lines) (scanned m most left held lines)) →
          (s : Bool) → Alike (at_miss n most left held lines line s) (at_miss m most left held lines line s)
      by_left more true = (refl, refl, more (n + 1) (m + 1) (left - 1) most held)
      by_left more false = more n m left most (held ++ line ∷ [])

      by_mark : ((n m left : ℕ) (most : Option ℕ) (held : List (List ℕ)) → Alike (scanned n most left held lines) (scanned m most left held lines)) →
          (b : Bool) → Alike (cond b (at_mark n most held lines line) (at_miss n most left held lines line (nat_lt 0 left)))
          (cond b (at_mark m most held lines line) (at_miss m most left held lines line (nat_lt 0 left)))
      by_mark more true =
          let k = length held - before in
          alike_append (last_rows before n held) (last_rows before m held) _ _ (alike_at (n + k) (m + k) (drop k held))
          (refl, refl, more (n + length held + 1) (m + length held + 1) after (one_less most) [])
      by_mark more false = by_left more (nat_lt 0 left)

-- ---- what they print

neither : (a b : Bool) → (a || b) ≡ false → (a ≡ false) × (b ≡ false)
neither true b e = absurd (false≢true (sym e))
neither false b e = (refl, e)

module _ (options : ShowOptions) (finding : Finding) (name : List ℕ) (none : has_numbers options ≡ false) where
  off : (options.form.number ≡ false) × (nat_lt 0 (options.before + options.after) ≡ false)
  off = neither options.form.number (nat_lt 0 (options.before + options.after)) none

  no_gap : gap options ≡ []
  no_gap = ap (λ (b : Bool). if b then dyed options.form (codes "36") (codes "--") ++ newline ∷ [] else []) off.1

  module _ (n m : ℕ) (line : List ℕ) where
    prefix_same : (marked : Bool) (column : Option ℕ) →
        prefix_of options.form name (row_at n line marked) column ≡ prefix_of options.form name (row_at m line marked) column
    prefix_same marked column =
        let form = options.form in
        ap (λ (b : Bool). name_part form name marked
        ++ ((if b then separated form marked (codes "32") (decimal n) else []) ++ column_part form marked column)) off.0
        ∙ sym (ap (λ (b : Bool). name_part form name marked
        ++ ((if b then separated form marked (codes "32") (decimal m) else []) ++ column_part form marked column)) off.0)

    match_same : (spans : List Span) (span : Span) →
        match_bytes options.form name (row_at n line true) spans span ≡ match_bytes options.form name (row_at m line true) spans span
    match_same spans span =
        let form = options.form in
        ap (λ (p : List ℕ). if form.only
        then (if is_filled span then p ++ (dyed form (codes "1;31") (slice_range line span.0 span.1) ++ newline ∷ []) else [])
        else p ++ (painted form line spans ++ newline ∷ [])) (prefix_same true (Some (span.0 + 1)))

    matches_same : (spans rest : List Span) → flat_map (match_bytes options.form name (row_at n line true) spans) rest
        ≡ flat_map (match_bytes options.form name (row_at m line true) spans) rest
    matches_same spans [] = refl
    matches_same spans (span ∷ rest) =
        let old = match_bytes options.form name (row_at n line true) spans in
        let new = match_bytes options.form name (row_at m line true) spans in
        ap (λ (b : List ℕ). b ++ flat_map old rest) (match_same spans span) ∙ ap (λ (r : List ℕ). new span ++ r) (matches_same spans rest)

    whole_same : (spans : List Span) → whole_bytes options.form name (row_at n line true) spans ≡ whole_bytes options.form name (row_at m line true) spans
    whole_same spans = ap (λ (p : List ℕ). p ++ (painted options.form line spans ++ newline ∷ [])) (prefix_same true (first_column spans))

    marked_same : (spans : List Span) → marked_bytes options.form name (row_at n line true) spans ≡ marked_bytes options.form name (row_at m line true) spans
    marked_same [] = whole_same []
    marked_same (span ∷ spans) =
        let form = options.form in
        let each = form.only || form.each in
        let all = span ∷ spans in
        ap (λ (l : List ℕ). if each then l else whole_bytes form name (row_at n line true) all) (matches_same all all)
        ∙ ap (λ (l : List ℕ). if each then flat_map (match_bytes form name (row_at m line true) all) all else l) (whole_same all)

    bytes_at : (marked : Bool) → shown_bytes options finding name (row_at n line marked) ≡ shown_bytes options finding name (row_at m line marked)
    bytes_at true = marked_same (finding.spans line)
    bytes_at false = ap (λ (p : List ℕ). p ++ (line ++ newline ∷ [])) (prefix_same false None)

  bytes_same : (x y : Row) → x.line ≡ y.line → x.marked ≡ y.marked → shown_bytes options finding name x ≡ shown_bytes options finding name y
  bytes_same x y l k =
      bytes_at x.number y.number x.line x.marked
      ∙ ap (λ (line : List ℕ). shown_bytes options finding name (row_at y.number line x.marked)) l
      ∙ ap (λ (marked : Bool). shown_bytes options finding name (row_at y.number y.line marked)) k

  module _ (opening : List ℕ) where
    before_same : (shown : Bool) (n k m l : ℕ) → before_row opening (gap options) shown n k ≡ before_row opening (gap options) shown m l
    before_same false n k m l = refl
    before_same true n k m l = empty (nat_eq k n) ∙ sym (empty (nat_eq l m))
      where
        empty : (b : Bool) → (if b then [] else gap options) ≡ []
        empty true = refl
        empty false = no_gap

    abbrev print : Progress → List Row → Progress
    print p rows = printed opening (gap options) (shown_bytes options finding name) p rows

    pub print_alike : (rows rows' : List Row) (p q : Progress) → seen p ≡ seen q → Alike rows rows' → seen (print p rows) ≡ seen (print q rows')
    print_alike [] [] p q e h = e
    print_alike [] (y ∷ ys) p q e h = absurd h
    print_alike (x ∷ xs) [] p q e h = absurd h
    print_alike (x ∷ xs) (y ∷ ys) p q e h = print_alike xs ys _ _ (ap (λ (g : List ℕ). (g, true)) next) h.2
      where
        next : p.given ++ (before_row opening (gap options) p.shown p.next x.number ++ shown_bytes options finding name x)
            ≡ q.given ++ (before_row opening (gap options) q.shown q.next y.number ++ shown_bytes options finding name y)
        next =
            ap (λ (s : List ℕ × Bool). s.0 ++ (before_row opening (gap options) s.1 p.next x.number ++ shown_bytes options finding name x)) e
            ∙ ap (λ (b : List ℕ). q.given ++ (b ++ shown_bytes options finding name x)) (before_same q.shown p.next x.number q.next y.number)
            ∙ ap (λ (b : List ℕ). q.given ++ (before_row opening (gap options) q.shown q.next y.number ++ b)) (bytes_same x y h.0 h.1)

-- the same rows, or rows with other numbers where these do not matter
pub alike_by : (page : Page) (finding : Finding) (rows rows' : List Row) (p : Progress) → (has_numbers page.options.now ≡ true → rows ≡ rows') →
    Alike rows rows' → seen (printed_by page finding p rows) ≡ seen (printed_by page finding p rows')
alike_by page finding rows rows' p same alike = by (has_numbers page.options.now) refl
  where
    by : (b : Bool) → has_numbers page.options.now ≡ b → seen (printed_by page finding p rows) ≡ seen (printed_by page finding p rows')
    by true e = ap (λ (rs : List Row). seen (printed_by page finding p rs)) (same e)
    by false e = print_alike page.options.now finding page.name.now e (opening_of page) rows rows' p p refl alike

-- a plain row has no lines around it, and no spans
pub plain_alone : (options : ShowOptions) → is_plain options ≡ true →
    (options.before ≡ 0) × (options.after ≡ 0) × (needs_spans options.form ≡ false)
plain_alone options plain =
    let e = neither (nat_lt 0 (options.before + options.after)) (needs_spans options.form) (not_true _ plain) in
    (grind (arith, nat_tests, e.0), grind (arith, nat_tests, e.0), e.1)
  where
    not_true : (b : Bool) → not b ≡ true → b ≡ false
    not_true true e = sym e
    not_true false e = refl

-- a marked line in a plain row
pub plain_row : (options : ShowOptions) (finding : Finding) (name : List ℕ) (n : ℕ) (line : List ℕ) → needs_spans options.form ≡ false →
    shown_bytes options finding name (row_at n line true)
    ≡ name_part options.form name true ++ (number_part options.form n true ++ (line ++ newline ∷ []))
plain_row options finding name n line plain = by (finding.spans line)
  where
    by : (spans : List Span) → row_bytes options.form name (row_at n line true) spans
        ≡ name_part options.form name true ++ (number_part options.form n true ++ (line ++ newline ∷ []))
    by [] = grind (arith, common_steps, plain)
    by (span ∷ spans) = grind (arith, common_steps, plain)

-- before a plain row nothing is printed but what is before the first one
pub plain_before : (options : ShowOptions) (opening : List ℕ) (shown : Bool) (next n : ℕ) → (options.before ≡ 0) × (options.after ≡ 0) →
    before_row opening (gap options) shown next n ≡ (if shown then [] else opening)
plain_before options opening false next n alone = refl
plain_before options opening true next n alone = by (nat_eq n next) (grind (arith, nat_tests, alone.0, alone.1))
  where
    by : (same : Bool) → gap options ≡ [] → (if same then [] else gap options) ≡ []
    by true none = refl
    by false none = none

-- a marked line after held ones; the first one that is shown has the number n
module _ (old new : Rows) (given given' : List ℕ) (finding : Finding) (held more : List (List ℕ)) (line : List ℕ) (n : ℕ) where
  abbrev options : ShowOptions
  options = old.page.options.now

  abbrev k : ℕ
  k = length held - options.before

  abbrev last : List (List ℕ)
  last = drop k held

  abbrev shown : List Row
  shown = rows_at n last ++ row_at (n + length last) line true ∷ []

  abbrev next : Scan
  next = record { number = n + length last + 1; most = one_less old.most; left = options.after }

  pub mark_alike : (has_numbers options ≡ true → n ≡ old.number + k) → (is_wanted options finding.has_match line && is_open old.most) ≡ true →
      new.page ≡ old.page → scan_of new ≡ next → progress_of new given' ≡ printed_by old.page finding (progress_of old given) shown →
      PrintsAlike old new given given' finding held (line ∷ more) [] more
  mark_alike exact marked page scan is =
      let wanted = is_wanted options finding.has_match in
      let p = progress_of old given in
      let row = row_at (n + length last) line true in
      let rest = scan_rows options.before options.after wanted next [] more in
      let first = last_rows options.before old.number held in
      let size : length last ≡ length held - k = length-drop k held in
      ap (λ (rs : List Row). seen (printed_by old.page finding p rs))
      (scan_marked options.before options.after wanted line more old.number old.left old.most held marked)
      ∙ alike_by old.page finding _ (rows_at n last ++ row ∷ rest) p
      (λ numbers.
      let at : old.number + k ≡ n = sym (exact numbers) in
      let end : old.number + length held ≡ n + length last = omega (arith, size, exact numbers) in
      ap (λ (i : ℕ). rows_at i last ++ row_at (old.number + length held) line true
      ∷ scan_rows options.before options.after wanted (scan_at options.before options.after wanted (old.number + length held + 1) (one_less old.most) options.after) [] more) at
      ∙ ap (λ (i : ℕ). rows_at n last ++ row_at i line true
      ∷ scan_rows options.before options.after wanted (scan_at options.before options.after wanted (i + 1) (one_less old.most) options.after) [] more) end)
      (alike_append first (rows_at n last) _ _ (alike_at (old.number + k) n last)
      (refl, refl, alike_scan options.before options.after wanted more (old.number + length held + 1) (n + length last + 1) options.after (one_less old.most) []))
      ∙ ap (λ (rs : List Row). seen (printed_by old.page finding p rs)) (sym (append_assoc (rows_at n last) (row ∷ []) rest))
      ∙ ap seen (printed_append (opening_of old.page) (gap options) (shown_bytes options finding old.page.name.now) shown rest p)
      ∙ ap (λ (q : Progress). seen (printed_by old.page finding q rest)) (sym is)
      ∙ ap (λ (s : Scan). seen (printed_by old.page finding (progress_of new given') (scan_rows options.before options.after wanted s [] more))) (sym scan)
      ∙ ap (λ (page : Page). seen (printed_by page finding (progress_of new given') (scan_rows page.options.now.before page.options.now.after
      (is_wanted page.options.now finding.has_match) (scan_of new) [] more))) (sym page)
