-- The rows of a text by its marks are those that a scan shows, line by line.
use Rattle.std.proofs.Common.{◌≡◌, ℕ, zero, suc, ◌+◌, ◌-◌, ◌<◌, Bool, true, false, ◌||◌, ◌&&◌, cond, nat_lt, List, [], ◌∷◌, ◌++◌, length, take, drop, map, Option, refl, sym, ap, subst, ◌∙◌, arith, append_assoc, append-nil}
use Rattle.std.proofs.lemmas.Bool.Decides.{nat_tests}
use Rattle.cs_lines.specs.Contexts.{Row, row_at, is_open, one_less, first_marks, has_mark, shown_after, rows_from, rows_of}
use Rattle.cs_lines.specs.Scans.{Scan, Fits, rows_at, last_rows, scan_rows, NoneMarked}

-- lines that are not marked
abbrev blanks_of : List (List ℕ) → List Bool
blanks_of [] = []
blanks_of (line ∷ lines) = false ∷ blanks_of lines

blanks_more : (held : List (List ℕ)) (line : List ℕ) (marks : List Bool) →
    blanks_of (held ++ line ∷ []) ++ marks ≡ blanks_of held ++ false ∷ marks
blanks_more [] line marks = refl
blanks_more (first ∷ held) line marks = ap (λ (ms : List Bool). false ∷ ms) (blanks_more held line marks)

no_mark : (n : ℕ) → has_mark (take n []) ≡ false
no_mark zero = refl
no_mark (suc n) = refl

-- a mark that comes after these lines is among the next `n` if they are fewer
mark_ahead : (n : ℕ) (held : List (List ℕ)) (marks : List Bool) → has_mark (take n (blanks_of held ++ true ∷ marks)) ≡ nat_lt (length held) n
mark_ahead zero held marks = grind (arith, nat_tests)
mark_ahead (suc n) [] marks = grind (arith, nat_tests)
mark_ahead (suc n) (line ∷ held) marks = mark_ahead n held marks ∙ grind (arith, nat_tests)

none_ahead : (n : ℕ) (held : List (List ℕ)) → has_mark (take n (blanks_of held ++ [])) ≡ false
none_ahead zero held = refl
none_ahead (suc n) [] = refl
none_ahead (suc n) (line ∷ held) = none_ahead n held

pub scan_same : (a b : Scan) → a.number ≡ b.number → a.most ≡ b.most → a.left ≡ b.left → a ≡ b
scan_same a b number most left =
    ap (λ n. let s : Scan = record { number = n; most = a.most; left = a.left } in s) number
    ∙ ap (λ m. let s : Scan = record { number = b.number; most = m; left = a.left } in s) most
    ∙ ap (λ l. let s : Scan = record { number = b.number; most = b.most; left = l } in s) left

pub fits_some : (held : List (List ℕ)) (left : ℕ) → Fits held left → 0 < left → held ≡ []
fits_some [] left fits some = refl
fits_some (line ∷ held) left fits some = let wrong : ⊥ = omega (arith, fits, some) in absurd wrong

pub fits_none : (held : List (List ℕ)) → Fits held 0
fits_none [] = tt
fits_none (line ∷ held) = refl

module _ (before after : ℕ) where
  -- a mark is among the lines before so that the next `left` lines are shown
  abbrev Reach : List Bool → ℕ → Type 0
  Reach earlier left = (j : ℕ) → has_mark (take (after - j) earlier) ≡ nat_lt j left

  reach_now : (earlier : List Bool) (left : ℕ) → Reach earlier left → has_mark (take after earlier) ≡ nat_lt 0 left
  reach_now earlier left h = let e : after ≡ after - 0 = omega arith in ap (λ n. has_mark (take n earlier)) e ∙ h 0

  reach_none : Reach [] 0
  reach_none j = no_mark (after - j) ∙ grind (arith, nat_tests)

  less_by : (earlier : List Bool) (left j n : ℕ) → Reach earlier left → n ≡ after - j →
      has_mark (take n (false ∷ earlier)) ≡ nat_lt j (left - 1)
  less_by earlier left j zero h e =
      let f : false ≡ nat_lt j left = ap (λ n. has_mark (take n earlier)) e ∙ h j in grind (arith, nat_tests)
  less_by earlier left j (suc n) h e =
      let next : n ≡ after - (j + 1) = omega arith in
      ap (λ n. has_mark (take n earlier)) next ∙ h (j + 1) ∙ grind (arith, nat_tests)

  reach_less : (earlier : List Bool) (left : ℕ) → Reach earlier left → Reach (false ∷ earlier) (left - 1)
  reach_less earlier left h j = less_by earlier left j (after - j) h refl

  first_by : (earlier : List Bool) (j n : ℕ) → n ≡ after - j → has_mark (take n (true ∷ earlier)) ≡ nat_lt j after
  first_by earlier j zero e = grind (arith, nat_tests)
  first_by earlier j (suc n) e = grind (arith, nat_tests)

  reach_first : (earlier : List Bool) → Reach (true ∷ earlier) after
  reach_first earlier j = first_by earlier j (after - j) refl

  -- the rows of lines by their marks, after other lines
  abbrev by_marks : ℕ → List (List ℕ) → List Bool → List Bool → List Row
  by_marks number lines marks earlier = rows_from number lines marks (shown_after before after earlier marks)

  -- held lines with no mark after them are not shown
  held_never : (held : List (List ℕ)) (number : ℕ) (earlier : List Bool) → Reach earlier 0 →
      by_marks number (held ++ []) (blanks_of held ++ []) earlier ≡ []
  held_never [] number earlier h = refl
  held_never (line ∷ held) number earlier h =
      let rest = by_marks (number + 1) (held ++ []) (blanks_of held ++ []) (false ∷ earlier) in
      let here : (has_mark (take after earlier) || has_mark (take before (blanks_of held ++ []))) ≡ false =
      ap (λ b. b || has_mark (take before (blanks_of held ++ []))) (reach_now earlier 0 h) ∙ none_ahead before held in
      ap (λ (b : Bool). cond b (row_at number line false ∷ rest) rest) here
      ∙ held_never held (number + 1) (false ∷ earlier) (reach_less earlier 0 h)

  last_none : (number k : ℕ) → rows_at number (drop k []) ≡ []
  last_none number zero = refl
  last_none number (suc k) = refl

  abbrev rows_after : ℕ → List (List ℕ) → ℕ → List Row
  rows_after number lines k = rows_at (number + k) (drop k lines)

  last_step : (t : Bool) (number : ℕ) (line : List ℕ) (held : List (List ℕ)) → nat_lt (length held) before ≡ t →
      cond t (row_at number line false ∷ last_rows before (number + 1) held) (last_rows before (number + 1) held)
      ≡ last_rows before number (line ∷ held)
  last_step true number line held e =
      let few : length held - before ≡ 0 = grind (arith, nat_tests) in
      let all : length (line ∷ held) - before ≡ 0 = grind (arith, nat_tests) in
      let same : number ≡ number + 0 = omega arith in
      ap (λ k. row_at number line false ∷ rows_after (number + 1) held k) few
      ∙ ap (λ n. row_at number line false ∷ rows_at n held) (omega arith)
      ∙ ap (λ n. row_at n line false ∷ rows_at (n + 1) held) same
      ∙ sym (ap (rows_after number (line ∷ held)) all)
  last_step false number line held e =
      let k = length held - before in
      let one : length (line ∷ held) - before ≡ suc k = grind (arith, nat_tests) in
      ap (λ n. rows_at n (drop k held)) (omega arith) ∙ sym (ap (rows_after number (line ∷ held)) one)

  -- held lines before a marked one: the last of them are shown
  module _ (line : List ℕ) (lines : List (List ℕ)) (marks : List Bool) (rest : List Row) where
    pub held_marked : (held : List (List ℕ)) (number left : ℕ) (earlier : List Bool) → Fits held left → Reach earlier left →
        ((earlier : List Bool) → Reach earlier after → by_marks (number + length held + 1) lines marks earlier ≡ rest) →
        by_marks number (held ++ line ∷ lines) (blanks_of held ++ true ∷ marks) earlier
        ≡ last_rows before number held ++ row_at (number + length held) line true ∷ rest
    held_marked [] number left earlier fits h k =
        let same : number ≡ number + 0 = omega arith in
        ap (λ n. row_at n line true ∷ by_marks (n + 1) lines marks (true ∷ earlier)) same
        ∙ ap (λ (rows : List Row). row_at (number + 0) line true ∷ rows) (k (true ∷ earlier) (reach_first earlier))
        ∙ ap (λ (rows : List Row). rows ++ row_at (number + 0) line true ∷ rest) (sym (last_none (number + (0 - before)) (0 - before)))
    held_marked (first ∷ held) number left earlier fits h k =
        let h0 : Reach earlier 0 = subst (Reach earlier) fits h in
        let size : number + 1 + length held ≡ number + length (first ∷ held) = omega arith in
        let more = by_marks (number + 1) (held ++ line ∷ lines) (blanks_of held ++ true ∷ marks) (false ∷ earlier) in
        let end = row_at (number + length (first ∷ held)) line true ∷ rest in
        let t = nat_lt (length held) before in
        let here : (has_mark (take after earlier) || has_mark (take before (blanks_of held ++ true ∷ marks))) ≡ t =
        ap (λ b. b || has_mark (take before (blanks_of held ++ true ∷ marks))) (reach_now earlier 0 h0) ∙ mark_ahead before held marks in
        let next : more ≡ last_rows before (number + 1) held ++ end =
        held_marked held (number + 1) 0 (false ∷ earlier) (fits_none held) (reach_less earlier 0 h0)
        (λ later reach. ap (λ n. by_marks (n + 1) lines marks later) size ∙ k later reach)
        ∙ ap (λ n. last_rows before (number + 1) held ++ row_at n line true ∷ rest) size in
        ap (λ (b : Bool). cond b (row_at number first false ∷ more) more) here
        ∙ ap (λ (rows : List Row). cond t (row_at number first false ∷ rows) rows) next
        ∙ both t (row_at number first false) (last_rows before (number + 1) held) end
        ∙ ap (λ (rows : List Row). rows ++ end) (last_step t number first held refl)
      where
        both : (t : Bool) (row : Row) (rows end : List Row) → cond t (row ∷ (rows ++ end)) (rows ++ end) ≡ cond t (row ∷ rows) rows ++ end
        both true row rows end = refl
        both false row rows end = refl

  module _ (is_wanted : List ℕ → Bool) where
    abbrev scanned : Scan → List (List ℕ) → List (List ℕ) → List Row
    scanned scan held lines = scan_rows before after is_wanted scan held lines

    -- what a scan says of these lines is so by their marks
    abbrev Agrees : Scan → List (List ℕ) → List (List ℕ) → List Bool → Type 0
    Agrees scan held lines earlier =
        by_marks scan.number (held ++ lines) (blanks_of held ++ first_marks scan.most (map is_wanted lines)) earlier
        ≡ scanned scan held lines

    abbrev AgreeAll : List (List ℕ) → Type 0
    AgreeAll lines = (scan : Scan) (held : List (List ℕ)) (earlier : List Bool) → Fits held scan.left →
        Reach earlier scan.left → Agrees scan held lines earlier

    module _ (line : List ℕ) (lines : List (List ℕ)) (more : AgreeAll lines) where
      abbrev marks_by : Scan → Bool → List Bool
      marks_by scan b =
          cond b (true ∷ first_marks (one_less scan.most) (map is_wanted lines)) (false ∷ first_marks scan.most (map is_wanted lines))

      abbrev after_mark : Scan → List (List ℕ) → Scan
      after_mark scan held = record { number = scan.number + length held + 1; most = one_less scan.most; left = after }

      abbrev unmarked_rows : Scan → List (List ℕ) → Bool → List Row
      unmarked_rows scan held t =
          cond t (row_at scan.number line false ∷ scanned (record scan { number = scan.number + 1; left = scan.left - 1 }) held lines)
          (scanned scan (held ++ line ∷ []) lines)

      holds : (scan : Scan) (held : List (List ℕ)) (earlier : List Bool) → scan.left ≡ 0 → Reach earlier scan.left →
          by_marks scan.number (held ++ line ∷ lines) (blanks_of held ++ marks_by scan false) earlier ≡ scanned scan (held ++ line ∷ []) lines
      holds scan held earlier none h =
          let marks = first_marks scan.most (map is_wanted lines) in
          let fits : Fits (held ++ line ∷ []) scan.left = subst (Fits (held ++ line ∷ [])) (sym none) (fits_none (held ++ line ∷ [])) in
          ap (λ (ls : List (List ℕ)). by_marks scan.number ls (blanks_of held ++ false ∷ marks) earlier) (sym (append_assoc held (line ∷ []) lines))
          ∙ ap (λ (ms : List Bool). by_marks scan.number ((held ++ line ∷ []) ++ lines) ms earlier) (sym (blanks_more held line marks))
          ∙ more scan (held ++ line ∷ []) earlier fits h

      unmarked : (t : Bool) (scan : Scan) (held : List (List ℕ)) (earlier : List Bool) → nat_lt 0 scan.left ≡ t → Fits held scan.left →
          Reach earlier scan.left → by_marks scan.number (held ++ line ∷ lines) (blanks_of held ++ marks_by scan false) earlier
          ≡ unmarked_rows scan held t
      unmarked false scan held earlier e fits h =
          let none : scan.left ≡ 0 = grind (arith, nat_tests) in holds scan held earlier none h
      unmarked true scan (first ∷ held) earlier e fits h =
          let wrong : ⊥ = grind (arith, nat_tests) in absurd wrong
      unmarked true scan [] earlier e fits h =
          let marks = first_marks scan.most (map is_wanted lines) in
          let here : (has_mark (take after earlier) || has_mark (take before marks)) ≡ true =
          ap (λ b. b || has_mark (take before marks)) (reach_now earlier scan.left h ∙ e) in
          let rest = by_marks (scan.number + 1) lines marks (false ∷ earlier) in
          ap (λ (b : Bool). cond b (row_at scan.number line false ∷ rest) rest) here
          ∙ ap (λ (rows : List Row). row_at scan.number line false ∷ rows)
          (more (record scan { number = scan.number + 1; left = scan.left - 1 }) [] (false ∷ earlier) tt (reach_less earlier scan.left h))

      one_line : (b : Bool) (scan : Scan) (held : List (List ℕ)) (earlier : List Bool) → Fits held scan.left → Reach earlier scan.left →
          by_marks scan.number (held ++ line ∷ lines) (blanks_of held ++ marks_by scan b) earlier
          ≡ cond b (last_rows before scan.number held ++ row_at (scan.number + length held) line true ∷ scanned (after_mark scan held) [] lines)
          (unmarked_rows scan held (nat_lt 0 scan.left))
      one_line true scan held earlier fits h =
          held_marked line lines (first_marks (one_less scan.most) (map is_wanted lines)) (scanned (after_mark scan held) [] lines)
          held scan.number scan.left earlier fits h (λ later reach. more (after_mark scan held) [] later tt reach)
      one_line false scan held earlier fits h = unmarked (nat_lt 0 scan.left) scan held earlier refl fits h

    agree : (lines : List (List ℕ)) → AgreeAll lines
    agree [] scan [] earlier fits h = refl
    agree [] scan (line ∷ held) earlier fits h = held_never (line ∷ held) scan.number earlier (subst (Reach earlier) fits h)
    agree (line ∷ lines) scan held earlier fits h =
        one_line line lines (agree lines) (is_wanted line && is_open scan.most) scan held earlier fits h

    -- the lines to show, by a scan of all lines
    pub rows_are_scanned : (most : Option ℕ) (lines : List (List ℕ)) →
        rows_of most before after is_wanted lines ≡ scanned (record { number = 1; most = most; left = 0 }) [] lines
    rows_are_scanned most lines = agree lines (record { number = 1; most = most; left = 0 }) [] [] tt reach_none

    abbrev Unmarked : Option ℕ → List (List ℕ) → Type 0
    Unmarked most lines = NoneMarked is_wanted most lines

    abbrev pub scan_at : ℕ → Option ℕ → ℕ → Scan
    scan_at number most left = record { number = number; most = most; left = left }

    module _ (most : Option ℕ) (later : List (List ℕ)) where
      -- the same scan
      same_scan : (number n left l : ℕ) (held h : List (List ℕ)) → number ≡ n → left ≡ l → held ≡ h →
          scanned (scan_at number most left) held later ≡ scanned (scan_at n most l) h later
      same_scan number n left l held h a b c =
          ap (λ m. scanned (scan_at m most left) held later) a ∙ ap (λ k. scanned (scan_at n most k) held later) b
          ∙ ap (λ (ls : List (List ℕ)). scanned (scan_at n most l) ls later) c

      -- lines that are not marked are held
      scan_held : (lines : List (List ℕ)) (number : ℕ) (held : List (List ℕ)) → Unmarked most lines →
          scanned (scan_at number most 0) held (lines ++ later) ≡ scanned (scan_at number most 0) (held ++ lines) later
      scan_held [] number held none = same_scan number number 0 0 held (held ++ []) refl refl (sym (append-nil held))
      scan_held (line ∷ lines) number held none =
          let next = scan_at number most 0 in
          ap (λ (b : Bool). cond b
          (last_rows before number held ++ row_at (number + length held) line true
          ∷ scanned (scan_at (number + length held + 1) (one_less most) after) [] (lines ++ later))
          (scanned next (held ++ line ∷ []) (lines ++ later))) none.0
          ∙ scan_held lines number (held ++ line ∷ []) none.1
          ∙ same_scan number number 0 0 ((held ++ line ∷ []) ++ lines) (held ++ line ∷ lines) refl refl (append_assoc held (line ∷ []) lines)

      -- of lines that are not marked the first `left` are shown, and the others are held
      pub scan_unmarked : (lines : List (List ℕ)) (number left : ℕ) (held : List (List ℕ)) → Fits held left → Unmarked most lines →
          scanned (scan_at number most left) held (lines ++ later)
          ≡ rows_at number (take left lines)
          ++ scanned (scan_at (number + length (take left lines)) most (left - length (take left lines))) (held ++ drop left lines) later
      scan_unmarked [] number zero held fits none = same_scan number (number + 0) 0 0 held (held ++ []) (omega arith) refl (sym (append-nil held))
      scan_unmarked [] number (suc left) held fits none =
          same_scan number (number + 0) (suc left) (suc left - 0) held (held ++ []) (omega arith) (omega arith) (sym (append-nil held))
      scan_unmarked (line ∷ lines) number zero held fits none =
          scan_held (line ∷ lines) number held none
          ∙ same_scan number (number + 0) 0 0 (held ++ line ∷ lines) (held ++ line ∷ lines) (omega arith) refl refl
      scan_unmarked (line ∷ lines) number (suc left) (first ∷ held) fits none = let wrong : ⊥ = omega arith in absurd wrong
      scan_unmarked (line ∷ lines) number (suc left) [] fits none =
          let e : suc left - 1 ≡ left = omega arith in
          let pos : nat_lt 0 (suc left) ≡ true = grind (arith, nat_tests) in
          let size = length (take left lines) in
          ap (λ (b : Bool). cond b
          (last_rows before number [] ++ row_at (number + 0) line true
          ∷ scanned (scan_at (number + 0 + 1) (one_less most) after) [] (lines ++ later))
          (cond (nat_lt 0 (suc left)) (row_at number line false ∷ scanned (scan_at (number + 1) most (suc left - 1)) [] (lines ++ later))
          (scanned (scan_at number most (suc left)) (line ∷ []) (lines ++ later)))) none.0
          ∙ ap (λ (b : Bool). cond b (row_at number line false ∷ scanned (scan_at (number + 1) most (suc left - 1)) [] (lines ++ later))
          (scanned (scan_at number most (suc left)) (line ∷ []) (lines ++ later))) pos
          ∙ ap (λ l. row_at number line false ∷ scanned (scan_at (number + 1) most l) [] (lines ++ later)) e
          ∙ ap (λ (rows : List Row). row_at number line false ∷ rows) (scan_unmarked lines (number + 1) left [] tt none.1)
          ∙ ap (λ (rows : List Row). row_at number line false ∷ (rows_at (number + 1) (take left lines) ++ rows))
          (same_scan (number + 1 + size) (number + length (line ∷ take left lines)) (left - size) (suc left - length (line ∷ take left lines))
          (drop left lines) (drop left lines) (omega arith) (omega arith) refl)

    -- a marked line after held ones
    pub scan_marked : (line : List ℕ) (later : List (List ℕ)) (number left : ℕ) (most : Option ℕ) (held : List (List ℕ)) →
        (is_wanted line && is_open most) ≡ true → scanned (scan_at number most left) held (line ∷ later)
        ≡ last_rows before number held ++ row_at (number + length held) line true
        ∷ scanned (scan_at (number + length held + 1) (one_less most) after) [] later
    scan_marked line later number left most held is =
        ap (λ (b : Bool). cond b
        (last_rows before number held ++ row_at (number + length held) line true
        ∷ scanned (scan_at (number + length held + 1) (one_less most) after) [] later)
        (cond (nat_lt 0 left) (row_at number line false ∷ scanned (scan_at (number + 1) most (left - 1)) held later)
        (scanned (scan_at number most left) (held ++ line ∷ []) later))) is
