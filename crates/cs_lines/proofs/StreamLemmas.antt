-- Lines that are read block by block.
use Rattle.std.proofs.Common.{◌≡◌, ℕ, zero, suc, ◌+◌, ◌-◌, ◌≤◌, ◌⊎◌, inl, inr, Bool, true, false, ◌&&◌, cond, List, [], ◌∷◌, ◌++◌, length, take, drop, Option, nat_lt, refl, sym, ap, subst, ◌∙◌, arith, append_assoc, append-nil, length-append, length-drop}
use Rattle.std.proofs.lemmas.List.{drop_at, drop-drop, take_at, take_rest, drop-append-le}
use Rattle.cs_match.specs.LastPart.{last_part}
use Rattle.cs_match.specs.Lines.{lines, terminated_lines}
use Rattle.cs_match.specs.NoNewline.{HasNoNewline}
use Rattle.cs_match.specs.Skipping.{AreWholeLines}
use Rattle.cs_lines.specs.Contexts.{Row, row_at, is_open, one_less}
use Rattle.cs_lines.specs.Findings.{Finding, IsFoundBy, has_stopped}
use Rattle.cs_lines.specs.Printed.{LinesBegun, LinesPrinted, lines_bytes, marked_of}
use Rattle.cs_tree.specs.SinkOutputs.{Begins}
use Rattle.cs_lines.specs.Scans.{Fits, PrintsAlike, last_rows, rows_at, rows_by, scan_rows}
use Rattle.cs_lines.specs.Shown.{gap, is_wanted, line_rows, shown_bytes}
use Rattle.cs_lines.specs.Spacing.{Progress, fresh_rows, opening_of, printed_by, progress_of, seen, spaced}
use Rattle.cs_lines.specs.Streamed.{ended_of, read_lines}
use Rattle.cs_tree.specs.StreamModels.{SourceModel, ends}
use Rattle.cs_tree.specs.Transfers.{Consumes, IsAt}
use Rattle.cs_lines.specs.Streams.{BeginsLines, IfFound, IsReady, LinesStreamed, StreamsLines}
use Rattle.cs_lines.specs.declared.stream.Ended.{Ended}
use Rattle.cs_lines.specs.declared.stream.Ended.TheVariants.{Whole}
use Rattle.cs_lines.specs.declared.rows.Page.{Page}
use Rattle.cs_lines.specs.declared.rows.Rows.{Rows}
use Rattle.cs_lines.specs.declared.search.LineSearch.{LineSearch}
use Rattle.cs_lines.proofs.MarkLemmas.{lines_if_marked}
use Rattle.cs_lines.proofs.ReadLemmas.{both_some, lines_more, read_all, read_more, read_part, read_to, read_whole}
use Rattle.cs_lines.proofs.ScanLemmas.{scan_at, fits_none, rows_are_scanned}
use Rattle.cs_lines.proofs.SpacingLemmas.{printed_given}
use Rattle.cs_lines.proofs.TextLemmas.{follows, shown_is}

module _ (before after : ℕ) (is_wanted : List ℕ → Bool) where
  abbrev scanned : ℕ → Option ℕ → List (List ℕ) → List (List ℕ) → List Row
  scanned number most held later = scan_rows before after is_wanted (scan_at before after is_wanted number most 0) held later

  -- the last lines are among the last ones
  last_trimmed : (xs ys : List (List ℕ)) (number : ℕ) → before ≤ length ys →
      last_rows before number (xs ++ ys) ≡ last_rows before (number + length xs) ys
  last_trimmed xs ys number enough =
      let k = length ys - before in
      let size : length (xs ++ ys) - before ≡ length xs + k = omega (arith, length-append xs ys) in
      let at : number + (length xs + k) ≡ number + length xs + k = omega arith in
      ap (λ n. rows_at (number + n) (drop n (xs ++ ys))) size
      ∙ ap (λ n. rows_at n (drop (length xs + k) (xs ++ ys))) at
      ∙ ap (λ (ls : List (List ℕ)). rows_at (number + length xs + k) ls) (drop_more xs ys k)
    where
      drop_more : (xs ys : List (List ℕ)) (k : ℕ) → drop (length xs + k) (xs ++ ys) ≡ drop k ys
      drop_more xs ys k = sym (drop-drop k (length xs) (xs ++ ys)) ∙ ap (drop k) (drop_at xs ys (length xs) refl)

  -- held lines before the last ones are never shown
  pub scan_trimmed : (later xs ys : List (List ℕ)) (number : ℕ) (most : Option ℕ) → before ≤ length ys →
      scanned number most (xs ++ ys) later ≡ scanned (number + length xs) most ys later
  scan_trimmed [] xs ys number most enough = refl
  scan_trimmed (line ∷ later) xs ys number most enough =
      let at : number + length (xs ++ ys) ≡ number + length xs + length ys = omega (arith, length-append xs ys) in
      let rest : ℕ → List Row = λ n. row_at n line true ∷ scan_rows before after is_wanted (scan_at before after is_wanted (n + 1) (one_less most) after) [] later in
      let held : before ≤ length (ys ++ line ∷ []) = omega (arith, length-append ys (line ∷ []), enough) in
      ap (λ (rows : List Row). cond (is_wanted line && is_open most) (rows ++ rest (number + length (xs ++ ys))) (scanned number most ((xs ++ ys) ++ line ∷ []) later))
      (last_trimmed xs ys number enough)
      ∙ ap (λ n. cond (is_wanted line && is_open most) (last_rows before (number + length xs) ys ++ rest n) (scanned number most ((xs ++ ys) ++ line ∷ []) later)) at
      ∙ ap (λ (rows : List Row). cond (is_wanted line && is_open most) (last_rows before (number + length xs) ys ++ rest (number + length xs + length ys)) rows)
      (ap (λ (ls : List (List ℕ)). scanned number most ls later) (append_assoc xs ys (line ∷ []))
      ∙ scan_trimmed later xs (ys ++ line ∷ []) number most held)

  abbrev scanned_at : ℕ → ℕ → Option ℕ → List (List ℕ) → List (List ℕ) → List Row
  scanned_at number left most held later = scan_rows before after is_wanted (scan_at before after is_wanted number most left) held later

  -- held lines that no later line can show
  pub trim_rows : (later xs ys : List (List ℕ)) (number left : ℕ) (most : Option ℕ) → Fits (xs ++ ys) left →
      (length xs ≡ 0) ⊎ (before ≤ length ys) → scanned_at number left most (xs ++ ys) later ≡ scanned_at (number + length xs) left most ys later
  trim_rows later [] ys number left most fits some =
      let same : number ≡ number + 0 = omega arith in ap (λ n. scanned_at n left most ys later) same
  trim_rows later (x ∷ xs) ys number left most fits (inl none) = let wrong : ⊥ = omega (arith, none) in absurd wrong
  trim_rows later (x ∷ xs) ys number left most fits (inr enough) =
      ap (λ l. scanned_at number l most ((x ∷ xs) ++ ys) later) fits
      ∙ scan_trimmed later (x ∷ xs) ys number most enough
      ∙ ap (λ l. scanned_at (number + length (x ∷ xs)) l most ys later) (sym fits)

pub fits_drop : (xs ys : List (List ℕ)) (left : ℕ) → Fits (xs ++ ys) left → Fits ys left
fits_drop [] ys left fits = fits
fits_drop (x ∷ xs) ys left fits = subst (Fits ys) (sym fits) (fits_none ys)

-- ---- a buffer to which bytes are added

module _ (text bytes new : List ℕ) (from : ℕ) (within : from ≤ length text) (is : new ≡ text ++ bytes) where
  pub first_same : take from new ≡ take from text
  first_same = ap (take from) is ∙ take_on from text bytes within
    where
      take_on : (n : ℕ) (a b : List ℕ) → n ≤ length a → take n (a ++ b) ≡ take n a
      take_on zero a b h = refl
      take_on (suc n) [] b h = let wrong : ⊥ = omega (arith, h) in absurd wrong
      take_on (suc n) (x ∷ a) b h = ap (λ xs. x ∷ xs) (take_on n a b (omega (arith, h)))

  pub rest_more : drop from new ≡ drop from text ++ bytes
  rest_more = ap (drop from) is ∙ drop-append-le from text bytes within

  pub ready_more : (rows : Rows) → IsReady rows text from (length text) → IsReady rows new from (length text)
  ready_more rows ready =
      let len : length new ≡ length text + length bytes = ap (λ (t : List ℕ). length t) is ∙ length-append text bytes in
      record {
        low = ready.low;
        high = omega (arith, len);
        whole = subst AreWholeLines (sym first_same) ready.whole;
        part = subst HasNoNewline (sym (ap (take (length text - from)) rest_more ∙ part_same)) ready.part;
        fits = subst (λ (h : List ℕ). Fits (terminated_lines h) rows.left) (sym first_same) ready.fits;
      }
    where
      part_same : take (length text - from) (drop from text ++ bytes) ≡ take (length text - from) (drop from text)
      part_same =
          take_at (drop from text) bytes (length text - from) (length-drop from text)
          ∙ sym (take_rest text from)

-- ---- lines that are printed

module _ (page : Page) (given : List ℕ) (finding : Finding) (lines : List (List ℕ)) where
  -- what is printed of the lines, row by row
  abbrev pub all_printed : Progress
  all_printed = printed_by page finding (progress_of (fresh_rows page) given) (rows_by (fresh_rows page) finding [] lines)

  is_scanned : line_rows page.options.now finding lines ≡ rows_by (fresh_rows page) finding [] lines
  is_scanned =
      let options = page.options.now in rows_are_scanned options.before options.after (is_wanted options finding.has_match) options.most lines

  all_given : all_printed.given ≡ given ++ lines_bytes page finding lines
  all_given =
      let options = page.options.now in
      let rows = line_rows options finding lines in
      let start = progress_of (fresh_rows page) given in
      ap (λ (rs : List Row). (printed_by page finding start rs).given) (sym is_scanned)
      ∙ printed_given (opening_of page) (gap options) (shown_bytes options finding page.name.now) rows start
      ∙ ap (λ r. given ++ r) (sym (follows options finding page.name.now rows page.begun))

  all_shown : all_printed.shown ≡ nat_lt 0 (marked_of page.options.now finding lines)
  all_shown =
      let options = page.options.now in
      let start = progress_of (fresh_rows page) given in
      ap (λ (rs : List Row). (printed_by page finding start rs).shown) (sym is_scanned)
      ∙ shown_is options finding page.name.now (opening_of page) (gap options) (line_rows options finding lines) start refl
      ∙ lines_if_marked options finding lines

  -- all was printed
  pub lines_printed : (later : List ℕ) (marked : Bool) → seen all_printed ≡ (later, marked) → LinesPrinted page finding lines given later marked
  lines_printed later marked is =
      (sym (ap (λ (s : List ℕ × Bool). s.0) is) ∙ all_given, sym (ap (λ (s : List ℕ × Bool). s.1) is) ∙ all_shown)

  -- a beginning of it was
  pub lines_begun : (later : List ℕ) → Begins later all_printed.given → LinesBegun page finding lines given later
  lines_begun later begins = (begins.0, sym all_given ∙ begins.1)

-- what is printed in the end is the same after these rows
module _ (page : Page) (given : List ℕ) (rows : Rows) (later : List ℕ) (finding : Finding) (lines held more : List (List ℕ))
    (alike : PrintsAlike (fresh_rows page) rows given later finding [] lines held more) where
  -- so what was printed begins it
  pub alike_begun : Begins later (all_printed page given finding lines).given
  alike_begun =
      let options = rows.page.options.now in
      let rest = rows_by rows finding held more in (
        spaced (opening_of rows.page) (gap options) (shown_bytes options finding rows.page.name.now) rows.shown rows.next rest,
        ap (λ (s : List ℕ × Bool). s.0) alike
            ∙ printed_given (opening_of rows.page) (gap options) (shown_bytes options finding rows.page.name.now) rest (progress_of rows later),
      )

  -- and a beginning of what is printed after it begins all
  pub begun_more : (bytes : List ℕ) → Begins bytes (printed_by rows.page finding (progress_of rows later) (rows_by rows finding held more)).given →
      Begins bytes (all_printed page given finding lines).given
  begun_more bytes b = (b.0, ap (λ (s : List ℕ × Bool). s.0) alike ∙ b.1)

-- ---- a text that was read in part

-- What was printed begins what is printed of these lines, whatever lines follow them.
abbrev pub BeginsAny : Page → List ℕ → Finding → List (List ℕ) → List ℕ → Type 0
BeginsAny page given finding lines later = (more : List (List ℕ)) → Begins later (all_printed page given finding (lines ++ more)).given

module _ (search search' : LineSearch) (page : Page) (left : ℕ) (model now : Option SourceModel) (first read given later : List ℕ)
    (consumed : Consumes model now read) (low : length read ≤ left) where
  abbrev ReadBegun : SourceModel → Type 0
  ReadBegun source = IfFound search search' (λ finding. LinesBegun page finding (read_lines (ended_of left source) (first ++ take left source.bytes)) given later)

  abbrev WholeBegun : SourceModel → Type 0
  WholeBegun source = IfFound search search' (λ finding. LinesBegun page finding (lines (first ++ source.bytes)) given later)

  -- so it begins what is printed for the text, however it goes on
  pub begun_all : (has_stopped search' ≡ false → (finding : Finding) → IsFoundBy finding search →
      BeginsAny page given finding (terminated_lines (first ++ read)) later) → BeginsLines search search' page left model first given later
  begun_all begins =
      both_some {P = ReadBegun} {Q = WholeBegun} model (λ source a b none finding found. (a none finding found, b none finding found))
      (read_part left model now read (λ text ended. IfFound search search' (λ finding. LinesBegun page finding (read_lines ended (first ++ text)) given later))
      consumed low (λ more ended none finding found. read_begun finding more ended (begins none finding found)))
      (read_whole model now read (λ whole. IfFound search search' (λ finding. LinesBegun page finding (lines (first ++ whole)) given later)) consumed
      (λ more none finding found. whole_begun finding more (begins none finding found)))
    where
      read_begun : (finding : Finding) (more : List ℕ) (ended : Ended) → BeginsAny page given finding (terminated_lines (first ++ read)) later →
          LinesBegun page finding (read_lines ended (first ++ (read ++ more))) given later
      read_begun finding more ended begins =
          let rest = read_more ended (first ++ read) more in
          let is = ap (read_lines ended) (sym (append_assoc first read more)) ∙ rest.1 in
          lines_begun page given finding (read_lines ended (first ++ (read ++ more))) later
          (subst (λ (ls : List (List ℕ)). Begins later (all_printed page given finding ls).given) (sym is) (begins rest.0))

      whole_begun : (finding : Finding) (more : List ℕ) → BeginsAny page given finding (terminated_lines (first ++ read)) later →
          LinesBegun page finding (lines (first ++ (read ++ more))) given later
      whole_begun finding more begins =
          let is = ap lines (sym (append_assoc first read more)) ∙ lines_more (first ++ read) more in
          lines_begun page given finding (lines (first ++ (read ++ more))) later
          (subst (λ (ls : List (List ℕ)). Begins later (all_printed page given finding ls).given) (sym is) (begins (lines (last_part (first ++ read) ++ more))))

-- and at its end it is what is printed for it
module _ (search search' : LineSearch) (page : Page) (left : ℕ) (model later' : Option SourceModel) (first read given later : List ℕ) (marked : Bool)
    (consumed : Consumes model later' read) (end : IsAt ends later') (low : length read ≤ left)
    (printed : IfFound search search' (λ finding. LinesPrinted page finding (lines (first ++ read)) given later marked)) where
  pub lines_streamed : StreamsLines search search' page left model first given later (record { marked = marked; ended = Whole })
  lines_streamed = read_to ends left model later' read
      (λ text ended. IfFound search search' (λ finding. LinesStreamed page finding ended (first ++ text) given later (record { marked = marked; ended = Whole })))
      consumed end low (λ none finding found. (refl, printed none finding found))

  pub lines_cut : BeginsLines search search' page left model first given later
  lines_cut =
      both_some {P = ReadBegun search search' page left model later' first read given later consumed low} {Q = WholeBegun search search' page left model later' first read given later consumed low} model (λ source a b none finding found. (a none finding found, b none finding found))
      (read_to ends left model later' read (λ text ended. IfFound search search' (λ finding. LinesBegun page finding (read_lines ended (first ++ text)) given later))
      consumed end low begun)
      (read_all ends model later' read (λ whole. IfFound search search' (λ finding. LinesBegun page finding (lines (first ++ whole)) given later)) consumed end begun)
    where
      begun : IfFound search search' (λ finding. LinesBegun page finding (lines (first ++ read)) given later)
      begun none finding found = ([], sym (printed none finding found).0 ∙ sym (append-nil later))
