-- The search of a block, from one place to the next.
use Rattle.std.proofs.Common.{◌≡◌, ◌≤◌, ◌<◌, ◌+◌, ◌-◌, ◌∷◌, ◌++◌, ◌&&◌, [], ℕ, Bool, true, false, not, IsTrue, ◌↔◌, if◌then◌else◌, Result, Ok, Err, List, Option, None, Some, length, take, drop, refl, sym, ap, subst, ◌∙◌, arith, append_assoc, length-drop, length-take, inl, inr}
use mathlib.Core.Bool.{beq}
use Rattle.std.specs.Prelude.{IfOk, MatchOption, OnErr}
use Rattle.std.proofs.lemmas.Bool.{cases_lt, false≢true}
use Rattle.std.specs.List.{AllByRecursion}
use Rattle.std.proofs.lemmas.List.{drop-drop, drop-take}
use Rattle.std.proofs.lemmas.List.Elements.{recursion_from_All}
use Rattle.cs_match.specs.Lines.{newline, terminated_lines}
use Rattle.cs_match.specs.Skipped.{AreLinesBetween}
use Rattle.cs_match.specs.Skipping.{AreWholeLines, IsLineAfter}
use Rattle.cs_match.specs.MatchingEnds.{matching_ends}
use Rattle.cs_match.proofs.DecidabilityLemmas.{matching_is_decidable}
use Rattle.cs_match.proofs.ListingLemmas.{lines_append, none_listed}
use Rattle.cs_match.proofs.SkippedLineLemmas.{whole_none}
use Rattle.cs_match.specs.NoNewline.{HasNoNewline}
use Rattle.cs_match.proofs.WholeLineLemmas.{between_by, terminated_line, terminated_lines-whole, whole_between, whole_drop, whole_from, whole_line, whole_part}
use Rattle.cs_lines.specs.Contexts.{is_open}
use Rattle.cs_syntax.specs.Matching.{Tree}
use Rattle.cs_lines.specs.Findings.{AreSpansIn, Finding, IsFoundBy, KeepsSearch, Tests, TestsMatches, has_stopped}
use Rattle.cs_lines.specs.Forms.{Span}
use Rattle.cs_tree.specs.SinkOutputs.{Begins}
use Rattle.cs_lines.specs.Printing.{needs_spans}
use Rattle.cs_lines.specs.Scans.{BeginsMarks, Fits, IsMarkShown, IsPassed, IsPlaced, Marks, NoneMarked, PrintsAlike, Scan, held_at, lines_at, rows_at, rows_by, scan_of, scan_rows}
use Rattle.cs_lines.specs.Shown.{gap, is_wanted, shown_bytes}
use Rattle.cs_lines.specs.Spacing.{IsPrinted, opening_of, printed_by, progress_of, seen, spaced}
use Rattle.cs_lines.specs.declared.rows.Page.{Page}
use Rattle.cs_lines.specs.declared.rows.Rows.{Rows}
use Rattle.cs_lines.specs.declared.search.LineSearch.{LineSearch}
use Rattle.cs_lines.specs.declared.searching.Place.{Place}
use Rattle.cs_lines.proofs.FindingLemmas.{found_same, matches_same, none_match, same_matches}
use Rattle.cs_lines.proofs.SearchLemmas.{cut_part, cut_rest, cut_size, lines_to, pass_step}
use Rattle.cs_lines.proofs.SpacingLemmas.{printed_given}
use Rattle.cs_lines.proofs.SpanListLemmas.{spans_unique}

none_of : terminated_lines [] ≡ []
unfolding terminated_lines
none_of = refl

-- ---- lines that are not marked

pub none_append : (wanted : List ℕ → Bool) (most : Option ℕ) (a b : List (List ℕ)) → NoneMarked wanted most a → NoneMarked wanted most b →
    NoneMarked wanted most (a ++ b)
none_append wanted most [] b p q = q
none_append wanted most (line ∷ a) b p q = (p.0, none_append wanted most a b p.1 q)

pub none_closed : (wanted : List ℕ → Bool) (most : Option ℕ) (lines : List (List ℕ)) → is_open most ≡ false → NoneMarked wanted most lines
none_closed wanted most [] closed = tt
none_closed wanted most (line ∷ lines) closed = (ap (λ (b : Bool). wanted line && b) closed ∙ none (wanted line), none_closed wanted most lines closed)
  where
    none : (b : Bool) → (b && false) ≡ false
    none true = refl
    none false = refl

pub none_wanted : (wanted : List ℕ → Bool) (most : Option ℕ) (lines : List (List ℕ)) → AllByRecursion (λ line. wanted line ≡ false) lines →
    NoneMarked wanted most lines
none_wanted wanted most [] none = tt
none_wanted wanted most (line ∷ lines) none = (ap (λ (b : Bool). b && is_open most) none.0, none_wanted wanted most lines none.1)

pub tests_before : (old new : LineSearch) → KeepsSearch old new → (test : List ℕ → Bool) → Tests test new → Tests test old
tests_before old new same test tests line =
    (λ e. matches_same old new same line ((tests line).0 e), λ h. (tests line).1 (same_matches old new same line h))

-- ---- places

pub placed_kept : (old new : LineSearch) (rows : Rows) (place : Place) (offset : ℕ) → KeepsSearch old new → IsPlaced old rows place offset →
    IsPlaced new rows place offset
placed_kept old new rows place offset same p = record {
  order = p.order;
  whole = p.whole;
  between = p.between;
  lines = p.lines;
  fits = p.fits;
  unmarked = λ test tests. p.unmarked test (tests_before old new same test tests);
}

-- more lines that are not marked
pub placed_more : (search : LineSearch) (rows : Rows) (place : Place) (from to : ℕ) → IsPlaced search rows place from →
    AreLinesBetween place.block.now from to →
    ((test : List ℕ → Bool) → Tests test search →
    NoneMarked (is_wanted rows.page.options.now test) rows.most (terminated_lines (take (to - from) (drop from place.block.now)))) →
    IsPlaced search rows place to
placed_more search rows place from to p lines none = record {
  order = p.order;
  whole = p.whole;
  between = p.between;
  lines = lines_append place.block.now place.at from to p.lines lines;
  fits = p.fits;
  unmarked = λ test tests.
      let block = place.block.now in
      let wanted = is_wanted rows.page.options.now test in
      let a = take (from - place.at) (drop place.at block) in
      let b = take (to - from) (drop from block) in
      subst (NoneMarked wanted rows.most)
      (sym (ap terminated_lines (between_by block place.at from to p.lines.low lines.low) ∙ terminated_lines-whole b a p.lines.whole))
      (none_append wanted rows.most (terminated_lines a) (terminated_lines b) (p.unmarked test tests) (none test tests));
}

-- a line alone
pub line_lines : (block : List ℕ) (start end : ℕ) → IsLineAfter block start start end → AreLinesBetween block start (end + 1)
line_lines block start end line = record {
  low = omega (arith, line.order);
  high = omega (arith, line.high);
  whole = whole_line block start end line.order line.newline;
}

pub line_is : (block : List ℕ) (start end : ℕ) → IsLineAfter block start start end →
    terminated_lines (take (end + 1 - start) (drop start block)) ≡ take (end - start) (drop start block) ∷ []
line_is block start end line = terminated_line block start end line.order line.part line.newline

-- after a line, where no line is held
pub placed_after : (search : LineSearch) (rows : Rows) (place : Place) (at : ℕ) → place.held ≡ at → place.at ≡ at → at ≤ length place.block.now →
    AreWholeLines (drop at place.block.now) → IsPlaced search rows place at
placed_after search rows place at held is within whole =
    let block = place.block.now in
    let zero : 0 ≡ place.at - place.held = omega (arith, held, is) in
    let none : 0 ≡ at - place.at = omega (arith, is) in
    record {
      order = omega (arith, held, is);
      whole = subst (λ (n : ℕ). AreWholeLines (drop n block)) (sym held) whole;
      between = subst (λ (n : ℕ). AreWholeLines (take n (drop place.held block))) zero whole_none;
      lines = record {
        low = omega (arith, is);
        high = within;
        whole = subst (λ (n : ℕ). AreWholeLines (take n (drop place.at block))) none whole_none;
      };
      fits = subst (λ (ls : List (List ℕ)). Fits ls rows.left) (sym (ap (λ (n : ℕ). terminated_lines (take n (drop place.held block))) (sym zero) ∙ none_of)) tt;
      unmarked = λ test tests. subst (NoneMarked (is_wanted rows.page.options.now test) rows.most)
          (sym (ap (λ (n : ℕ). terminated_lines (take n (drop place.at block))) (sym none) ∙ none_of)) tt;
    }

-- ---- from one place to the next

pub marks_here : (search search' : LineSearch) (rows : Rows) (given : List ℕ) (place : Place) (offset : ℕ) → IsPlaced search' rows place offset →
    Marks search search' rows rows given given place place offset
marks_here search search' rows given place offset p = record {
  placed = p;
  block = refl;
  page = refl;
  room = omega arith;
  rises = omega arith;
  rows = λ none finding later found. refl;
}

pub marks_then : (s0 s1 s2 : LineSearch) (r0 r1 r2 : Rows) (g0 g1 g2 : List ℕ) (p0 p1 p2 : Place) (t1 t2 : ℕ) → KeepsSearch s0 s1 → KeepsSearch s1 s2 →
    Marks s0 s1 r0 r1 g0 g1 p0 p1 t1 → Marks s1 s2 r1 r2 g1 g2 p1 p2 t2 → Marks s0 s2 r0 r2 g0 g2 p0 p2 t2
marks_then s0 s1 s2 r0 r1 r2 g0 g1 g2 p0 p1 p2 t1 t2 kept more a b = record {
  placed = b.placed;
  block = b.block ∙ a.block;
  page = b.page ∙ a.page;
  room = omega (arith, a.room, b.room);
  rises = omega (arith, a.rises, b.rises);
  rows = λ none finding later found.
      a.rows (more.3 none) finding later found ∙ b.rows none finding later (found_same s0 s1 kept finding found);
}

pub begins_then : (s0 s1 s2 : LineSearch) (r0 r1 : Rows) (g0 g1 g2 : List ℕ) (p0 p1 : Place) (t1 : ℕ) → KeepsSearch s0 s1 → KeepsSearch s1 s2 →
    Marks s0 s1 r0 r1 g0 g1 p0 p1 t1 → BeginsMarks s1 s2 r1 g1 g2 p1 → BeginsMarks s0 s2 r0 g0 g2 p0
begins_then s0 s1 s2 r0 r1 g0 g1 g2 p0 p1 t1 kept more a b none finding later found =
    subst (Begins g2) (sym (ap (λ (s : List ℕ × Bool). s.0) (a.rows (more.3 none) finding later found)))
    (b none finding later (found_same s0 s1 kept finding found))

-- nothing more was printed
pub begins_here : (search search' : LineSearch) (rows : Rows) (given : List ℕ) (place : Place) → BeginsMarks search search' rows given given place
begins_here search search' rows given place none finding later found =
    let page = rows.page in
    let bytes = shown_bytes page.options.now finding page.name.now in
    let rs = rows_by rows finding (held_at place) (lines_at place ++ later) in (
      spaced (opening_of page) (gap page.options.now) bytes rows.shown rows.next rs,
      printed_given (opening_of page) (gap page.options.now) bytes rs (progress_of rows given),
    )

-- ---- a marked line, after lines that are not

-- a line of the block from a place on: the lines between are whole
pub record IsNextLine (rows : Rows) (place : Place) (start end : ℕ) : Type 0 where
  pub order : place.held ≤ place.at
  pub whole : AreWholeLines (drop place.held place.block.now)
  pub between : AreWholeLines (take (place.at - place.held) (drop place.held place.block.now))
  pub fits : Fits (held_at place) rows.left
  pub line : IsLineAfter place.block.now place.at start end

pub placed_line : (search : LineSearch) (rows : Rows) (place : Place) (start end : ℕ) → IsPlaced search rows place start →
    IsLineAfter place.block.now start start end → IsNextLine rows place start end
placed_line search rows place start end p line = record {
  order = p.order;
  whole = p.whole;
  between = p.between;
  fits = p.fits;
  line = record {
    low = p.lines.low;
    order = line.order;
    high = line.high;
    before = p.lines.whole;
    part = line.part;
    newline = line.newline;
  };
}

same_at : (p q : Place) → p.block ≡ q.block → p.held ≡ q.held → p.at ≡ q.at → p ≡ q
same_at p q block held at =
    ap (λ b. let r : Place = record { block = b; held = p.held; at = p.at } in r) block
    ∙ ap (λ (n : ℕ). let r : Place = record { block = q.block; held = n; at = p.at } in r) held
    ∙ ap (λ (n : ℕ). let r : Place = record { block = q.block; held = q.held; at = n } in r) at

module _ (old mid new : Rows) (g0 g1 g2 : List ℕ) (place : Place) (held start end : ℕ) (spans : List Span) (next : IsNextLine old place start end)
    (passed : IsPassed old mid (take start place.block.now) place.held place.at held)
    (printed : IsPrinted old mid g0 g1 (rows_at old.number (take old.left (terminated_lines (drop place.at (take start place.block.now))))))
    (shown : IsMarkShown mid new g1 g2 (terminated_lines (take (start - held) (drop held place.block.now)))
    (take (end - start) (drop start place.block.now)) spans) where
  abbrev block : List ℕ
  block = place.block.now

  pub within : start ≤ length block
  within = omega (arith, next.line.order, next.line.high)

  -- the lines that are not marked
  abbrev missed : List (List ℕ)
  missed = terminated_lines (take (start - place.at) (drop place.at block))

  same : drop place.at (take start block) ≡ take (start - place.at) (drop place.at block)
  same = cut_rest block start within place.at next.line.low

  pub low : held ≤ start
  low = omega (arith, passed.within, cut_size block start within)

  abbrev now : List (List ℕ)
  now = terminated_lines (take (start - held) (drop held block))

  lines_are : now ≡ held_at place ++ drop old.left missed
  lines_are =
      ap terminated_lines (sym (cut_rest block start within held low)) ∙ passed.lines
      ∙ ap (λ (t : List ℕ). terminated_lines t ++ drop old.left (terminated_lines (drop place.at (take start block))))
      (cut_part block start within place.held place.at next.order next.line.low)
      ∙ ap (λ (t : List ℕ). held_at place ++ drop old.left (terminated_lines t)) same

  pub mark_rows : (finding : Finding) → let wanted = is_wanted old.page.options.now finding.has_match in
      let line = take (end - start) (drop start block) in
      (needs_spans old.page.options.now.form ≡ true → finding.spans line ≡ spans) → wanted line ≡ true → NoneMarked wanted old.most missed →
      (later : List (List ℕ)) →
      PrintsAlike old new g0 g2 finding (held_at place) (lines_at place ++ later) [] (terminated_lines (drop (end + 1) block) ++ later)
  mark_rows finding spanned is none later =
      let options = old.page.options.now in
      let wanted = is_wanted options finding.has_match in
      let line = take (end - start) (drop start block) in
      let rest = terminated_lines (drop (end + 1) block) in
      let more = rest ++ later in
      let p = progress_of old g0 in
      let q = progress_of mid g1 in
      let size : length (take old.left (terminated_lines (drop place.at (take start block)))) ≡ length (take old.left missed) =
      ap (λ (t : List ℕ). length (take old.left (terminated_lines t))) same in
      ap (λ (ls : List (List ℕ)). seen (printed_by old.page finding p (rows_by old finding (held_at place) ls)))
      (ap (λ (ls : List (List ℕ)). ls ++ later) (lines_to block place.at start end next.line) ∙ append_assoc missed (line ∷ rest) later)
      ∙ ap seen (pass_step (opening_of old.page) (gap options) (shown_bytes options finding old.page.name.now) options.before options.after wanted old.most
      missed (line ∷ more) (held_at place) now old.number old.left mid.number mid.left next.fits none
      (passed.number ∙ ap (λ (n : ℕ). old.number + n) size) (passed.left ∙ ap (λ (n : ℕ). old.left - n) size) lines_are p q
      (printed.0 finding ∙ ap (λ (t : List ℕ). printed_by old.page finding p (rows_at old.number (take old.left (terminated_lines t)))) same))
      ∙ ap (λ (m : Option ℕ). let s : Scan = record { number = mid.number; most = m; left = mid.left } in
      seen (printed_by old.page finding q (scan_rows options.before options.after wanted s now (line ∷ more)))) (sym passed.most)
      ∙ ap (λ (page : Page). seen (printed_by page finding q (scan_rows page.options.now.before page.options.now.after
      (is_wanted page.options.now finding.has_match) (scan_of mid) now (line ∷ more)))) (sym printed.1)
      ∙ shown.1 finding (λ needs. spanned (subst (λ (page : Page). needs_spans page.options.now.form ≡ true) printed.1 needs))
      (subst (λ (page : Page). is_wanted page.options.now finding.has_match line ≡ true) (sym printed.1) is) more

  pub line_marked : (search search' : LineSearch) (place' : Place) → IsPlaced search old place start →
      ((test : List ℕ → Bool) → Tests test search → is_wanted old.page.options.now test (take (end - start) (drop start block)) ≡ true) →
      (has_stopped search' ≡ false → (finding : Finding) → IsFoundBy finding search → needs_spans old.page.options.now.form ≡ true →
      finding.spans (take (end - start) (drop start block)) ≡ spans) →
      place'.block ≡ place.block → place'.held ≡ end + 1 → place'.at ≡ end + 1 →
      new.number ≤ mid.number + length (take (start - held) (drop held block)) + 1 →
      Marks search search' old new g0 g2 place place' (end + 1)
  line_marked search search' place' p wanted spanned is held_is at room =
      let last : Place = record { block = place.block; held = end + 1; at = end + 1 } in
      let line = next.line in
      let rest = whole_from block place.held (end + 1) (omega (arith, next.order, line.low, line.order)) next.whole in
      let zero : end + 1 - (end + 1) ≡ 0 = omega arith in
      let none : held_at last ≡ [] = ap (λ (n : ℕ). terminated_lines (take n (drop (end + 1) block))) zero ∙ none_of in
      subst (λ (q : Place). Marks search search' old new g0 g2 place q (end + 1)) (sym (same_at place' last is held_is at)) (record {
        placed = placed_after search' new last (end + 1) refl refl (omega (arith, line.high)) rest;
        block = refl;
        page = shown.0 ∙ printed.1;
        room = omega (arith, room, passed.room, line.order, line.high, passed.within, length-take start block, length-take (start - held) (drop held block));
        rises = omega (arith, next.order, line.low, line.order);
        rows = λ none_stopped finding later found.
            mark_rows finding (spanned none_stopped finding found) (wanted finding.has_match found.0) (p.unmarked finding.has_match found.0) later
            ∙ ap (λ (ls : List (List ℕ)). seen (printed_by new.page finding (progress_of new g2) (rows_by new finding ls (lines_at last ++ later)))) (sym none);
      })

-- what passing lines asks for
module _ (rows : Rows) (place : Place) (start end : ℕ) (next : IsNextLine rows place start end) where
  in_block : start ≤ length place.block.now
  in_block = omega (arith, next.line.order, next.line.high)

  pub cut_whole : AreWholeLines (drop place.held (take start place.block.now))
      × AreWholeLines (take (place.at - place.held) (drop place.held (take start place.block.now)))
  cut_whole =
      let block = place.block.now in (
        subst AreWholeLines (sym (cut_rest block start in_block place.held (omega (arith, next.order, next.line.low))))
            (whole_between block place.held place.at start next.order next.line.low next.between next.line.before),
        subst AreWholeLines (sym (cut_part block start in_block place.held place.at next.order next.line.low)) next.between,
      )

  pub cut_fits : Fits (terminated_lines (take (place.at - place.held) (drop place.held (take start place.block.now)))) rows.left
  cut_fits = subst (λ (t : List ℕ). Fits (terminated_lines t) rows.left)
      (sym (cut_part place.block.now start in_block place.held place.at next.order next.line.low)) next.fits

-- ---- answers

pub any_err : {A E : Type 0} {P : Type 0} (answer : Result A E) → P → OnErr answer P
any_err (Ok x) p = tt
any_err (Err fault) p = p

pub ok_map : {A E : Type 0} {P Q : A → Type 0} (answer : Result A E) → ((x : A) → P x → Q x) → IfOk answer P → IfOk answer Q
ok_map (Ok x) f p = f x p
ok_map (Err fault) f p = tt

pub ok_map_with : {A E : Type 0} {P Q R : A → Type 0} (answer : Result A E) → ((x : A) → P x → Q x → R x) → IfOk answer P → IfOk answer Q → IfOk answer R
ok_map_with (Ok x) f p q = f x p q
ok_map_with (Err fault) f p q = tt

pub err_map : {A E : Type 0} {P Q : Type 0} (answer : Result A E) → (P → Q) → OnErr answer P → OnErr answer Q
err_map (Ok x) f p = tt
err_map (Err fault) f p = f p

-- ---- a line that has a match

pub test_is : {H W : Type 0} (test word : Bool) → IsTrue test ↔ (H × W) → H → IsTrue word ↔ W → test ≡ word
test_is true true tests has words = refl
test_is true false tests has words = sym (words.1 (tests.0 refl).1)
test_is false true tests has words = tests.1 (has, words.0 refl)
test_is false false tests has words = refl

pub unwanted : (invert test : Bool) → beq test invert ≡ true → (if invert then not test else test) ≡ false
unwanted true true e = refl
unwanted true false e = absurd (false≢true e)
unwanted false true e = absurd (false≢true e)
unwanted false false e = refl

pub other_wanted : (invert test : Bool) → beq test invert ≡ false → (if invert then not test else test) ≡ true
other_wanted true true e = absurd (false≢true (sym e))
other_wanted true false e = refl
other_wanted false true e = refl
other_wanted false false e = absurd (false≢true (sym e))

-- ---- parts of a block

-- the bytes from one offset to another, without the first of them
pub rest_of_slice : (text : List ℕ) (held more end : ℕ) → held + more ≤ end →
    drop more (take (end - held) (drop held text)) ≡ take (end - (held + more)) (drop (held + more) text)
rest_of_slice text held more end low =
    let split : end - held ≡ more + (end - (held + more)) = omega arith in
    ap (λ n. drop more (take n (drop held text))) split
    ∙ drop-take more (end - (held + more)) (drop held text)
    ∙ ap (take (end - (held + more))) (drop-drop more held text)

pub lines_none : (block : List ℕ) (at : ℕ) → at ≤ length block → AreLinesBetween block at at
lines_none block at high =
    let zero : 0 ≡ at - at = omega arith in
    record { low = omega arith; high = high; whole = subst (λ (n : ℕ). AreWholeLines (take n (drop at block))) zero whole_none }

-- the rest of a part after whole lines
pub lines_rest : (block : List ℕ) (from middle to : ℕ) → AreLinesBetween block from to → from ≤ middle → middle ≤ to → AreLinesBetween block middle to
lines_rest block from middle to lines low high =
    let k = middle - from in
    let at : from + k ≡ middle = omega arith in
    record {
      low = high;
      high = lines.high;
      whole = subst AreWholeLines (rest_of_slice block from k to (omega arith) ∙ ap (λ (n : ℕ). take (to - n) (drop n block)) at)
          (whole_drop k (take (to - from) (drop from block)) lines.whole);
    }

-- the lines of two parts
pub lines_both : (block : List ℕ) (from middle to : ℕ) → AreLinesBetween block from middle → middle ≤ to →
    terminated_lines (take (to - from) (drop from block))
    ≡ terminated_lines (take (middle - from) (drop from block)) ++ terminated_lines (take (to - middle) (drop middle block))
lines_both block from middle to lines high =
    ap terminated_lines (between_by block from middle to lines.low high)
    ∙ terminated_lines-whole (take (to - middle) (drop middle block)) (take (middle - from) (drop from block)) lines.whole

no_newline : (a b : List ℕ) → HasNoNewline (a ++ b) → HasNoNewline a
no_newline [] b part = tt
no_newline (x ∷ a) b part = (part.0, no_newline a b part.1)

-- a line of a part ends within it
pub ends_within : (block : List ℕ) (start end to : ℕ) → start < to → AreLinesBetween block start to → HasNoNewline (take (end - start) (drop start block)) →
    end < to
ends_within block start end to low lines part = elim (cases_lt end to) [
  | inl within ↦ within
  | inr past ↦
      let first = take (to - start) (drop start block) in
      let size : length first ≡ to - start = omega (arith, length-take (to - start) (drop start block), length-drop start block, lines.high) in
      absurd (never first (omega (arith, size)) lines.whole
      (no_newline first (take (end - to) (drop to block)) (subst HasNoNewline (between_by block start to end lines.low past) part)))
]
  where
    never : (a : List ℕ) → 0 < length a → AreWholeLines a → HasNoNewline a → ⊥
    never [] some whole none = omega (arith, some)
    never (x ∷ a) some whole none = whole_part x a whole none

pub all_middle : (P : List ℕ → Type 0) (a b : List (List ℕ)) (line : List ℕ) → AllByRecursion P (a ++ line ∷ b) → P line
all_middle P [] b line all = all.0
all_middle P (x ∷ a) b line all = all_middle P a b line all.1

-- the next line of a part
module _ (block : List ℕ) (from start end to : ℕ) (lines : AreLinesBetween block from to) (passed : AreLinesBetween block from start) (low : start < to)
    (order : start ≤ end) (high : end < length block) (part : HasNoNewline (take (end - start) (drop start block)))
    (here : drop end block ≡ newline ∷ drop (end + 1) block) where
  pub rest_lines : AreLinesBetween block start to
  rest_lines = lines_rest block from start to lines passed.low (omega (arith, low))

  pub ends_before : end < to
  ends_before = ends_within block start end to low rest_lines part

  pub next_line : IsLineAfter block start start end
  next_line =
      let zero : 0 ≡ start - start = omega arith in
      record {
        low = omega arith;
        order = order;
        high = high;
        before = subst (λ (n : ℕ). AreWholeLines (take n (drop start block))) zero whole_none;
        part = part;
        newline = here;
      }

  pub next_passed : AreLinesBetween block from (end + 1)
  next_passed = lines_append block from start (end + 1) passed (line_lines block start end next_line)

  pub next_is : (P : List ℕ → Type 0) → AllByRecursion P (terminated_lines (take (to - from) (drop from block))) → P (take (end - start) (drop start block))
  next_is P all =
      let line = take (end - start) (drop start block) in
      let before = terminated_lines (take (start - from) (drop from block)) in
      let after = terminated_lines (take (to - (end + 1)) (drop (end + 1) block)) in
      all_middle P before after line
      (subst (AllByRecursion P) (lines_both block from start to passed (omega (arith, low))
      ∙ ap (λ (ls : List (List ℕ)). before ++ ls) (lines_both block start (end + 1) to (line_lines block start end next_line) (omega (arith, ends_before))
      ∙ ap (λ (ls : List (List ℕ)). ls ++ after) (line_is block start end next_line))) all)

-- ---- lines that have no match

pub all_map : (P Q : List ℕ → Type 0) → ((line : List ℕ) → P line → Q line) → (lines : List (List ℕ)) → AllByRecursion P lines → AllByRecursion Q lines
all_map P Q f [] all = tt
all_map P Q f (line ∷ lines) all = (f line all.0, all_map P Q f lines all.1)

pub missed_lines : (search : LineSearch) (block : List ℕ) (from to : ℕ) → AreLinesBetween block from to →
    ((test : List ℕ → Bool) → TestsMatches test search → matching_ends test block from to ≡ []) → (test : List ℕ → Bool) → Tests test search →
    AllByRecursion (λ line. test line ≡ false) (terminated_lines (take (to - from) (drop from block)))
missed_lines search block from to lines missed test tests =
    let finds = matching_is_decidable search.matcher.tree in
    let ls = terminated_lines (take (to - from) (drop from block)) in
    recursion_from_All (λ line. test line ≡ false) ls
    (none_match search test finds.0 tests finds.1 ls (none_listed finds.0 block from to lines.low lines.high (missed finds.0 finds.1)))

-- the matches of a line are what was found
pub same_spans : (tree : Option Tree) (whole : Bool) (line : List ℕ) (a b : List Span) →
    MatchOption tree (a ≡ []) (λ t. AreSpansIn t whole line a) → MatchOption tree (b ≡ []) (λ t. AreSpansIn t whole line b) → a ≡ b
same_spans None whole line a b p q = p ∙ sym q
same_spans (Some tree) whole line a b p q = spans_unique whole tree line a b 0 0 p q
