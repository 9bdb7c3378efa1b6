use Rattle.std.proofs.Common.{◌≡◌, ◌≤◌, ◌+◌, ◌-◌, ◌∷◌, ◌&&◌, [], ℕ, List, true, length, take, drop, sym, ap, subst, ◌∙◌, arith, length-take, length-drop}
use Rattle.std.proofs.lemmas.List.{take_rest}
use Rattle.cs_match.specs.Lines.{terminated_lines}
use Rattle.cs_match.specs.Skipping.{AreWholeLines}
use Rattle.cs_match.proofs.WholeLineLemmas.{whole_drop}
use Rattle.cs_lines.specs.Contexts.{is_open, row_at, one_less}
use Rattle.cs_tree.specs.SinkOutputs.{given}
use Rattle.cs_lines.specs.Printing.{needs_spans}
use Rattle.cs_lines.specs.Shown.{shown_bytes, gap}
use Rattle.cs_lines.specs.Scans.{rows_at}
use Rattle.cs_lines.specs.Spacing.{printed_by, progress_of, opening_of}
use Rattle.cs_lines.proofs.BlockLemmas.{first_count, last_lines_are, count_within}
use Rattle.cs_lines.proofs.NumberLemmas.{mark_alike}
use Rattle.cs_lines.proofs.ScanLemmas.{scan_same}
use Rattle.cs_lines.proofs.SpacingLemmas.{printed_append}
use Rattle.cs_lines.proofs.rows.Rows.show_mark.Goals as goal

pub show_lines-passed-requires-clause-whole : goal.show_lines-passed-requires-clause-whole
show_lines-passed-requires-clause-whole g c =
    let held = c.args.held.now in
    let start = c.last_lines-start.result in
    subst AreWholeLines (sym (take_rest held start)) (whole_drop start held c.requires.whole)

-- the lines that are counted and shown
shown_within : (held : List ℕ) (start before counted count : ℕ) → start ≤ length held → counted ≤ length (take start held) →
    count ≡ length (take before (terminated_lines (take (length held - start) (drop start held)))) → counted + count ≤ length held
shown_within held start before counted count within few is =
    let rest = take (length held - start) (drop start held) in
    omega (
      arith,
      within,
      few,
      is,
      length-take start held,
      count_within rest before,
      length-take (length held - start) (drop start held),
      length-drop start held,
    )

pub show-requires-clause-number : goal.show-requires-clause-number
show-requires-clause-number g c = omega (
  arith,
  c.requires.room,
  shown_within c.args.held.now c.last_lines-start.result c.args.self.now.page.options.now.before c.counted.result c.show_lines-passed.result.count
      c.last_lines-start.ensures.within c.counted.ensures.within c.show_lines-passed.ensures.count,
)

pub overflow_add-row : goal.overflow_add-row
overflow_add-row g c = omega (
  arith,
  c.requires.room,
  shown_within c.args.held.now c.last_lines-start.result c.args.self.now.page.options.now.before c.counted.result c.show_lines-passed.result.count
      c.last_lines-start.ensures.within c.counted.ensures.within c.show_lines-passed.ensures.count,
)

pub overflow_add-self : goal.overflow_add-self
overflow_add-self g c = omega (
  arith,
  c.requires.room,
  shown_within c.args.held.now c.last_lines-start.result c.args.self.now.page.options.now.before c.counted.result c.show_lines-passed.result.count
      c.last_lines-start.ensures.within c.counted.ensures.within c.show_lines-passed.ensures.count,
)

pub returns-clause-rows : goal.returns-clause-rows
returns-clause-rows g c =
    let old = c.args.self.now in
    let held = c.args.held.now in
    let start = c.last_lines-start.result in
    let before = old.page.options.now.before in
    let last = c.last_lines-start.ensures in
    let lines = terminated_lines held in
    let mid = c.show_lines-passed.new.self in
    let e = c.show_lines-passed.ensures in
    let f = c.show.ensures.row in
    let line = c.args.line.now in
    let p0 = progress_of old (given c.args.out.now) in
    let p1 = progress_of mid (given c.show_lines-passed.new.out) in
    let n = old.number + c.counted.result in
    let count = c.show_lines-passed.result.count in
    let rows = last_lines_are held start before last.whole last.last in
    let size : count ≡ length (drop (length lines - before) lines) = e.count ∙ ap (λ (ls : List (List ℕ)). length ls) rows in
    let shown = rows_at n (drop (length lines - before) lines) in (
      f.1 ∙ e.rows.1,
      λ finding same wanted more. mark_alike old (record c.show.new.self { number = n + count + 1; left = c.show.new.self.page.options.now.after; most = c.one_less-self.result }) (given c.args.out.now) (given c.show.new.out) finding lines more line n
          (λ numbers. ap (λ (i : ℕ). old.number + i) (c.counted.ensures.exact numbers ∙ first_count held start before last.whole last.last))
          (ap (λ b. b && is_open old.most) wanted ∙ c.requires.open)
          (f.1 ∙ e.rows.1)
          (scan_same _ _ (ap (λ (i : ℕ). n + i + 1) size) (c.one_less-self.ensures ∙ ap one_less (f.2.1 ∙ e.scan.1))
          (ap (λ page. page.options.now.after) (f.1 ∙ e.rows.1)))
          (f.0 finding (λ marked needs. same (subst (λ page. needs_spans page.options.now.form ≡ true) e.rows.1 needs))
          ∙ ap (λ page. printed_by page finding p1 (row_at (n + count) line true ∷ [])) e.rows.1
          ∙ ap (λ p. printed_by old.page finding p (row_at (n + count) line true ∷ [])) (e.rows.0 finding)
          ∙ ap (λ (ls : List (List ℕ)). printed_by old.page finding (printed_by old.page finding p0 (rows_at n ls)) (row_at (n + count) line true ∷ [])) rows
          ∙ ap (λ (i : ℕ). printed_by old.page finding (printed_by old.page finding p0 shown) (row_at (n + i) line true ∷ [])) size
          ∙ sym (printed_append (opening_of old.page) (gap old.page.options.now) (shown_bytes old.page.options.now finding old.page.name.now)
          shown (row_at (n + length (drop (length lines - before) lines)) line true ∷ []) p0)),
    )

pub returns-clause-room : goal.returns-clause-room
returns-clause-room g c = omega (
  arith,
  shown_within c.args.held.now c.last_lines-start.result c.args.self.now.page.options.now.before c.counted.result c.show_lines-passed.result.count
      c.last_lines-start.ensures.within c.counted.ensures.within c.show_lines-passed.ensures.count,
)
