use Rattle.std.proofs.Common.{◌≡◌, ◌+◌, ◌-◌, ◌≤◌, ◌⊎◌, inl, inr, ◌++◌, ℕ, true, false, List, length, take, drop, refl, sym, ap, subst, ◌∙◌, arith, length-append, length-take, length-drop}
use Rattle.std.proofs.lemmas.Bool.{cases_lt, false≢true}
use Rattle.std.proofs.lemmas.Bool.Decides.{nat_tests}
use Rattle.std.proofs.lemmas.List.{take_all, take_rest}
use Rattle.cs_match.specs.Lines.{terminated_lines}
use Rattle.cs_match.specs.Skipping.{AreWholeLines}
use Rattle.cs_match.proofs.LinesLemmas.{lines_within}
use Rattle.cs_match.proofs.SkippedLineLemmas.{whole_none}
use Rattle.cs_match.proofs.WholeLineLemmas.{ended_prefix, whole_drop}
use Rattle.cs_lines.specs.Contexts.{Row}
use Rattle.cs_lines.specs.Scans.{Fits, rows_by}
use Rattle.cs_lines.specs.Shown.{is_wanted}
use Rattle.cs_lines.specs.Spacing.{has_numbers, printed_by, progress_of, seen}
use Rattle.cs_lines.specs.Streams.{IsTrimmed}
use Rattle.cs_lines.specs.Work.{has_context}
use Rattle.cs_lines.specs.declared.form.ShowOptions.{ShowOptions}
use Rattle.cs_lines.specs.declared.rows.Rows.{Rows}
use Rattle.cs_lines.proofs.NumberLemmas.{alike_by, alike_scan}
use Rattle.cs_lines.proofs.StreamLemmas.{fits_drop, trim_rows}
use Rattle.cs_lines.proofs.rows.Rows.trim.Goals.{After-line_count}
use Rattle.cs_lines.proofs.rows.Rows.trim.Goals as goal

-- the first lines are dropped, `count` many if numbers matter
module _ (old : Rows) (held : List ℕ) (start count : ℕ) (whole : AreWholeLines held) (fits : Fits (terminated_lines held) old.left)
    (within : start ≤ length held) (first : AreWholeLines (take start held)) (few : count ≤ start)
    (exact : has_numbers old.page.options.now ≡ true → count ≡ length (terminated_lines (take start held)))
    (enough : (length (terminated_lines (take start held)) ≡ 0) ⊎ (old.page.options.now.before ≤ length (terminated_lines (drop start held)))) where
  trimmed : IsTrimmed old (record old { number = old.number + count }) held start
  trimmed =
      let before = old.page.options.now.before in
      let xs = terminated_lines (take start held) in
      let ys = terminated_lines (drop start held) in
      let split : terminated_lines held ≡ xs ++ ys = ended_prefix held start first in
      let fits' : Fits (xs ++ ys) old.left = subst (λ (ls : List (List ℕ)). Fits ls old.left) split fits in
      record {
        within = within;
        whole = whole_drop start held whole;
        fits = fits_drop xs ys old.left fits';
        page = refl;
        room = omega (arith, few);
        shown = (refl, refl);
        rows = λ given finding later.
            let wanted = is_wanted old.page.options.now finding.has_match in
            let p = progress_of old given in
            let n = old.number + length xs in
            let m = old.number + count in
            let right = rows_by (record old { number = n }) finding ys later in
            let came = rows_by (record old { number = m }) finding ys later in
            ap (λ (ls : List (List ℕ)). seen (printed_by old.page finding p (rows_by old finding ls later))) split
            ∙ ap (λ (rs : List Row). seen (printed_by old.page finding p rs))
            (trim_rows before old.page.options.now.after wanted later xs ys old.number old.left old.most fits' enough)
            ∙ alike_by old.page finding right came p (λ numbers. ap (λ (i : ℕ). rows_by (record old { number = old.number + i }) finding ys later) (sym (exact numbers)))
            (alike_scan before old.page.options.now.after wanted later n m old.left old.most ys);
      }

no_context : (options : ShowOptions) → false ≡ has_context options → options.before ≡ 0
no_context options e = grind (arith, nat_tests, e)

pub returns-then-not-has_context-clause-trimmed : goal.returns-then-not-has_context-clause-trimmed
returns-then-not-has_context-clause-trimmed c =
    let old = c.args.self.now in
    let held = c.args.held.now in
    let all = length held in
    let size : all ≡ all - 0 = omega arith in
    let full = take_all all held (omega arith) in
    let none = no_context old.page.options.now (sym c.if-not-has_context.true ∙ c.has_context.ensures) in
    subst (IsTrimmed old (record old { number = old.number + c.counted.result }) held) size
    (trimmed old held all c.counted.result c.requires.whole c.requires.fits (omega arith) (subst AreWholeLines (sym full) c.requires.whole)
    c.counted.ensures.within (λ numbers. c.counted.ensures.exact numbers ∙ ap (λ (t : List ℕ). length (terminated_lines t)) (sym full))
    (inr (omega (arith, none))))

pub returns-then-not-has_context-clause-counted : goal.returns-then-not-has_context-clause-counted
returns-then-not-has_context-clause-counted c = record {
  within = omega arith;
  whole = whole_none;
  lines = λ has. absurd (false≢true (sym c.if-not-has_context.true ∙ c.has_context.ensures ∙ has));
}

-- how many lines are held
module _ (options : ShowOptions) (held : List ℕ) (len lines more : ℕ) (first : AreWholeLines (take len held))
    (is : lines ≡ length (terminated_lines (take len held))) (rest : more ≡ length (terminated_lines (take (length held - len) (drop len held)))) where
  all_lines : lines + more ≡ length (terminated_lines held)
  all_lines =
      let xs = terminated_lines (take len held) in
      let ys = terminated_lines (drop len held) in
      let same : length (terminated_lines (take (length held - len) (drop len held))) ≡ length ys = ap (λ (t : List ℕ). length (terminated_lines t)) (take_rest held len) in
      omega (arith, is, rest, same, ap (λ (ls : List (List ℕ)). length ls) (ended_prefix held len first), length-append xs ys)

counted_all : (c : After-line_count) → c.args.known.lines + c.line_count.result ≡ length (terminated_lines c.args.held.now)
counted_all c =
    let known = c.requires.known in
    all_lines c.args.self.now.page.options.now c.args.held.now c.args.known.len c.args.known.lines c.line_count.result known.whole
    (known.lines (sym c.has_context.ensures ∙ c.if-not-has_context.false)) c.line_count.ensures.exact

pub overflow_add-lines : goal.overflow_add-lines
overflow_add-lines c = omega (arith, counted_all (goal.at.overflow_add-lines c).After-line_count, lines_within c.args.held.now, c.requires.room)

pub overflow_add-self-2 : goal.overflow_add-self-2
overflow_add-self-2 c =
    omega (arith, counted_all (goal.at.overflow_add-self-2 c).After-line_count, lines_within c.args.held.now, c.requires.room, c.saturating_sub-extra.ensures)

-- the numbers of lines that are dropped and kept
sizes : (held : List ℕ) (start extra all before : ℕ) → AreWholeLines (take start held) → terminated_lines (drop start held) ≡ drop extra (terminated_lines held) →
    all ≡ length (terminated_lines held) → extra ≡ all - before →
    (length (terminated_lines (take start held)) ≡ extra) × (length (terminated_lines (drop start held)) ≡ all - extra)
sizes held start extra all before first rest is few =
    let xs = terminated_lines (take start held) in
    let ys = terminated_lines (drop start held) in
    let sum = ap (λ (ls : List (List ℕ)). length ls) (ended_prefix held start first) in
    let last = ap (λ (ls : List (List ℕ)). length ls) rest in (
      omega (arith, sum, length-append xs ys, last, length-drop extra (terminated_lines held), is, few),
      omega (arith, last, length-drop extra (terminated_lines held), is),
    )

some_left : (xs ys extra all before : ℕ) → xs ≡ extra → ys ≡ all - extra → extra ≡ all - before → (xs ≡ 0) ⊎ (before ≤ ys)
some_left xs ys extra all before a b few = elim (cases_lt before all) [ inl low ↦ inr (omega (arith, b, few, low)) | inr high ↦ inl (omega (arith, a, few, high)) ]

pub returns-clause-trimmed : goal.returns-clause-trimmed
returns-clause-trimmed c =
    let old = c.args.self.now in
    let held = c.args.held.now in
    let e = c.first_lines-start.ensures in
    let start = c.first_lines-start.result in
    let extra = c.saturating_sub-extra.result in
    let all = c.args.known.lines + c.line_count.result in
    let before = old.page.options.now.before in
    let is = counted_all (goal.at.returns-clause-trimmed c).After-line_count in
    let few : extra ≡ all - before = omega (arith, c.saturating_sub-extra.ensures) in
    let n = sizes held start extra all before e.whole e.rest is few in
    let size : start ≡ length held - (length held - start) = omega (arith, e.within) in
    subst (IsTrimmed old (record old { number = old.number + extra }) held) size
    (trimmed old held start extra c.requires.whole c.requires.fits e.within e.whole
    (omega (arith, n.0, lines_within (take start held), length-take start held)) (λ numbers. sym n.0)
    (some_left (length (terminated_lines (take start held))) (length (terminated_lines (drop start held))) extra all before n.0 n.1 few))

pub returns-clause-counted : goal.returns-clause-counted
returns-clause-counted c =
    let old = c.args.self.now in
    let held = c.args.held.now in
    let e = c.first_lines-start.ensures in
    let start = c.first_lines-start.result in
    let extra = c.saturating_sub-extra.result in
    let all = c.args.known.lines + c.line_count.result in
    let is = counted_all (goal.at.returns-clause-counted c).After-line_count in
    let n = sizes held start extra all old.page.options.now.before e.whole e.rest is (omega (arith, c.saturating_sub-extra.ensures)) in
    let size : length held - (length held - start) ≡ start = omega (arith, e.within) in
    let rest = drop start held in
    let full : take (length held - start) rest ≡ rest = take_all (length held - start) rest (omega (arith, length-drop start held)) in
    let there : drop (length held - (length held - start)) held ≡ rest = ap (λ (k : ℕ). drop k held) size in
    record {
      within = omega (arith, ap (λ (t : List ℕ). length t) there, length-drop start held);
      whole = subst AreWholeLines (sym (ap (take (length held - start)) there ∙ full)) (whole_drop start held c.requires.whole);
      lines = λ _. sym n.1 ∙ ap (λ (t : List ℕ). length (terminated_lines t)) (sym (ap (take (length held - start)) there ∙ full));
    }
