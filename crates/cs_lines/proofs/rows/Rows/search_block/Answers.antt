use Rattle.std.proofs.Common.{◌≡◌, ◌≤◌, ◌+◌, ◌-◌, ◌*◌, ◌++◌, ◌⊎◌, inl, inr, [], ℕ, Bool, List, Option, false, length, take, drop, refl, sym, ap, subst, ◌∙◌, arith}
use Rattle.std.proofs.lemmas.List.{drop_all, take-append-drop}
use Rattle.cs_match.specs.Lines.{terminated_lines}
use Rattle.cs_match.specs.MatchingEnds.{matching_ends}
use Rattle.cs_match.specs.Skipped.{AreLinesBetween}
use Rattle.cs_match.specs.Skipping.{AreWholeLines}
use Rattle.cs_match.proofs.WholeLineLemmas.{whole_append, whole_from}
use Rattle.cs_lines.specs.Contexts.{is_open}
use Rattle.cs_lines.specs.Findings.{listed_ends}
use Rattle.cs_tree.specs.SinkOutputs.{Begins, given}
use Rattle.cs_lines.specs.Scans.{Fits, NoneMarked, Scan, rows_by, scan_of, scan_rows}
use Rattle.cs_lines.specs.Shown.{gap, is_wanted, shown_bytes}
use Rattle.cs_lines.specs.Spacing.{opening_of, printed_by, progress_of, seen}
use Rattle.cs_lines.specs.declared.rows.Page.{Page}
use Rattle.cs_lines.specs.declared.searching.Place.{Place}
use Rattle.cs_lines.proofs.BlockLemmas.{lines_from}
use Rattle.cs_lines.proofs.FindingLemmas.{found_same, finds_before, keeps_again, keeps_itself, stops_again}
use Rattle.cs_lines.proofs.PlaceLemmas.{any_err, begins_then, lines_none, marks_here, marks_then, none_append, none_closed, placed_kept}
use Rattle.cs_tree.proofs.SinkOutputLemmas.{keeps_same, keeps_then}
use Rattle.cs_lines.proofs.SearchLemmas.{pass_step}
use Rattle.cs_match.specs.Work.{WorksWithin}
use Rattle.cs_lines.specs.Work.{line_weight, search_work, walks}
use Rattle.cs_lines.proofs.WorkLemmas.{block_less, block_more, block_passed, same_weight, works_any}
use Rattle.cs_lines.proofs.rows.Rows.search_block.Goals as goal
use Rattle.cs_lines.proofs.rows.Rows.search_block.Goals.{then-lists-test+else-is_open, else-lists-test}

none_of : terminated_lines [] ≡ []
unfolding terminated_lines
none_of = refl

pub lists-init : goal.lists-init
lists-init g c =
    let r = c.requires in
    let block = c.args.block.now in
    let from = c.args.from in
    let rows = c.args.self.now in
    let first : Place = record { block = c.args.block; held = 0; at = from } in
    let size : from ≡ from - 0 = omega arith in
    let none : from - from ≡ 0 = omega arith in
    record {
      marks = marks_here c.args.search.now c.args.search.now rows (given c.args.out.now) first from (record {
        order = omega arith;
        whole = subst AreWholeLines (take-append-drop from block) (whole_append (take from block) (drop from block) r.whole.0 r.whole.1);
        between = subst (λ (n : ℕ). AreWholeLines (take n block)) size r.whole.0;
        lines = lines_none block from r.within;
        fits = subst (λ (n : ℕ). Fits (terminated_lines (take n block)) rows.left) size r.fits;
        unmarked = λ test tests. subst (NoneMarked (is_wanted rows.page.options.now test) rows.most)
            (sym (ap (λ (n : ℕ). terminated_lines (take n (drop from block))) none ∙ none_of)) tt;
      });
      same = keeps_itself c.args.search.now;
      budget = λ alone. refl;
      work = works_any (search_work (line_weight c.args.search.now) (from - from) + walks rows.page.options.now * 0) c.args.search.now.matcher;
      low = omega arith;
      keeps = keeps_same g.O.Sink.model g.O.Sink.failed c.args.out.now;
    }

pub list_lines-to-requires-clause-whole : goal.list_lines-to-requires-clause-whole
list_lines-to-requires-clause-whole g c =
    let m = c.lists.invariant.marks in
    let p = m.placed in
    whole_from c.args.block.now c.lists.place.held c.lists.offset (omega (arith, p.order, p.lines.low))
    (subst (λ b. AreWholeLines (drop c.lists.place.held b.now)) m.block p.whole)

pub mark_listed-requires-clause-placed : goal.mark_listed-requires-clause-placed
mark_listed-requires-clause-placed g c =
    placed_kept c.lists.search c.list_lines-to.new.self c.lists.self c.lists.place c.lists.offset c.list_lines-to.ensures.same c.lists.invariant.marks.placed

pub mark_listed-requires-clause-lines : goal.mark_listed-requires-clause-lines
mark_listed-requires-clause-lines g c =
    subst (λ b. AreLinesBetween b.now c.lists.offset c.list_lines-to.result) (sym c.lists.invariant.marks.block) c.list_lines-to.ensures.lines

pub mark_listed-requires-clause-listed : goal.mark_listed-requires-clause-listed
mark_listed-requires-clause-listed g c = λ test finds.
    subst (λ b. listed_ends c.list_lines-to.new.self ≡ matching_ends test b.now c.lists.offset c.list_lines-to.result) (sym c.lists.invariant.marks.block)
    (c.list_lines-to.ensures.listed test (finds_before c.lists.search c.list_lines-to.new.self c.list_lines-to.ensures.same test finds))

pub returns-in_err-place-clause-begins : goal.returns-in_err-place-clause-begins
returns-in_err-place-clause-begins g c =
    let i = c.lists.invariant in
    let search = c.args.search.now in
    let mid = c.list_lines-to.new.self in
    let listed = c.list_lines-to.ensures.same in
    let kept = keeps_again search c.lists.search mid i.same listed in
    let later = given c.mark_listed.new.out in
    let block = c.args.block.now in
    let from = c.args.from in
    let rows = c.args.self.now in
    let first : Place = record { block = c.args.block; held = 0; at = from } in
    let size : from - 0 ≡ from = omega arith in
    any_err c.from_residual.result (λ none finding more found.
    subst (λ (n : ℕ). Begins later (printed_by rows.page finding (progress_of rows (given c.args.out.now))
    (rows_by rows finding (terminated_lines (take n block)) (terminated_lines (drop from block) ++ more))).given) size
    (begins_then search mid c.mark_listed.new.search rows c.lists.self (given c.args.out.now) (given c.lists.out) later first c.lists.place c.lists.offset kept
    c.mark_listed.ensures.same
    (marks_then search c.lists.search mid rows c.lists.self c.lists.self (given c.args.out.now) (given c.lists.out) (given c.lists.out) first c.lists.place c.lists.place
    c.lists.offset c.lists.offset i.same listed i.marks
    (marks_here c.lists.search mid c.lists.self (given c.lists.out) c.lists.place c.lists.offset
    (placed_kept c.lists.search mid c.lists.self c.lists.place c.lists.offset listed i.marks.placed)))
    c.in_err-place.ensures.begins none finding more found))

pub lists-preserved : goal.lists-preserved
lists-preserved g c =
    let i = c.lists.invariant in
    let search = c.args.search.now in
    let mid = c.list_lines-to.new.self in
    let listed = c.list_lines-to.ensures.same in
    let kept = keeps_again search c.lists.search mid i.same listed in
    let rows = c.args.self.now in
    let first : Place = record { block = c.args.block; held = 0; at = c.args.from } in
    record {
      marks = marks_then search mid c.mark_listed.new.search rows c.lists.self c.mark_listed.new.self (given c.args.out.now) (given c.lists.out)
          (given c.mark_listed.new.out) first c.lists.place c.in_ok-place.place c.lists.offset c.list_lines-to.result kept c.mark_listed.ensures.same
          (marks_then search c.lists.search mid rows c.lists.self c.lists.self (given c.args.out.now) (given c.lists.out) (given c.lists.out) first c.lists.place
          c.lists.place c.lists.offset c.lists.offset i.same listed i.marks
          (marks_here c.lists.search mid c.lists.self (given c.lists.out) c.lists.place c.lists.offset
          (placed_kept c.lists.search mid c.lists.self c.lists.place c.lists.offset listed i.marks.placed)))
          c.in_ok-place.ensures.marks;
      same = keeps_again search mid c.mark_listed.new.search kept c.mark_listed.ensures.same;
      budget = stops_again rows.page c.lists.self.page search mid c.mark_listed.new.search i.marks.page (λ alone. c.list_lines-to.ensures.budget ∙ i.budget alone)
          c.mark_listed.ensures.budget;
      work =
          let m = c.in_ok-place.ensures in
          let new = c.mark_listed.new.search.matcher in
          block_more (walks rows.page.options.now) (line_weight search) (line_weight c.lists.search) (c.lists.offset - c.args.from)
          (c.list_lines-to.result - c.lists.offset) (c.list_lines-to.result - c.args.from) c.lists.place.held c.in_ok-place.place.held search.matcher
          c.lists.search.matcher mid.matcher new (same_weight search c.lists.search i.same) (omega (arith, c.list_lines-to.ensures.moves, i.low))
          m.marks.rises i.work c.list_lines-to.ensures.work
          (subst (λ page. WorksWithin (c.list_lines-to.result - c.lists.offset + walks page.options.now * (c.in_ok-place.place.held - c.lists.place.held)) mid.matcher new)
          i.marks.page m.work);
      low = omega (arith, i.low, c.list_lines-to.ensures.moves);
      keeps = keeps_then g.O.Sink.model g.O.Sink.failed c.args.out.now c.lists.out c.mark_listed.new.out i.keeps c.mark_listed.ensures.keeps;
    }

-- at the end, or where no line may be marked, no line that was not passed is
none_left : (wanted : List ℕ → Bool) (most : Option ℕ) (block : List ℕ) (at offset : ℕ) → AreLinesBetween block at offset →
    (length block ≤ offset) ⊎ (is_open most ≡ false) → NoneMarked wanted most (terminated_lines (take (offset - at) (drop at block))) →
    NoneMarked wanted most (terminated_lines (drop at block))
none_left wanted most block at offset lines (inl end) none =
    subst (NoneMarked wanted most) (sym (lines_from block at offset lines.low lines.whole))
    (none_append wanted most (terminated_lines (take (offset - at) (drop at block))) (terminated_lines (drop offset block)) none
    (subst (NoneMarked wanted most) (sym (ap terminated_lines (drop_all offset block end) ∙ none_of)) tt))
none_left wanted most block at offset lines (inr closed) none = none_closed wanted most (terminated_lines (drop at block)) closed

pub returns-clause-rows : goal.returns-clause-rows
returns-clause-rows g c = λ whole finding later found.
    let i = c.lists.invariant in
    let block = c.args.block.now in
    let from = c.args.from in
    let fn = c.args.self.now in
    let cur = c.lists.self in
    let new = c.pass-held.new.self in
    let place = c.lists.place in
    let options = cur.page.options.now in
    let wanted = is_wanted options finding.has_match in
    let shown = c.pass-held.ensures.rows in
    let p = c.pass-held.ensures.passed in
    let now = terminated_lines (drop c.pass-held.result block) in
    let held = terminated_lines (take (place.at - place.held) (drop place.held block)) in
    let here = found_same c.args.search.now c.lists.search i.same finding found in
    let q = progress_of cur (given c.lists.out) in
    let r = progress_of new (given c.pass-held.new.out) in
    let size : from ≡ from - 0 = omega arith in
    let same = i.marks.block in
    let placed = i.marks.placed in
    let ended : (length block ≤ c.lists.offset) ⊎ (is_open cur.most ≡ false) =
    elim c.lists-test.branch [
      | then-lists-test+else-is_open w ↦ inr (sym w.is_open.ensures ∙ w.if-is_open.false)
      | else-lists-test w ↦ inl (omega (arith, w.lists-test.false))
    ] in
    let none = none_left wanted cur.most block place.at c.lists.offset (subst (λ b. AreLinesBetween b.now place.at c.lists.offset) same placed.lines) ended
    (subst (λ b. NoneMarked wanted cur.most (terminated_lines (take (c.lists.offset - place.at) (drop place.at b.now)))) same
    (placed.unmarked finding.has_match here.0)) in
    let fits = subst (λ b. Fits (terminated_lines (take (place.at - place.held) (drop place.held b.now))) cur.left) same placed.fits in
    ap (λ (n : ℕ). seen (printed_by fn.page finding (progress_of fn (given c.args.out.now))
    (rows_by fn finding (terminated_lines (take n block)) (terminated_lines (drop from block) ++ later)))) size
    ∙ i.marks.rows (c.add_steps.ensures.same.3 whole) finding later found
    ∙ ap (λ b. seen (printed_by cur.page finding q (rows_by cur finding (terminated_lines (take (place.at - place.held) (drop place.held b.now)))
    (terminated_lines (drop place.at b.now) ++ later)))) same
    ∙ ap seen (pass_step (opening_of cur.page) (gap options) (shown_bytes options finding cur.page.name.now) options.before options.after wanted cur.most
    (terminated_lines (drop place.at block)) later held now cur.number cur.left new.number new.left fits none p.number p.left p.lines q r (shown.0 finding))
    ∙ ap (λ (m : Option ℕ). let s : Scan = record { number = new.number; most = m; left = new.left } in
    seen (printed_by cur.page finding r (scan_rows options.before options.after wanted s now later))) (sym p.most)
    ∙ ap (λ (page : Page). seen (printed_by page finding r (scan_rows page.options.now.before page.options.now.after
    (is_wanted page.options.now finding.has_match) (scan_of new) now later))) (sym shown.1)

pub returns-in_err-place-clause-cut : goal.returns-in_err-place-clause-cut
returns-in_err-place-clause-cut g c =
    let i = c.lists.invariant in
    let block = c.args.block.now in
    let to = c.list_lines-to.result in
    let p = i.marks.placed in
    let times = walks c.args.self.now.page.options.now in
    let w = line_weight c.args.search.now in
    let old = c.args.search.now.matcher in
    let mid = c.list_lines-to.new.self.matcher in
    let new = c.mark_listed.new.search.matcher in
    let lines = c.list_lines-to.ensures.lines in
    any_err c.from_residual.result
    (block_less times w (to - c.args.from) (length block - c.args.from) to (length block) old new (omega (arith, lines.high)) (omega (arith, lines.high))
    (block_more times w (line_weight c.lists.search) (c.lists.offset - c.args.from) (to - c.lists.offset) (to - c.args.from) c.lists.place.held to old
    c.lists.search.matcher mid new (same_weight c.args.search.now c.lists.search i.same)
    (omega (arith, c.list_lines-to.ensures.moves, i.low)) (omega (arith, p.order, p.lines.low, lines.low)) i.work c.list_lines-to.ensures.work
    (subst (λ page. WorksWithin (to - c.lists.offset + walks page.options.now * (to - c.lists.place.held)) mid new) i.marks.page c.in_err-place.ensures.cut)))

pub returns-clause-work : goal.returns-clause-work
returns-clause-work g c =
    let i = c.lists.invariant in
    let p = i.marks.placed in
    let within : c.lists.offset ≤ length c.args.block.now = subst (λ b. c.lists.offset ≤ length b.now) i.marks.block p.lines.high in
    block_passed (walks c.args.self.now.page.options.now) (line_weight c.args.search.now) (c.lists.offset - c.args.from) (length c.args.block.now - c.args.from) c.lists.place.held c.pass-held.result
    c.args.search.now.matcher c.lists.search.matcher c.add_steps.new.self.matcher (omega arith) (omega (arith, within))
    (omega (arith, c.pass-held.ensures.passed.room, c.pass-held.ensures.passed.number)) i.work c.add_steps.ensures.work
