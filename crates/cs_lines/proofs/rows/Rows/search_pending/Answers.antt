use Rattle.std.proofs.Common.{◌≡◌, ◌+◌, ◌-◌, ◌*◌, ◌≤◌, ◌++◌, if◌then◌else◌, ℕ, List, length, take, drop, refl, sym, ap, subst, ◌∙◌, arith, length-take, length-drop, inl, inr, []}
use Rattle.std.proofs.lemmas.Bool.{cases_lt}
use Rattle.cs_match.proofs.SkippedLineLemmas.{whole_none}
use Rattle.cs_lines.specs.declared.form.ShowOptions.{ShowOptions}
use Rattle.cs_lines.specs.declared.stream.HeldLines.{HeldLines}
use Rattle.std.proofs.lemmas.List.{drop-drop, length-take-le, take-take, take_rest}
use Rattle.cs_match.specs.LastPart.{last_part}
use Rattle.cs_match.specs.Lines.{terminated_lines}
use Rattle.cs_match.specs.NoNewline.{HasNoNewline}
use Rattle.cs_match.specs.Skipping.{AreWholeLines}
use Rattle.cs_match.proofs.LinesLemmas.{last_part-part, terminated_lines-part}
use Rattle.cs_match.proofs.WholeLineLemmas.{ended_all, rest_is_last, whole_drop}
use Rattle.cs_lines.specs.Buffer.{pending_bytes}
use Rattle.cs_tree.specs.SinkOutputs.{Begins, given}
use Rattle.cs_lines.specs.Scans.{Fits, rows_by}
use Rattle.cs_lines.specs.Spacing.{printed_by, progress_of, seen}
use Rattle.cs_lines.specs.Streams.{IsCounted, IsReady, no_held}
use Rattle.cs_lines.proofs.FindingLemmas.{found_same}
use Rattle.cs_lines.proofs.PlaceLemmas.{any_err, rest_of_slice}
use Rattle.cs_lines.proofs.SearchLemmas.{cut_rest}
use Rattle.cs_match.specs.Work.{WorksWithin}
use Rattle.cs_lines.specs.declared.rows.Page.{Page}
use Rattle.cs_lines.specs.Work.{has_context, line_weight, part_work, search_work, walks}
use Rattle.cs_lines.proofs.WorkLemmas.{block_less, block_shown, same_weight, works_fewer, works_more}
use Rattle.cs_lines.proofs.rows.Rows.search_pending.Goals as goal

none_of : terminated_lines [] ≡ []
unfolding terminated_lines
none_of = refl

-- ---- no line has ended

pub returns-in_default-clause-rows : goal.returns-in_default-clause-rows
returns-in_default-clause-rows g c =
    let text = pending_bytes c.args.buffer.now in
    let from = c.args.held.len in
    let part : HasNoNewline (drop from text) = subst (λ (t : List ℕ). HasNoNewline (drop from t)) c.pending-text.ensures c.in_default.ensures in
    let old = c.args.self.now in
    record {
      rest = sym (last_part-part (drop from text) part);
      fewer = omega arith;
      page = refl;
      rows = λ whole finding later found. ap (λ (ls : List (List ℕ)). seen (printed_by old.page finding (progress_of old (given c.args.out.now))
          (rows_by old finding (terminated_lines (take from text)) (ls ++ later)))) (terminated_lines-part (drop from text) part);
    }

-- ---- some have

left_over : (text : List ℕ) (start end : ℕ) → start ≤ end → drop (end - start) (drop start text) ≡ drop end text
left_over text start end order =
    let size : start + (end - start) ≡ end = omega arith in
    drop-drop (end - start) start text ∙ ap (λ n. drop n text) size

module _ (text : List ℕ) (from end : ℕ) (order : from ≤ end) (high : end ≤ length text) (whole : AreWholeLines (take end text))
    (part : HasNoNewline (drop end text)) where
  cut : drop from (take end text) ≡ take (end - from) (drop from text)
  cut = cut_rest text end high from order

  first_whole : AreWholeLines (take (end - from) (drop from text))
  first_whole = subst AreWholeLines cut (whole_drop from (take end text) whole)

  rest_part : HasNoNewline (drop (end - from) (drop from text))
  rest_part = subst HasNoNewline (sym (left_over text from end order)) part

  -- the lines that have ended, and the bytes after them
  ended_lines : terminated_lines (drop from (take end text)) ≡ terminated_lines (drop from text)
  ended_lines = ap terminated_lines cut ∙ sym (ended_all (drop from text) (end - from) first_whole rest_part)

  last_rest : drop end text ≡ last_part (drop from text)
  last_rest = sym (left_over text from end order) ∙ rest_is_last (drop from text) (end - from) first_whole rest_part

pub search_block-requires-clause-whole : goal.search_block-requires-clause-whole
search_block-requires-clause-whole g c =
    let e = c.in-Some.ensures in
    let text = c.pending-text.result.now in
    let from = c.args.held.len in (
      subst AreWholeLines (sym (take-take from c.in-Some.end text e.0 ∙ ap (take from) c.pending-text.ensures)) c.requires.ready.whole,
      whole_drop from (take c.in-Some.end text) e.2,
    )

pub search_block-requires-clause-fits : goal.search_block-requires-clause-fits
search_block-requires-clause-fits g c =
    let from = c.args.held.len in
    subst (λ (t : List ℕ). Fits (terminated_lines t) c.args.self.now.left)
    (sym (take-take from c.in-Some.end c.pending-text.result.now c.in-Some.ensures.0 ∙ ap (take from) c.pending-text.ensures)) c.requires.ready.fits

pub returns-in_err-start-clause-begins : goal.returns-in_err-start-clause-begins
returns-in_err-start-clause-begins g c =
    let e = c.in-Some.ensures in
    let text = c.pending-text.result.now in
    let is = c.pending-text.ensures in
    let end = c.in-Some.end in
    let from = c.args.held.len in
    let old = c.args.self.now in
    any_err c.from_residual.result (λ none finding more found.
    subst (λ (t : List ℕ). Begins (given c.search_block.new.out) (printed_by old.page finding (progress_of old (given c.args.out.now))
    (rows_by old finding (terminated_lines (take from t)) (terminated_lines (drop from t) ++ more))).given) is
    (subst (λ (ls : List (List ℕ)). Begins (given c.search_block.new.out) (printed_by old.page finding (progress_of old (given c.args.out.now))
    (rows_by old finding (terminated_lines (take from text)) (ls ++ more))).given) (ended_lines text from end e.0 e.1 e.2 e.3)
    (subst (λ (h : List ℕ). Begins (given c.search_block.new.out) (printed_by old.page finding (progress_of old (given c.args.out.now))
    (rows_by old finding (terminated_lines h) (terminated_lines (drop from (take end text)) ++ more))).given) (take-take from end text e.0)
    (c.in_err-start.ensures.begins none finding more (found_same c.args.search.now c.add_steps.new.self c.add_steps.ensures.same finding found)))))

-- what is held after the search
low : (end held : ℕ) (text : List ℕ) → end ≤ length text → held ≤ length (take end text) → held ≤ end
low end held text within h = omega (arith, h, length-take-le end text within)

slice_size : (end held : ℕ) (text : List ℕ) → end ≤ length text → length (take (end - held) (drop held text)) ≡ end - held
slice_size end held text within = omega (arith, length-take (end - held) (drop held text), length-drop held text, within)

pub trim-kept-requires-clause-whole : goal.trim-kept-requires-clause-whole
trim-kept-requires-clause-whole g c =
    let text = c.pending-text.result.now in
    let within = c.in-Some.ensures.1 in
    let h = c.in_ok-start.ensures in
    subst AreWholeLines (cut_rest text c.in-Some.end within c.in_ok-start.start (low c.in-Some.end c.in_ok-start.start text within h.within)) h.whole

pub trim-kept-requires-clause-fits : goal.trim-kept-requires-clause-fits
trim-kept-requires-clause-fits g c =
    let text = c.pending-text.result.now in
    let within = c.in-Some.ensures.1 in
    let h = c.in_ok-start.ensures in
    subst (λ (t : List ℕ). Fits (terminated_lines t) c.search_block.new.self.left)
    (cut_rest text c.in-Some.end within c.in_ok-start.start (low c.in-Some.end c.in_ok-start.start text within h.within)) h.fits

-- the lines that are held, and the bytes after them
kept : (text : List ℕ) (held more end : ℕ) → held + more ≤ end →
    take (end - (held + more)) (drop (held + more) text) ≡ drop more (take (end - held) (drop held text))
kept text held more end order = sym (rest_of_slice text held more end order)

-- the lines that are held after the search of the block, and where they begin
more_of : (text : List ℕ) (end start len : ℕ) → end ≤ length text → start ≤ end → len ≤ length (take (end - start) (drop start text)) →
    start + (length (take (end - start) (drop start text)) - len) ≡ end - len
more_of text end start len within order few = omega (arith, slice_size end start text within, order, few)

kept_size : (text : List ℕ) (end start len : ℕ) → end ≤ length text → len ≤ length (take (end - start) (drop start text)) → len ≤ end - start
kept_size text end start len within few = omega (arith, slice_size end start text within, few)

-- those that were held before, if none were shown or dropped
known_from : (options : ShowOptions) (text : List ℕ) (end start : ℕ) (held known : HeldLines) → end ≤ length text → held.len ≤ end → IsCounted options text held →
    (start ≡ 0 → known ≡ held) → ((start ≡ 0 → ⊥) → known ≡ no_held) → IsCounted options (take (end - start) (drop start text)) known
known_from options text end start held known within low counted same none =
    elim (cases_lt 0 start) [
      | inl some ↦ subst (IsCounted options (take (end - start) (drop start text))) (sym (none (λ zero. let wrong : ⊥ = omega (arith, some, zero) in wrong))) (record {
        within = omega arith;
        whole = whole_none;
        lines = λ has. sym (ap (λ (ls : List (List ℕ)). length ls) none_of);
      })
      | inr all ↦
          let zero : start ≡ 0 = omega (arith, all) in
          let first : take held.len (take (end - 0) text) ≡ take held.len text = take-take held.len (end - 0) text (omega (arith, low)) in
          subst (λ (n : ℕ). IsCounted options (take (end - n) (drop n text)) known) (sym zero)
          (subst (IsCounted options (take (end - 0) text)) (sym (same zero)) (record {
            within = omega (arith, length-take (end - 0) text, within, low);
            whole = subst AreWholeLines (sym first) counted.whole;
            lines = λ has. counted.lines has ∙ ap (λ (t : List ℕ). length (terminated_lines t)) (sym first);
          }))
    ]

pub trim-kept-requires-clause-known : goal.trim-kept-requires-clause-known
trim-kept-requires-clause-known g c =
    let text = c.pending-text.result.now in
    let e = c.in-Some.ensures in
    let slice = take (c.in-Some.end - c.in_ok-start.start) (drop c.in_ok-start.start text) in
    subst (λ page. IsCounted page.options.now slice c.from.result) (sym c.in_ok-start.ensures.page)
    (known_from c.args.self.now.page.options.now text c.in-Some.end c.in_ok-start.start c.args.held c.from.result e.1 e.0
    (subst (λ (t : List ℕ). IsCounted c.args.self.now.page.options.now t c.args.held) (sym c.pending-text.ensures) c.requires.known)
    c.from.ensures.same c.from.ensures.none)

module _ (text : List ℕ) (end start len : ℕ) (within : end ≤ length text) (order : start ≤ end)
    (few : len ≤ length (take (end - start) (drop start text))) where
  abbrev slice : List ℕ
  slice = take (end - start) (drop start text)

  abbrev more : ℕ
  more = length slice - len

  left_len : end - (end - len) ≡ len
  left_len = omega (arith, kept_size text end start len within few, order)

  cut_same : take len (drop (end - len) text) ≡ drop more slice
  cut_same =
      ap (λ (n : ℕ). take n (drop (end - len) text)) (sym left_len)
      ∙ ap (λ (n : ℕ). take (end - n) (drop n text)) (sym (more_of text end start len within order few))
      ∙ kept text start more end (omega (arith, more_of text end start len within order few))

pub returns-clause-ready : goal.returns-clause-ready
returns-clause-ready g c =
    let e = c.in-Some.ensures in
    let t = c.trim-kept.ensures.trimmed in
    let text = c.pending-text.result.now in
    let end = c.in-Some.end in
    let start = c.in_ok-start.start in
    let len = c.trim-kept.result.len in
    let order = low end start text e.1 c.in_ok-start.ensures.within in
    let few = c.trim-kept.ensures.within in
    let from = end - len in
    let left : end - from ≡ len = left_len text end start len e.1 order few in
    let size = length-drop from text in
    let cut = cut_same text end start len e.1 order few in
    subst (λ (x : List ℕ). IsReady c.trim-kept.new.self x len (length x)) (ap (drop from) c.pending-text.ensures ∙ sym c.skip.ensures.pending) (record {
      low = omega (arith, size, e.1, left);
      high = omega arith;
      whole = subst AreWholeLines (sym cut) t.whole;
      part = subst HasNoNewline (sym (take_rest (drop from text) len ∙ ap (λ (n : ℕ). drop n (drop from text)) (sym left) ∙ left_over text from end (omega arith))) e.3;
      fits = subst (λ (x : List ℕ). Fits (terminated_lines x) c.trim-kept.new.self.left) (sym cut) t.fits;
    })

pub returns-clause-rows : goal.returns-clause-rows
returns-clause-rows g c =
    let e = c.in-Some.ensures in
    let t = c.trim-kept.ensures.trimmed in
    let old = c.args.self.now in
    let mid = c.search_block.new.self in
    let new = c.trim-kept.new.self in
    let text = c.pending-text.result.now in
    let is = c.pending-text.ensures in
    let end = c.in-Some.end in
    let start = c.in_ok-start.start in
    let len = c.trim-kept.result.len in
    let few = c.trim-kept.ensures.within in
    let order = low end start text e.1 c.in_ok-start.ensures.within in
    let now : drop (end - len) text ≡ pending_bytes c.skip.new.self = ap (drop (end - len)) is ∙ sym c.skip.ensures.pending in
    let from = c.args.held.len in
    let given0 = given c.args.out.now in
    let given1 = given c.search_block.new.out in
    record {
      rest = sym (ap (drop len) now) ∙ ap (λ (n : ℕ). drop n (drop (end - len) text)) (sym (left_len text end start len e.1 order few))
          ∙ left_over text (end - len) end (omega arith) ∙ last_rest text from end e.0 e.1 e.2 e.3 ∙ ap (λ (x : List ℕ). last_part (drop from x)) is;
      fewer = omega (arith, length-drop (end - len) text, ap (λ (x : List ℕ). length x) now, ap (λ (x : List ℕ). length x) is);
      page = t.page ∙ c.in_ok-start.ensures.page;
      rows = λ whole finding later found.
          let W = λ (h ls : List (List ℕ)). seen (printed_by old.page finding (progress_of old given0) (rows_by old finding h (ls ++ later))) in
          let M = λ (h : List (List ℕ)). seen (printed_by mid.page finding (progress_of mid given1) (rows_by mid finding h later)) in
          let N = λ (h : List (List ℕ)). seen (printed_by new.page finding (progress_of new given1) (rows_by new finding h later)) in
          ap (λ (x : List ℕ). W (terminated_lines (take from x)) (terminated_lines (drop from x))) (sym is)
          ∙ ap (λ (ls : List (List ℕ)). W (terminated_lines (take from text)) ls) (sym (ended_lines text from end e.0 e.1 e.2 e.3))
          ∙ ap (λ (h : List ℕ). W (terminated_lines h) (terminated_lines (drop from (take end text)))) (sym (take-take from end text e.0))
          ∙ c.in_ok-start.ensures.rows (c.count_held.ensures.same.3 whole) finding later
          (found_same c.args.search.now c.add_steps.new.self c.add_steps.ensures.same finding found)
          ∙ ap (λ (x : List ℕ). M (terminated_lines x)) (cut_rest text end e.1 start order)
          ∙ t.rows given1 finding later
          ∙ ap (λ (x : List ℕ). N (terminated_lines x)) (sym (cut_same text end start len e.1 order few))
          ∙ ap (λ (x : List ℕ). N (terminated_lines (take len x))) now;
    }

pub returns-clause-known : goal.returns-clause-known
returns-clause-known g c =
    let e = c.in-Some.ensures in
    let text = c.pending-text.result.now in
    let end = c.in-Some.end in
    let start = c.in_ok-start.start in
    let kept = c.trim-kept.result in
    let len = kept.len in
    let few = c.trim-kept.ensures.within in
    let order = low end start text e.1 c.in_ok-start.ensures.within in
    let now : drop (end - len) text ≡ pending_bytes c.skip.new.self = ap (drop (end - len)) c.pending-text.ensures ∙ sym c.skip.ensures.pending in
    let counted = c.trim-kept.ensures.counted in
    let cut = cut_same text end start len e.1 order few in
    let same : take len (drop (more text end start len e.1 order few) (slice text end start len e.1 order few)) ≡ take len (drop (end - len) text) =
    ap (take len) (sym cut) ∙ take-take len len (drop (end - len) text) (omega arith) in
    subst (λ page. IsCounted page.options.now (pending_bytes c.skip.new.self) kept) c.in_ok-start.ensures.page
    (subst (λ (t : List ℕ). IsCounted c.search_block.new.self.page.options.now t kept) now (record {
      within = omega (arith, length-drop (end - len) text, left_len text end start len e.1 order few, e.1);
      whole = subst AreWholeLines same counted.whole;
      lines = λ has. counted.lines has ∙ ap (λ (t : List ℕ). length (terminated_lines t)) same;
    }))

pub returns-clause-room : goal.returns-clause-room
returns-clause-room g c =
    let e = c.in-Some.ensures in
    let text = c.pending-text.result.now in
    let end = c.in-Some.end in
    let start = c.in_ok-start.start in
    let len = c.trim-kept.result.len in
    let few = c.trim-kept.ensures.within in
    let order = low end start text e.1 c.in_ok-start.ensures.within in
    omega (
      arith,
      c.requires.room,
      c.trim-kept.ensures.trimmed.room,
      c.in_ok-start.ensures.room,
      more_of text end start len e.1 order few,
      ap (λ (x : List ℕ). length x) c.skip.ensures.pending,
      length-drop (end - len) (pending_bytes c.args.buffer.now),
      c.skip.ensures.left,
      ap (λ (x : List ℕ). length x) c.pending-text.ensures,
    )

pub returns-in_err-start-clause-cut : goal.returns-in_err-start-clause-cut
returns-in_err-start-clause-cut g c =
    let e = c.in-Some.ensures in
    let text = c.pending-text.result.now in
    let all = length (pending_bytes c.args.buffer.now) in
    let is : length text ≡ all = ap (λ (t : List ℕ). length t) c.pending-text.ensures in
    let first = length (take c.in-Some.end text) in
    let few : first ≤ all = omega (arith, length-take c.in-Some.end text, is) in
    let options = c.args.self.now.page.options.now in
    let from = c.args.held.len in
    let old = c.args.search.now.matcher in
    let mid = c.add_steps.new.self.matcher in
    let new = c.search_block.new.search.matcher in
    let v = line_weight c.add_steps.new.self in
    let w = line_weight c.args.search.now in
    let searched : search_work v (all - from) ≡ search_work w (all - from) = ap (λ (k : ℕ). search_work k (all - from)) (same_weight c.args.search.now c.add_steps.new.self c.add_steps.ensures.same) in
    any_err c.from_residual.result
    (works_fewer _ _ old new (omega (arith, searched, is))
    (works_more _ _ old mid new c.add_steps.ensures.work
    (block_less (walks options) v (first - from) (all - from) first all mid new (omega (arith, few)) few c.in_err-start.ensures.cut)))

pub returns-clause-work : goal.returns-clause-work
returns-clause-work g c =
    let e = c.in-Some.ensures in
    let text = c.pending-text.result.now in
    let size : length text ≡ length (pending_bytes c.args.buffer.now) = ap (λ (t : List ℕ). length t) c.pending-text.ensures in
    let options = c.args.self.now.page.options.now in
    let end = c.in-Some.end in
    let start = c.in_ok-start.start in
    let len = c.trim-kept.result.len in
    let few = c.trim-kept.ensures.within in
    let order = low end start text e.1 c.in_ok-start.ensures.within in
    let left : length (pending_bytes c.skip.new.self) ≡ length (pending_bytes c.args.buffer.now) - (end - len) =
    ap (λ (x : List ℕ). length x) c.skip.ensures.pending ∙ length-drop (end - len) (pending_bytes c.args.buffer.now) in
    let kept : len ≤ end - start = kept_size text end start len e.1 few in
    let from = c.args.held.len in
    let page = c.trim-kept.ensures.trimmed.page ∙ c.in_ok-start.ensures.page in
    let mid = c.add_steps.new.self in
    let block = c.search_block.new.search.matcher in
    let new = c.count_held.new.search.matcher in
    let bytes : end - from ≡ length (pending_bytes c.args.buffer.now) - from - (length (pending_bytes c.skip.new.self) - len) =
    omega (arith, left, size, kept, e.0, e.1) in
    subst (λ (n : ℕ). WorksWithin (length (pending_bytes c.args.buffer.now) - c.args.scanned + part_work options (line_weight c.args.search.now) n
    (length (pending_bytes c.args.buffer.now) - length (pending_bytes c.skip.new.self))) c.args.search.now.matcher new) bytes
    (block_shown options (line_weight c.args.search.now) c.args.search.now.matcher new (line_weight mid) mid.matcher block (length text - c.args.scanned)
    (length (pending_bytes c.args.buffer.now) - c.args.scanned) (length (take end text) - from) start (end - start - len) (end - from)
    (length (pending_bytes c.args.buffer.now) - length (pending_bytes c.skip.new.self)) (omega (arith, size))
    (same_weight c.args.search.now mid c.add_steps.ensures.same) (omega (arith, length-take-le end text e.1)) (omega (arith, left, size, kept, order, e.1))
    c.add_steps.ensures.work c.in_ok-start.ensures.work
    (subst (λ (p : Page). WorksWithin ((if has_context p.options.now then end - from else 0) + walks p.options.now * (end - start - len)) block new) page
    c.count_held.ensures.work))
