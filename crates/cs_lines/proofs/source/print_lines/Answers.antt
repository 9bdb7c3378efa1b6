use Rattle.std.proofs.Common.{◌≡◌, ◌≤◌, ◌+◌, ◌-◌, ◌*◌, ◌++◌, ℕ, List, [], length, take, drop, refl, sym, ap, subst, ◌∙◌, arith, append-nil, length-drop, length-take}
use Rattle.std.proofs.lemmas.List.{length-take-le, take_rest}
use Rattle.cs_match.specs.LastPart.{last_line, last_part}
use Rattle.cs_match.specs.Lines.{lines, terminated_lines}
use Rattle.cs_match.specs.NoNewline.{HasNoNewline}
use Rattle.cs_match.specs.Skipping.{AreWholeLines}
use Rattle.cs_match.proofs.SkippedLineLemmas.{whole_none}
use Rattle.cs_match.proofs.WholeLineLemmas.{rest_is_last}
use Rattle.cs_lines.specs.Findings.{Finding, KeepsSearch}
use Rattle.cs_lines.specs.Printed.{LinesBegun, LinesPrinted}
use Rattle.cs_tree.specs.SinkOutputs.{given}
use Rattle.cs_lines.specs.Scans.{Fits, PrintsAlike, Searches, SearchesLast, rows_by}
use Rattle.cs_lines.specs.Spacing.{fresh_rows, printed_by, progress_of, seen}
use Rattle.cs_lines.specs.Streams.{IfFound}
use Rattle.cs_lines.specs.declared.rows.Page.{Page}
use Rattle.cs_lines.specs.declared.rows.Rows.{Rows}
use Rattle.cs_lines.specs.declared.search.LineSearch.{LineSearch}
use Rattle.cs_lines.proofs.FindingLemmas.{found_same, keeps_again}
use Rattle.cs_lines.proofs.PlaceLemmas.{any_err}
use Rattle.cs_lines.proofs.SearchLemmas.{cut_rest}
use Rattle.cs_lines.proofs.StreamLemmas.{alike_begun, all_printed, lines_begun, lines_printed}
use Rattle.cs_lines.proofs.TextLemmas.{lines_are}
use Rattle.cs_match.specs.Work.{WorksWithin}
use Rattle.cs_lines.specs.Work.{Takes, line_weight, line_work, search_work, shown_work, walks}
use Rattle.cs_lines.proofs.WorkLemmas.{at_most, same_weight, shown_text, works_any}
use Rattle.cs_lines.proofs.source.print_lines.Given.{Over}
use Rattle.cs_lines.proofs.source.print_lines.Goals.{In_ok-held, In_ok-search_last}
use Rattle.cs_lines.proofs.source.print_lines.Goals as goal

none_of : terminated_lines [] ≡ []
unfolding terminated_lines
none_of = refl

low : (end held : ℕ) (text : List ℕ) → end ≤ length text → held ≤ length (take end text) → held ≤ end
low end held text within h = omega (arith, h, length-take-le end text within)

pub search_block-requires-clause-whole : goal.search_block-requires-clause-whole
search_block-requires-clause-whole g c = (whole_none, c.whole_lines_len-end.ensures.whole)

pub search_last-requires-clause-whole : goal.search_last-requires-clause-whole
search_last-requires-clause-whole g c =
    let text = c.args.text.now in
    let end = c.whole_lines_len-end in
    let h = c.in_ok-held.ensures in
    subst AreWholeLines (cut_rest text end.result end.ensures.within c.in_ok-held.held (low end.result c.in_ok-held.held text end.ensures.within h.within)) h.whole

pub search_last-requires-clause-fits : goal.search_last-requires-clause-fits
search_last-requires-clause-fits g c =
    let text = c.args.text.now in
    let end = c.whole_lines_len-end in
    let h = c.in_ok-held.ensures in
    subst (λ (t : List ℕ). Fits (terminated_lines t) c.search_block.new.self.left)
    (cut_rest text end.result end.ensures.within c.in_ok-held.held (low end.result c.in_ok-held.held text end.ensures.within h.within)) h.fits

-- where no row was shown yet
module _ (page : Page) (rows : Rows) (is : rows ≡ fresh_rows page) (given : List ℕ) (finding : Finding) (lines : List (List ℕ)) where
  at_first : printed_by rows.page finding (progress_of rows given) (rows_by rows finding (terminated_lines []) lines) ≡ all_printed page given finding lines
  at_first =
      ap (λ r. printed_by r.page finding (progress_of r given) (rows_by r finding (terminated_lines []) lines)) is
      ∙ ap (λ (held : List (List ℕ)). printed_by page finding (progress_of (fresh_rows page) given) (rows_by (fresh_rows page) finding held lines)) none_of

-- after the lines that have ended
module _ (s0 s1 : LineSearch) (page : Page) (rows0 rows1 : Rows) (is : rows0 ≡ fresh_rows page) (g0 g1 text : List ℕ) (end held : ℕ)
    (within : end ≤ length text) (whole : AreWholeLines (take end text)) (part : HasNoNewline (drop end text)) (order : held ≤ end)
    (searches : Searches s0 s1 rows0 rows1 g0 g1 (terminated_lines []) (terminated_lines (take end text)) (terminated_lines (drop held (take end text)))) where
  alike : IfFound s0 s1 (λ finding. PrintsAlike (fresh_rows page) rows1 g0 g1 finding [] (lines text)
      (terminated_lines (take (end - held) (drop held text))) (last_line (drop end text)))
  alike none finding found =
      let last = last_line (drop end text) in
      ap (λ (ls : List (List ℕ)). seen (all_printed page g0 finding ls)) (lines_are text end whole part)
      ∙ ap seen (sym (at_first page rows0 is g0 finding (terminated_lines (take end text) ++ last)))
      ∙ searches none finding last found
      ∙ ap (λ (t : List ℕ). seen (printed_by rows1.page finding (progress_of rows1 g1) (rows_by rows1 finding (terminated_lines t) last)))
      (cut_rest text end within held order)

  begun : IfFound s0 s1 (λ finding. LinesBegun page finding (lines text) g0 g1)
  begun none finding found = lines_begun page g0 finding (lines text) g1
      (alike_begun page g0 rows1 g1 finding (lines text) (terminated_lines (take (end - held) (drop held text))) (last_line (drop end text)) (alike none finding found))

  -- the last line was searched
  module _ (s2 : LineSearch) (rows2 : Rows) (g2 rest : List ℕ) (at : rest ≡ drop end text) (kept : KeepsSearch s0 s1) (last_kept : KeepsSearch s1 s2)
      (last : SearchesLast s1 s2 rows1 rows2 g1 g2 (terminated_lines (take (end - held) (drop held text))) (last_line rest)) where
    shown : IfFound s0 s2 (λ finding. LinesPrinted page finding (lines text) g0 g2 rows2.shown)
    shown none finding found = lines_printed page g0 finding (lines text) g2 rows2.shown
        (alike (last_kept.3 none) finding found
        ∙ ap (λ (t : List ℕ). seen (printed_by rows1.page finding (progress_of rows1 g1)
        (rows_by rows1 finding (terminated_lines (take (end - held) (drop held text))) (last_line t)))) (sym at)
        ∙ last none finding (found_same s0 s1 kept finding found))

pub returns-in_err-held-clause-begins : goal.returns-in_err-held-clause-begins
returns-in_err-held-clause-begins g c =
    let text = c.args.text.now in
    let e = c.whole_lines_len-end in
    let page = c.args.page.now in
    let g0 = given c.args.out.now in
    let g1 = given c.search_block.new.out in
    let last = last_line (drop e.result text) in
    any_err c.from_residual.result (λ none finding found.
    let b = c.in_err-held.ensures.begins none finding last (found_same c.args.search.now c.add_steps.new.self c.add_steps.ensures.same finding found) in
    lines_begun page g0 finding (lines text) g1 (
      b.0,
      ap (λ (ls : List (List ℕ)). (all_printed page g0 finding ls).given) (lines_are text e.result e.ensures.whole e.ensures.rest)
          ∙ ap (λ p. p.given) (sym (at_first page c.new-rows.result c.new-rows.ensures g0 finding (terminated_lines (take e.result text) ++ last))) ∙ b.1,
    ))

pub returns-in_err-search_last-clause-begins : goal.returns-in_err-search_last-clause-begins
returns-in_err-search_last-clause-begins g c =
    let text = c.args.text.now in
    let e = c.whole_lines_len-end in
    let h = c.in_ok-held in
    let page = c.args.page.now in
    let g0 = given c.args.out.now in
    any_err c.from_residual-in_err-search_last.result (λ none finding found.
    subst (λ (bytes : List ℕ). LinesBegun page finding (lines text) g0 bytes) (sym c.in_err-search_last.ensures.begins)
    (begun c.add_steps.new.self c.search_block.new.search page c.new-rows.result c.search_block.new.self c.new-rows.ensures g0 (given c.search_block.new.out)
    text e.result h.held e.ensures.within e.ensures.whole e.ensures.rest (low e.result h.held text e.ensures.within h.ensures.within) h.ensures.rows
    (c.in_err-search_last.ensures.same.3 none) finding (found_same c.args.search.now c.add_steps.new.self c.add_steps.ensures.same finding found)))

printed : (g : Over) (c : In_ok-search_last g) → IfFound c.args.search.now c.search_last.new.search
    (λ finding. LinesPrinted c.args.page.now finding (lines c.args.text.now) (given c.args.out.now) (given c.search_last.new.out) c.search_last.new.self.shown)
printed g c none finding found =
    let text = c.args.text.now in
    let e = c.whole_lines_len-end in
    let h = c.in_ok-held in
    let r = c.in_ok-search_last.ensures in
    shown c.add_steps.new.self c.search_block.new.search c.args.page.now c.new-rows.result c.search_block.new.self c.new-rows.ensures (given c.args.out.now)
    (given c.search_block.new.out) text e.result h.held e.ensures.within e.ensures.whole e.ensures.rest (low e.result h.held text e.ensures.within h.ensures.within)
    h.ensures.rows c.search_last.new.search c.search_last.new.self (given c.search_last.new.out) (take (length text - e.result) (drop e.result text))
    (take_rest text e.result) h.ensures.same r.same r.rows none finding (found_same c.args.search.now c.add_steps.new.self c.add_steps.ensures.same finding found)

pub returns-clause-text : goal.returns-clause-text
returns-clause-text g c = printed g (goal.at.returns-clause-text g c).In_ok-search_last

pub returns-in_err-check-clause-begins : goal.returns-in_err-check-clause-begins
returns-in_err-check-clause-begins g c =
    let p = printed g (goal.at.returns-in_err-check-clause-begins g c).In_ok-search_last in
    any_err c.from_residual-in_err-check.result (λ none finding found. ([], sym (p none finding found).0 ∙ sym (append-nil (given c.search_last.new.out))))

-- the steps of a text whose lines were searched, and then the last one
steps : (page : Page) (s0 mid s1 s2 : LineSearch) (rows0 rows1 : Rows) (text : List ℕ) (end held : ℕ) → rows0 ≡ fresh_rows page → rows1.page ≡ rows0.page →
    end ≤ length text → AreWholeLines (take end text) → HasNoNewline (drop end text) → held ≤ end → KeepsSearch s0 mid → KeepsSearch mid s1 →
    Takes (length text) s0 mid → Takes (search_work (line_weight mid) (length (take end text) - 0) + walks rows0.page.options.now * held) mid s1 →
    Takes (line_work (line_weight s1) (length (take (length text - end) (drop end text)))
    + walks rows1.page.options.now * length (take (end - held) (drop held text))) s1 s2 → Takes (shown_work page.options.now (line_weight s0) text) s0 s2
steps page s0 mid s1 s2 rows0 rows1 text end held is same within whole part order kept more counted searched last =
    let page0 : rows0.page ≡ page = ap (λ (r : Rows). r.page) is in
    let rest = take (length text - end) (drop end text) in
    let first : length (take end text) - 0 ≤ length text = omega (arith, length-take end text) in
    let size : held + length (take (end - held) (drop held text)) ≤ length text =
    omega (arith, length-take (end - held) (drop held text), length-drop held text, order, within) in
    let line : line_work (line_weight s1) (length rest) ≡ line_work (line_weight s0) (length (last_part text)) =
    ap (λ (x : List ℕ). line_work (line_weight s1) (length x)) (take_rest text end ∙ rest_is_last text end whole part)
    ∙ ap (λ (k : ℕ). line_work k (length (last_part text))) (same_weight s0 s1 (keeps_again s0 mid s1 kept more)) in
    shown_text page.options.now (line_weight s0) s0.matcher s2.matcher (line_weight mid) mid.matcher s1.matcher text (length (take end text) - 0) held
    (length (take (end - held) (drop held text))) (line_work (line_weight s1) (length rest)) (same_weight s0 mid kept) first size (at_most (sym line)) counted
    (subst (λ (p : Page). WorksWithin (search_work (line_weight mid) (length (take end text) - 0) + walks p.options.now * held) mid.matcher s1.matcher) page0 searched)
    (subst (λ (p : Page). WorksWithin (line_work (line_weight s1) (length rest) + walks p.options.now * length (take (end - held) (drop held text)))
    s1.matcher s2.matcher) (same ∙ page0) last)

pub returns-in_err-held-clause-work : goal.returns-in_err-held-clause-work
returns-in_err-held-clause-work g c =
    let text = c.args.text.now in
    let end = c.whole_lines_len-end.result in
    let mid = c.add_steps.new.self in
    let new = c.search_block.new.search.matcher in
    let options = c.args.page.now.options.now in
    let n = length (take end text) in
    let w = line_weight c.args.search.now in
    let first : n ≤ length text = omega (arith, length-take end text) in
    shown_text options w c.args.search.now.matcher new (line_weight mid) mid.matcher new text (n - 0) n 0 0
    (same_weight c.args.search.now mid c.add_steps.ensures.same) (omega (arith, first)) (omega (arith, first)) (omega arith) c.add_steps.ensures.work
    (subst (λ (r : Rows). WorksWithin (search_work (line_weight mid) (n - 0) + walks r.page.options.now * n) mid.matcher new) c.new-rows.ensures
    c.in_err-held.ensures.cut) (works_any (0 + walks options * 0) new)

steps_last : (g : Over) (c : In_ok-held g) (search : LineSearch) → let text = c.args.text.now in let end = c.whole_lines_len-end.result in
    Takes (line_work (line_weight c.search_block.new.search) (length (take (length text - end) (drop end text)))
    + walks c.search_block.new.self.page.options.now * length (take (end - c.in_ok-held.held) (drop c.in_ok-held.held text))) c.search_block.new.search search →
    Takes (shown_work c.args.page.now.options.now (line_weight c.args.search.now) text) c.args.search.now search
steps_last g c search work =
    let e = c.whole_lines_len-end in
    let h = c.in_ok-held in
    steps c.args.page.now c.args.search.now c.add_steps.new.self c.search_block.new.search search c.new-rows.result c.search_block.new.self
    c.args.text.now e.result h.held c.new-rows.ensures h.ensures.page e.ensures.within e.ensures.whole e.ensures.rest
    (low e.result h.held c.args.text.now e.ensures.within h.ensures.within) c.add_steps.ensures.same h.ensures.same c.add_steps.ensures.work h.ensures.work work

pub returns-in_err-search_last-clause-work : goal.returns-in_err-search_last-clause-work
returns-in_err-search_last-clause-work g c =
    steps_last g (goal.at.returns-in_err-search_last-clause-work g c).In_ok-held c.search_last.new.search c.in_err-search_last.ensures.work

pub returns-in_err-check-clause-work : goal.returns-in_err-check-clause-work
returns-in_err-check-clause-work g c =
    steps_last g (goal.at.returns-in_err-check-clause-work g c).In_ok-held c.search_last.new.search c.in_ok-search_last.ensures.work

pub returns-clause-work : goal.returns-clause-work
returns-clause-work g c = steps_last g (goal.at.returns-clause-work g c).In_ok-held c.search_last.new.search c.in_ok-search_last.ensures.work
