use Rattle.std.proofs.Common.{◌≡◌, ◌+◌, ◌-◌, ◌&&◌, ◌∷◌, ◌++◌, [], ℕ, false, nat_eq, List, length, take, drop, refl, sym, ap, ◌∙◌}
use Rattle.cs_match.specs.LastPart.{last_line}
use Rattle.cs_match.specs.Lines.{terminated_lines}
use Rattle.cs_match.proofs.ListingLemmas.{both}
use Rattle.cs_lines.specs.Contexts.{is_open}
use Rattle.cs_lines.specs.Findings.{found_spans, found_tree}
use Rattle.cs_tree.specs.SinkOutputs.{given}
use Rattle.cs_lines.specs.Scans.{rows_by}
use Rattle.cs_lines.specs.Shown.{gap, is_wanted, shown_bytes}
use Rattle.cs_lines.specs.Spacing.{opening_of, printed_by, progress_of, seen}
use Rattle.cs_lines.proofs.FindingLemmas.{found_same, keeps_again}
use Rattle.cs_lines.proofs.PlaceLemmas.{same_spans}
use Rattle.cs_lines.proofs.SearchLemmas.{pass_step}
use Rattle.cs_lines.proofs.rows.Rows.search_last.Goals as goal

one_line : (last : List ℕ) → nat_eq (length last) 0 ≡ false → last_line last ≡ last ∷ []
one_line [] filled = cc
one_line (b ∷ part) filled = refl

pub returns-else-is_marked-clause-rows : goal.returns-else-is_marked-clause-rows
returns-else-is_marked-clause-rows g c = λ whole finding found.
    let old = c.args.self.now in
    let options = old.page.options.now in
    let line = c.args.last.now in
    let held = terminated_lines c.args.held.now in
    let wanted = is_wanted options finding.has_match in
    let none : (wanted line && is_open old.most) ≡ false = sym (c.is_marked.ensures.marked finding.has_match found.0) ∙ c.if-is_marked.false in
    let p = progress_of old (given c.args.out.now) in
    let size = length (take old.left (line ∷ [])) in
    ap (λ ls. seen (printed_by old.page finding p (rows_by old finding held ls))) (one_line line (sym c.is_empty.ensures ∙ c.if-is_empty.false))
    ∙ ap seen (pass_step (opening_of old.page) (gap options) (shown_bytes options finding old.page.name.now) options.before options.after wanted old.most
    (line ∷ []) [] held (held ++ drop old.left (line ∷ [])) old.number old.left (old.number + size) (old.left - size) c.requires.fits (none, tt)
    refl refl refl p (progress_of c.show_last.new.self (given c.show_last.new.out)) (c.show_last.ensures.rows.0 finding))

pub returns-in_ok-find-clause-rows : goal.returns-in_ok-find-clause-rows
returns-in_ok-find-clause-rows g c = λ whole finding found.
    let old = c.args.self.now in
    let line = c.args.last.now in
    let held = terminated_lines c.args.held.now in
    let search = c.count_walks.new.search in
    let there = found_same c.args.search.now search (keeps_again c.args.search.now c.is_marked.new.search search c.is_marked.ensures.same c.count_walks.ensures.same) finding found in
    let marked = both _ _ (sym (c.is_marked.ensures.marked finding.has_match found.0) ∙ c.if-is_marked.true) in
    let p = progress_of old (given c.args.out.now) in
    ap (λ ls. seen (printed_by old.page finding p (rows_by old finding held ls))) (one_line line (sym c.is_empty.ensures ∙ c.if-is_empty.false))
    ∙ c.show_mark.ensures.rows.1 finding
    (λ needs. same_spans (found_tree search) search.whole line (finding.spans line) (found_spans c.find.new.self) (there.1 line)
    (c.in_ok-find.ensures.spans whole needs) ∙ sym c.spans.ensures) marked.0 []
