use Rattle.std.proofs.Common.{◌≡◌, ◌≤◌, ℕ, List, take, drop, length, sym, ap, subst, ◌∙◌, arith, length-drop}
use Rattle.std.specs.List.{count_by}
use Rattle.std.proofs.lemmas.List.{length-take-le}
use Rattle.cs_match.specs.Lines.{terminated_lines}
use Rattle.cs_match.specs.NoNewline.{HasNoNewline}
use Rattle.cs_match.specs.Skipping.{AreWholeLines}
use Rattle.cs_match.proofs.LinesLemmas.{last_part-part, terminated_lines-part}
use Rattle.cs_match.proofs.WholeLineLemmas.{ended_all, rest_is_last}
use Rattle.cs_lines.specs.Buffer.{pending_bytes}
use Rattle.cs_lines.specs.Counts.{IsCount}
use Rattle.cs_lines.specs.Shown.{is_wanted}
use Rattle.cs_lines.proofs.CountLemmas.{is_count}
use Rattle.cs_lines.specs.Work.{line_weight, searched_work}
use Rattle.cs_lines.proofs.FindingLemmas.{tests_same}
use Rattle.cs_lines.proofs.WorkLemmas.{ended, same_weight, works_fewer, works_more}
use Rattle.cs_lines.proofs.counting.count_pending.Goals as goal

pub returns-in_default-clause-count : goal.returns-in_default-clause-count
returns-in_default-clause-count c =
    let text = pending_bytes c.args.buffer.now in
    let part : HasNoNewline text = subst HasNoNewline c.pending-text.ensures c.in_default.ensures in
    record {
      rest = sym (last_part-part text part);
      size = omega arith;
      counted = λ finding tests. let wanted = is_wanted c.args.options.now finding.has_match in
          is_count c.args.most 0 (count_by wanted (terminated_lines text)) (ap (count_by wanted) (sym (terminated_lines-part text part)));
    }

pub returns-clause-count : goal.returns-clause-count
returns-clause-count c =
    let text = pending_bytes c.args.buffer.now in
    let len = c.in-Some.len in
    let is = c.pending-text.ensures in
    let e = c.in-Some.ensures in
    let within = subst (λ (t : List ℕ). len ≤ length t) is e.1 in
    let whole = subst (λ (t : List ℕ). AreWholeLines (take len t)) is e.2 in
    let part = subst (λ (t : List ℕ). HasNoNewline (drop len t)) is e.3 in
    let n = c.count_block-count.ensures in
    record {
      rest = c.skip.ensures.pending ∙ rest_is_last text len whole part;
      size = omega (
        arith,
        n.bound,
        length-take-le len c.pending-text.result.now e.1,
        ap (λ (t : List ℕ). length t) c.skip.ensures.pending,
        length-drop len text,
        within,
      );
      counted = λ finding tests. let wanted = is_wanted c.args.options.now finding.has_match in
          subst (λ (k : ℕ). IsCount c.args.most c.count_block-count.result k)
          (ap (λ (t : List ℕ). count_by wanted (terminated_lines (take len t))) is ∙ ap (count_by wanted) (sym (ended_all text len whole part)))
          (n.count finding (tests_same c.args.search.now c.add_steps.new.self c.add_steps.ensures.same finding.has_match tests));
    }

pub returns-clause-work : goal.returns-clause-work
returns-clause-work c =
    let text = pending_bytes c.args.buffer.now in
    let len = c.in-Some.len in
    let e = c.in-Some.ensures in
    let is = c.pending-text.ensures in
    let old = c.args.search.now.matcher in
    let mid = c.add_steps.new.self.matcher in
    let n = c.count_block-count in
    let within = subst (λ (t : List ℕ). len ≤ length t) is e.1 in
    let whole = subst (λ (t : List ℕ). AreWholeLines (take len t)) is e.2 in
    let part = subst (λ (t : List ℕ). HasNoNewline (drop len t)) is e.3 in
    let taken : length (take len c.pending-text.result.now) ≡ length (take len text) = ap (λ (t : List ℕ). length (take len t)) is in
    let w = line_weight c.args.search.now in
    let size : length c.pending-text.result.now ≡ length text = ap (λ (t : List ℕ). length t) is in
    works_fewer _ _ old n.new.search.matcher
    (omega (
      arith,
      size,
      ended w text len within whole part,
      ap (searched_work w) taken,
      ap (λ (k : ℕ). searched_work k (length (take len c.pending-text.result.now))) (same_weight c.args.search.now c.add_steps.new.self c.add_steps.ensures.same),
    ))
    (works_more _ _ old mid n.new.search.matcher c.add_steps.ensures.work n.ensures.work)
