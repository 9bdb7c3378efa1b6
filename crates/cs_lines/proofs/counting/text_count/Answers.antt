use Rattle.std.proofs.Common.{◌≡◌, ℕ, ◌+◌, List, take, drop, sym, ap, subst, ◌∙◌, ◌-◌, length, arith}
use Rattle.std.specs.List.{count_by}
use Rattle.std.proofs.lemmas.List.{take_rest}
use Rattle.cs_match.specs.LastPart.{last_line, last_part}
use Rattle.cs_match.specs.Lines.{terminated_lines}
use Rattle.cs_match.proofs.WholeLineLemmas.{rest_is_last}
use Rattle.cs_lines.specs.Counts.{IsCount}
use Rattle.cs_lines.specs.Shown.{is_wanted}
use Rattle.cs_lines.specs.Work.{line_weight, line_work}
use Rattle.cs_lines.proofs.CountLemmas.{count_both, count_enough, count_split, is_count}
use Rattle.cs_lines.proofs.FindingLemmas.{keeps_again, tests_same}
use Rattle.cs_lines.proofs.WorkLemmas.{same_weight, text_done, works_any}
use Rattle.cs_lines.proofs.counting.text_count.Goals as goal

pub returns-then-is_enough-clause-count : goal.returns-then-is_enough-clause-count
returns-then-is_enough-clause-count c = λ finding tests.
    let text = c.args.text.now in
    let end = c.whole_lines_len-end.result in
    let e = c.whole_lines_len-end.ensures in
    let wanted = is_wanted c.args.options.now finding.has_match in
    let n = c.count_block-count in
    subst (IsCount c.args.most n.result) (sym (count_split wanted text end e.whole e.rest))
    (count_enough c.args.most n.result (count_by wanted (terminated_lines (take end text))) (count_by wanted (last_line (drop end text)))
    (sym c.is_enough.ensures ∙ c.if-is_enough.true) (n.ensures.count finding (tests_same c.args.search.now c.add_steps.new.self c.add_steps.ensures.same finding.has_match tests)))

pub returns-clause-count : goal.returns-clause-count
returns-clause-count c = λ finding tests.
    let text = c.args.text.now in
    let end = c.whole_lines_len-end.result in
    let e = c.whole_lines_len-end.ensures in
    let wanted = is_wanted c.args.options.now finding.has_match in
    let n = c.count_block-count in
    let last = c.last_count.ensures.count finding (tests_same c.args.search.now n.new.search
    (keeps_again c.args.search.now c.add_steps.new.self n.new.search c.add_steps.ensures.same n.ensures.same) finding.has_match tests)
    ∙ ap (λ (rest : List ℕ). count_by wanted (last_line rest)) (take_rest text end) in
    subst (IsCount c.args.most (n.result + c.last_count.result)) (sym (count_split wanted text end e.whole e.rest))
    (count_both c.args.most n.result (count_by wanted (terminated_lines (take end text))) c.last_count.result (count_by wanted (last_line (drop end text)))
    (n.ensures.count finding (tests_same c.args.search.now c.add_steps.new.self c.add_steps.ensures.same finding.has_match tests)) (is_count c.args.most c.last_count.result _ last))

pub returns-then-is_enough-clause-work : goal.returns-then-is_enough-clause-work
returns-then-is_enough-clause-work c =
    let n = c.count_block-count in
    text_done (line_weight c.args.search.now) (line_weight c.add_steps.new.self) c.args.search.now.matcher c.add_steps.new.self.matcher n.new.search.matcher
    n.new.search.matcher c.args.text.now c.whole_lines_len-end.result 0 (same_weight c.args.search.now c.add_steps.new.self c.add_steps.ensures.same) (omega arith) c.add_steps.ensures.work n.ensures.work (works_any 0 n.new.search.matcher)

pub returns-clause-work : goal.returns-clause-work
returns-clause-work c =
    let text = c.args.text.now in
    let end = c.whole_lines_len-end.result in
    let e = c.whole_lines_len-end.ensures in
    let n = c.count_block-count in
    let rest = take (length text - end) (drop end text) in
    let old = c.args.search.now in
    let v = line_weight n.new.search in
    let same : v ≡ line_weight old = same_weight old n.new.search (keeps_again old c.add_steps.new.self n.new.search c.add_steps.ensures.same n.ensures.same) in
    let last : rest ≡ last_part text = take_rest text end ∙ rest_is_last text end e.whole e.rest in
    text_done (line_weight old) (line_weight c.add_steps.new.self) old.matcher c.add_steps.new.self.matcher n.new.search.matcher c.last_count.new.search.matcher
    text end (line_work v (length rest)) (same_weight old c.add_steps.new.self c.add_steps.ensures.same)
    (omega (arith, ap (λ (t : List ℕ). line_work v (length t)) last, ap (λ (k : ℕ). line_work k (length (last_part text))) same))
    c.add_steps.ensures.work n.ensures.work c.last_count.ensures.work
