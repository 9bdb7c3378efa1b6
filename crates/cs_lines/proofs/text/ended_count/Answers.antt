use Rattle.std.proofs.Common.{true, false, length, sym, ◌∙◌, arith}
use Rattle.cs_match.specs.Lines.{terminated_lines}
use Rattle.cs_match.proofs.LinesLemmas.{lines_within}
use Rattle.cs_lines.proofs.CountLemmas.{count_other, count_if}
use Rattle.cs_lines.specs.Work.{line_weight}
use Rattle.cs_lines.proofs.WorkLemmas.{search_counted, search_is_searched}
use Rattle.cs_lines.proofs.text.ended_count.Goals as goal

pub returns-then-not-options-clause-bound : goal.returns-then-not-options-clause-bound
returns-then-not-options-clause-bound c = omega (arith, c.count-matches.ensures.bound, lines_within c.args.block.now)

pub returns-clause-count : goal.returns-clause-count
returns-clause-count c = λ finding decides.
    let lines = terminated_lines c.args.block.now in
    omega (
      arith,
      c.line_count.ensures.exact,
      c.count-matches.ensures.count finding.has_match decides,
      count_other finding.has_match lines,
      count_if c.args.options.now.invert finding.has_match lines true c.if-not-options.false,
    )

pub returns-then-not-options-clause-count : goal.returns-then-not-options-clause-count
returns-then-not-options-clause-count c = λ finding tests.
    let lines = terminated_lines c.args.block.now in
    c.count-matches.ensures.count finding.has_match tests
    ∙ sym (count_if c.args.options.now.invert finding.has_match lines false c.if-not-options.true)

pub returns-then-not-options-clause-work : goal.returns-then-not-options-clause-work
returns-then-not-options-clause-work c =
    let size = length c.args.block.now in
    search_is_searched (line_weight c.args.search.now) size size c.args.search.now.matcher c.count-matches.new.self.matcher (omega arith) c.count-matches.ensures.work

pub returns-clause-work : goal.returns-clause-work
returns-clause-work c =
    search_counted (line_weight c.args.search.now) (length c.args.block.now) c.args.search.now.matcher c.count-matches.new.self.matcher c.add_steps.new.self.matcher
    c.count-matches.ensures.work c.add_steps.ensures.work
