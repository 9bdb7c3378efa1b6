use Rattle.std.proofs.Common.{◌+◌, ◌-◌, drop, length, ◌∙◌, arith}
use Rattle.cs_match.specs.Lines.{terminated_lines}
use Rattle.cs_match.proofs.LinesLemmas.{lines_within}
use Rattle.cs_match.proofs.WholeLineLemmas.{whole_from}
use Rattle.cs_lines.proofs.CountLemmas.{count_next, count_none, size_next}
use Rattle.cs_lines.proofs.FindingLemmas.{keeps_again, tests_same}
use Rattle.cs_lines.specs.Work.{line_weight}
use Rattle.cs_lines.proofs.WorkLemmas.{same_weight, search_then}
use Rattle.cs_lines.proofs.search.LineSearch.count_words.Goals as goal

pub overflow_add-count : goal.overflow_add-count
overflow_add-count c =
    let line = c.in-Some.line in
    omega (
      arith,
      c.lines.invariant.bound,
      size_next c.args.block.now c.lines.offset line.start line.end c.in-Some.ensures.line,
      lines_within c.args.block.now,
    )

pub lines-preserved : goal.lines-preserved
lines-preserved c =
    let block = c.args.block.now in
    let i = c.lines.invariant in
    let e = c.in-Some.ensures in
    let line = c.in-Some.line in
    record {
      high = omega (arith, e.line.high);
      whole = whole_from block c.lines.offset (line.end + 1) (omega (arith, e.line.low, e.line.order)) i.whole;
      count = λ test tests.
          let n = e.next test (tests_same c.args.self.now c.lines.self i.same test tests) in
          omega (arith, i.count test tests, count_next test block c.lines.offset line.start line.end e.line n.0 n.1);
      bound = omega (arith, i.bound, size_next block c.lines.offset line.start line.end e.line);
      same = keeps_again c.args.self.now c.lines.self c.next_match.new.self i.same e.same;
      budget = e.budget ∙ i.budget;
      work = search_then (line_weight c.args.self.now) (line_weight c.lines.self) c.lines.offset (line.end + 1 - c.lines.offset) (line.end + 1)
          c.args.self.now.matcher c.lines.self.matcher c.next_match.new.self.matcher (same_weight c.args.self.now c.lines.self i.same)
          (omega (arith, e.line.low, e.line.order)) i.work e.work;
    }

pub returns-clause-count : goal.returns-clause-count
returns-clause-count c = λ test tests.
    let i = c.lines.invariant in
    let none = c.in_default.ensures.next test (tests_same c.args.self.now c.lines.self i.same test tests) in
    omega (arith, i.count test tests, count_none test (terminated_lines (drop c.lines.offset c.args.block.now)) none)

pub returns-clause-work : goal.returns-clause-work
returns-clause-work c =
    let i = c.lines.invariant in
    let size = length c.args.block.now in
    search_then (line_weight c.args.self.now) (line_weight c.lines.self) c.lines.offset (size - c.lines.offset) size
    c.args.self.now.matcher c.lines.self.matcher c.next_match.new.self.matcher (same_weight c.args.self.now c.lines.self i.same)
    (omega (arith, i.high)) i.work c.in_default.ensures.work
