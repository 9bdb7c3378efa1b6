use Rattle.std.proofs.Common.{◌+◌, ◌-◌, false, length, arith}
use Rattle.cs_match.specs.Lines.{terminated_lines}
use Rattle.cs_lines.proofs.CountLemmas.{count_if, count_none, count_some}
use Rattle.cs_lines.specs.Work.{line_weight}
use Rattle.cs_lines.proofs.WorkLemmas.{search_is_searched}
use Rattle.cs_lines.proofs.text.ended_some.Goals as goal

pub returns-in-Some-clause-some : goal.returns-in-Some-clause-some
returns-in-Some-clause-some c = λ finding tests.
    let block = c.args.block.now in
    let line = c.in-Some.field-0 in
    let e = c.in-Some.ensures in
    omega (
      arith,
      count_some finding.has_match block line.start line.end e.line (e.next finding.has_match tests).0,
      count_if c.args.options.now.invert finding.has_match (terminated_lines block) false c.if-options.false,
    )

pub returns-in-None-clause-some : goal.returns-in-None-clause-some
returns-in-None-clause-some c = λ finding tests.
    let lines = terminated_lines c.args.block.now in
    omega (
      arith,
      count_none finding.has_match lines (c.in-None.ensures.next finding.has_match tests),
      count_if c.args.options.now.invert finding.has_match lines false c.if-options.false,
    )

pub returns-in-Some-clause-work : goal.returns-in-Some-clause-work
returns-in-Some-clause-work c =
    let line = c.in-Some.field-0 in
    let e = c.in-Some.ensures in
    search_is_searched (line_weight c.args.search.now) (line.end + 1 - 0) (length c.args.block.now) c.args.search.now.matcher c.next_match.new.self.matcher
    (omega (arith, e.line.high)) e.work

pub returns-in-None-clause-work : goal.returns-in-None-clause-work
returns-in-None-clause-work c =
    let size = length c.args.block.now in
    search_is_searched (line_weight c.args.search.now) (size - 0) size c.args.search.now.matcher c.next_match.new.self.matcher (omega arith) c.in-None.ensures.work
