use Rattle.std.proofs.Common.{◌≤◌, ◌+◌}
use Rattle.cs_match.specs.Passes.{IsPassAt, HasRead}
use Rattle.cs_match.specs.SpanSearch.{BeginFrom, EndFrom}
use Rattle.cs_match.proofs.spans.pass.Pass.first_end.Given as goal

abbrev pub invariant-loop-offset : goal.invariant-loop-offset
invariant-loop-offset l =
    record {
      at : IsPassAt l.part.whole l.program l.line l.part.from l.part.until l.offset l.self;
      none : EndFrom l.part.whole l.program l.line l.part.from l.part.least l.part.until l.offset;
      since : BeginFrom l.part.whole l.program l.line l.part.from l.part.least l.since;
      after : l.part.from ≤ l.since;
      read : HasRead l.program (l.offset + 1) l.fn.self l.self;
    }
