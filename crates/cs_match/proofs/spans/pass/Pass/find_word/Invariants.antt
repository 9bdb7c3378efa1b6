use Rattle.std.proofs.Common.{◌+◌, ◌-◌, ◌≤◌, length}
use Rattle.cs_match.specs.Passes.{IsPassOf, HasRead}
use Rattle.cs_match.specs.SpanSearch.{BeginFrom}
use Rattle.cs_match.proofs.spans.pass.Pass.find_word.Given as goal

abbrev pub invariant-offsets : goal.invariant-offsets
invariant-offsets l =
    record {
      ready : IsPassOf l.program l.self;
      begins : l.fn.wanted.from ≤ l.start;
      ends : l.fn.wanted.least ≤ l.start + length l.word;
      within : l.start ≤ length l.line + 1;
      none : BeginFrom l.fn.wanted.whole l.program l.line l.fn.wanted.from l.fn.wanted.least l.start;
      read : HasRead l.program l.start l.fn.self l.self;
    }

abbrev pub decreases-offsets : goal.decreases-offsets
decreases-offsets l = length l.line + 1 - l.start
