use Rattle.std.proofs.Common.{ℕ, ◌-◌, ◌^◌, ◌<◌, ◌≤◌, length}
use Rattle.cs_match.specs.Passes.{IsPassOf}
use Rattle.cs_match.specs.SpanSearch.{BeginFrom, BeginsBy}
use Rattle.cs_match.proofs.SpanWorkLemmas.{IsHalved}
use Rattle.cs_match.proofs.spans.pass.Pass.first_start.Given as goal

abbrev pub invariant-halves : goal.invariant-halves
invariant-halves l =
    record {
      ready : IsPassOf l.program l.self;
      high : l.high ≤ length l.line;
      after : l.fn.wanted.from ≤ l.low;
      begin : BeginFrom l.fn.wanted.whole l.program l.line l.fn.wanted.from l.fn.wanted.least l.low;
      some : BeginsBy l.fn.wanted.whole l.program l.line l.fn.wanted.from l.fn.wanted.least l.high;
      read : (k : ℕ) → l.fn.last - l.fn.wanted.from < 2 ^ k → IsHalved l.program (length l.line) k (l.high - l.low) l.fn.self l.self;
    }

abbrev pub decreases-halves : goal.decreases-halves
decreases-halves l = l.high - l.low
