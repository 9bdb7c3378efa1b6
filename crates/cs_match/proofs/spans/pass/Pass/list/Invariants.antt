use Rattle.std.proofs.Common.{◌≡◌, ℕ, ◌+◌, ◌-◌, ◌^◌, ◌<◌, ◌≤◌, length, drop}
use Rattle.cs_match.specs.Passes.{IsPassOf, HasRead}
use Rattle.cs_match.specs.SpanList.{first_spans}
use Rattle.cs_match.specs.SpanWork.{find_bytes}
use Rattle.cs_match.proofs.SpanListLemmas.{Continues}
use Rattle.cs_match.proofs.spans.pass.Pass.list.Given as goal

abbrev pub invariant-spans : goal.invariant-spans
invariant-spans l =
    record {
      ready : IsPassOf l.program l.self;
      whole : l.wanted.whole ≡ l.fn.whole;
      within : l.wanted.from ≤ length l.line;
      count : l.count ≤ length l.spans;
      rest : drop l.count l.spans ≡ drop l.count l.fn.spans;
      listed : Continues l.fn.whole l.program l.line (first_spans l.count l.spans) l.wanted.from l.wanted.least;
      read : (k : ℕ) → length l.line < 2 ^ k → HasRead l.program (l.fn.self.left + find_bytes k (length l.line)) l.fn.self l.self;
    }

abbrev pub decreases-spans : goal.decreases-spans
decreases-spans l = length l.initial.spans - l.count
