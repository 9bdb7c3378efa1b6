use Rattle.std.proofs.Common.{◌≡◌, ◌≤◌, ◌-◌, ℕ, Bool, List, length, take, drop}
use Rattle.cs_match.specs.Lines.{terminated_lines}
use Rattle.cs_match.specs.Skipping.{AreWholeLines, NoneMatch}
use Rattle.cs_lines.specs.Findings.{Tests, KeepsSearch, has_stopped}
use Rattle.cs_lines.specs.Work.{Takes, line_weight, search_work}
use Rattle.cs_lines.proofs.search.LineSearch.next_match.Given as goal

abbrev pub invariant-lines : goal.invariant-lines
invariant-lines l = record {
  low : l.from ≤ l.start;
  high : l.start ≤ length l.block;
  whole : AreWholeLines (drop l.start l.block);
  before : AreWholeLines (take (l.start - l.from) (drop l.from l.block));
  none : (test : List ℕ → Bool) → Tests test l.fn.self → NoneMatch test (terminated_lines (take (l.start - l.from) (drop l.from l.block)));
  same : KeepsSearch l.fn.self l.self;
  budget : has_stopped l.self ≡ has_stopped l.fn.self;
  work : Takes (search_work (line_weight l.fn.self) (l.start - l.from)) l.fn.self l.self;
}

abbrev pub decreases-lines : goal.decreases-lines
decreases-lines l = length l.block - l.start
