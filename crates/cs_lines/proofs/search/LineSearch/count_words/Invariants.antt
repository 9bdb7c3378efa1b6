use Rattle.std.proofs.Common.{◌≡◌, ◌≤◌, ◌+◌, ◌-◌, ℕ, Bool, List, length, drop}
use Rattle.std.specs.List.{count_by}
use Rattle.cs_match.specs.Lines.{terminated_lines}
use Rattle.cs_match.specs.Skipping.{AreWholeLines}
use Rattle.cs_lines.specs.Findings.{Tests, KeepsSearch, has_stopped}
use Rattle.cs_lines.specs.Work.{Takes, line_weight, search_work}
use Rattle.cs_lines.proofs.search.LineSearch.count_words.Given as goal

abbrev pub invariant-lines : goal.invariant-lines
invariant-lines l = record {
  high : l.offset ≤ length l.block;
  whole : AreWholeLines (drop l.offset l.block);
  count : (test : List ℕ → Bool) → Tests test l.fn.self →
      l.count + count_by test (terminated_lines (drop l.offset l.block)) ≡ count_by test (terminated_lines l.block);
  bound : l.count + length (terminated_lines (drop l.offset l.block)) ≤ length (terminated_lines l.block);
  same : KeepsSearch l.fn.self l.self;
  budget : has_stopped l.self ≡ has_stopped l.fn.self;
  work : Takes (search_work (line_weight l.fn.self) (l.offset)) l.fn.self l.self;
}

abbrev pub decreases-lines : goal.decreases-lines
decreases-lines l = length l.block - l.offset
