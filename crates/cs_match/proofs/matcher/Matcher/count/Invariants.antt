use Rattle.std.proofs.Common.{ℕ, Bool, List, ◌-◌, ◌≡◌, ◌≤◌, length}
use Rattle.cs_match.specs.Deciding.{Decides}
use Rattle.cs_match.specs.Work.{WorksWithin, list_work}
use Rattle.cs_match.specs.Skipped.{AreLinesBetween}
use Rattle.cs_match.proofs.CountingLemmas.{count_between}
use Rattle.cs_match.proofs.matcher.Matcher.count.Given as goal

abbrev pub invariant-lists : goal.invariant-lists
invariant-lists l = record {
  lines : AreLinesBetween l.block 0 l.offset;
  bound : l.matching_lines ≤ l.offset;
  count : (has_match : List ℕ → Bool) → Decides has_match l.fn.self.tree → l.matching_lines ≡ count_between has_match l.block 0 l.offset;
  same : l.self.tree ≡ l.fn.self.tree;
  work : WorksWithin (list_work l.fn.self.tree l.offset) l.fn.self l.self;
}

abbrev pub decreases-lists : goal.decreases-lists
decreases-lists l = length l.block - l.offset
