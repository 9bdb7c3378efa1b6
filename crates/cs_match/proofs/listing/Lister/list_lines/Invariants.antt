use Rattle.std.proofs.Common.{length, ◌-◌, ◌≡◌, ◌≤◌, ◌+◌}
use Rattle.std.specs.Prelude.{slice_index}
use Rattle.cs_match.specs.Deciding.{Decides}
use Rattle.cs_match.specs.Lanes.{AreListed}
use Rattle.cs_match.specs.Work.{list_work}
use Rattle.cs_match.proofs.listing.Lister.list_lines.Given as goal

abbrev pub invariant-parts : goal.invariant-parts
invariant-parts l = record {
  listed : AreListed (λ has_match. Decides has_match l.fn.self.dfa.tree) l.block l.from l.to l.count l.ends;
  one : length l.ends ≡ 1 → l.count ≡ 1 → l.to ≡ slice_index l.ends 0 + 1;
  same : l.self.dfa.tree ≡ l.fn.self.dfa.tree;
  rises : l.initial.self.steps.count ≤ l.self.steps.count;
  work : l.self.steps.count ≤ l.initial.self.steps.count + list_work l.fn.self.dfa.tree (l.to - l.from);
}

abbrev pub decreases-parts : goal.decreases-parts
decreases-parts l = length l.block - l.to
