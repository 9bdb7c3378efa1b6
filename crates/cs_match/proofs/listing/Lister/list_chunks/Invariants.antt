use Rattle.std.proofs.Common.{◌≡◌, ◌+◌, ◌-◌, ◌*◌, ◌≤◌, drop, get_or}
use Rattle.cs_match.specs.Deciding.{Decides}
use Rattle.cs_match.specs.Work.{byte_work}
use Rattle.cs_match.specs.Lanes.{AreListed}
use Rattle.cs_match.proofs.listing.Lister.list_chunks.Given as goal

abbrev pub invariant-loop-k : goal.invariant-loop-k
invariant-loop-k l = record {
  listed : AreListed (λ has_match. Decides has_match l.fn.self.dfa.tree) l.block l.from (get_or l.cuts l.k 0) l.count l.ends;
  room : l.count ≤ l.k * l.quarter;
  pending : drop (l.k * l.quarter) l.ends ≡ drop (l.k * l.quarter) l.initial.ends;
  same : l.self.dfa.tree ≡ l.fn.self.dfa.tree;
  rises : l.initial.self.steps.count ≤ l.self.steps.count;
  work : l.self.steps.count ≤ l.initial.self.steps.count + byte_work l.fn.self.dfa.tree * (get_or l.cuts l.k 0 - l.from);
}
