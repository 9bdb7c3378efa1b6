use Rattle.std.proofs.Common.{◌≡◌, ◌+◌, ◌-◌, ◌*◌, ◌≤◌, Bool, List, ℕ, length, take, drop, slice_index}
use Rattle.std.specs.Prelude.{slice_range}
use Rattle.cs_match.specs.ConsistentDfa.{IsKnown, count_in}
use Rattle.cs_match.specs.Deciding.{Decides}
use Rattle.cs_match.specs.LazyDfa.{start_number}
use Rattle.cs_match.specs.MatchingEnds.{matching_ends, newlines_between}
use Rattle.cs_match.specs.Scanned.{HasScanned}
use Rattle.cs_match.specs.Skipping.{AreWholeLines}
use Rattle.cs_match.specs.Work.{byte_work}
use Rattle.cs_match.proofs.dfa.LazyDfa.list_ends.Given as goal

abbrev pub invariant-scan : goal.invariant-scan
invariant-scan l = record {
  from : l.scan.from ≡ l.part.start;
  same : l.self.tree ≡ l.fn.self.tree;
  scanned : HasScanned l.self l.text l.scan;
  listed : (has_match : List ℕ → Bool) → Decides has_match l.fn.self.tree →
      take l.count l.ends ≡ matching_ends has_match l.text l.scan.from l.scan.to;
  few : l.count ≤ newlines_between l.text l.scan.from l.scan.to;
  room : l.count ≤ length l.ends;
  stops : l.count ≡ length l.ends → (l.scan.to ≡ slice_index l.ends (l.count - 1) + 1) × AreWholeLines (slice_range l.text l.scan.from l.scan.to);
  known : IsKnown l.fn.self (start_number (count_in l.fn.self)) (drop l.part.start l.text) → (l.self ≡ l.fn.self)
      × IsKnown l.self l.scan.number (drop l.scan.to l.text) × (l.steps.count ≡ l.initial.steps.count + (l.scan.to - l.scan.from));
  rises : l.initial.steps.count ≤ l.steps.count;
  work : l.steps.count ≤ l.initial.steps.count + byte_work l.fn.self.tree * (l.scan.to - l.scan.from);
}

abbrev pub decreases-scan : goal.decreases-scan
decreases-scan l = length l.text - l.scan.to
