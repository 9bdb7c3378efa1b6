use Rattle.std.proofs.Common.{◌≡◌, ◌+◌, ◌-◌, ◌≤◌, ◌<◌, true, length, get_or}
use Rattle.cs_prefilter.specs.Listed.{AreEndsTo, IsLineStart}
use Rattle.cs_prefilter.specs.OffsetWork.{list_work}
use Rattle.cs_prefilter.proofs.comparing.WordList.list.Given as goal

abbrev pub invariant-stops : goal.invariant-stops
invariant-stops g l = record {
  ends : AreEndsTo l.self.words.items l.rest l.from l.offset l.count l.ends;
  start : length l.ends ≤ l.count → IsLineStart l.rest 0 l.offset;
  stops : length l.ends ≤ l.count → l.from + l.offset ≡ get_or l.ends (l.count - 1) 0 + 1;
  few : l.count ≤ l.offset;
  moved : l.is_given_up ≡ true → 0 < l.offset;
  rises : l.fn.steps.count ≤ l.steps.count;
  work : l.steps.count ≤ l.fn.steps.count + list_work l.offset l.count;
}

abbrev pub decreases-stops : goal.decreases-stops
decreases-stops g l = length l.rest - l.offset
