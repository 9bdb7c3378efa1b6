use Rattle.std.proofs.Common.{◌+◌, ◌-◌, ◌*◌, ◌≤◌, w64}
use Rattle.std.specs.Int.{trailing_zeros}
use Rattle.cs_prefilter.specs.WordStop.{NoneUnmarked}
use Rattle.cs_prefilter.specs.OffsetWork.{candidate_work}
use Rattle.cs_prefilter.proofs.comparing.WordList.first_in_stride.Given as goal

abbrev pub invariant-marks : goal.invariant-marks
invariant-marks g l = record {
  none : NoneUnmarked l.self.words.items l.text l.offset l.rest;
  wasted : l.wasted ≤ trailing_zeros w64 l.rest;
  rises : l.fn.steps.count ≤ l.steps.count;
  work : l.steps.count ≤ l.fn.steps.count + trailing_zeros w64 l.rest * candidate_work;
}

abbrev pub decreases-marks : goal.decreases-marks
decreases-marks g l = 64 - trailing_zeros w64 l.rest
