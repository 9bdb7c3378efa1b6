use Rattle.std.proofs.Common.{◌+◌, ◌-◌, ◌*◌, ◌≤◌, min, length, w64}
use Rattle.std.specs.Int.{trailing_zeros}
use Rattle.cs_prefilter.specs.WordStop.{NoneUnmarked}
use Rattle.cs_prefilter.specs.OffsetWork.{candidate_work}
use Rattle.cs_prefilter.proofs.comparing.WordList.first_marked.Given as goal

abbrev pub invariant-marks : goal.invariant-marks
invariant-marks l = record {
  none : NoneUnmarked l.self.words.items l.text l.offset l.rest;
  rises : l.fn.steps.count ≤ l.steps.count;
  work : l.steps.count ≤ l.fn.steps.count + min (trailing_zeros w64 l.rest) (length l.text - l.offset) * candidate_work;
}

abbrev pub decreases-marks : goal.decreases-marks
decreases-marks l = 64 - trailing_zeros w64 l.rest
