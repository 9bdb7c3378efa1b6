use Rattle.std.proofs.Common.{◌+◌, ◌-◌, ◌*◌, ◌≤◌, length}
use Rattle.cs_prefilter.specs.WordAt.{NoWordFrom}
use Rattle.cs_prefilter.specs.OffsetWork.{offset_work}
use Rattle.cs_prefilter.proofs.comparing.WordList.first.Given as goal

abbrev pub invariant-strides : goal.invariant-strides
invariant-strides g l = record {
  low : l.from ≤ l.offset;
  high : l.offset ≤ length l.text;
  none : NoWordFrom l.self.words.items l.text l.from l.offset;
  rises : l.fn.steps.count ≤ l.steps.count;
  work : l.steps.count ≤ l.fn.steps.count + (l.offset - l.from) * offset_work;
}

abbrev pub decreases-strides : goal.decreases-strides
decreases-strides g l = length l.text - l.offset
