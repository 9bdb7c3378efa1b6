use Rattle.std.proofs.Common.{◌≡◌, ◌+◌, ◌-◌, ◌≤◌, length}
use Rattle.cs_prefilter.specs.Probe.{NoneFrom}
use Rattle.cs_prefilter.proofs.scan.skip_strides.Given as goal

abbrev pub invariant-strides : goal.invariant-strides
invariant-strides g l = record {
  low : l.from ≤ l.offset;
  high : l.offset ≤ length l.text;
  none : NoneFrom (g.P.Probe.Finds l.probe) l.text l.from l.offset;
  work : l.steps.count ≡ l.fn.steps.count + (l.offset - l.from);
}

abbrev pub decreases-strides : goal.decreases-strides
decreases-strides g l = length l.text - l.offset
