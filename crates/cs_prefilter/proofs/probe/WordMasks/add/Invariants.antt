use Rattle.std.proofs.Common.{ℕ, ◌<◌, get_or}
use Rattle.cs_prefilter.specs.declared.probe.NibbleMasks.{NibbleMasks}
use Rattle.cs_prefilter.specs.Buckets.{SetIsInBucket, KeepsBuckets}
use Rattle.cs_prefilter.proofs.probe.WordMasks.add.Given as goal

abbrev pub invariant-loop-i : goal.invariant-loop-i
invariant-loop-i l = record {
  has : (j : ℕ) (m : NibbleMasks) → j < l.i → SetIsInBucket (get_or l.self.at j m) l.word j l.bucket;
  keeps : KeepsBuckets l.fn.self l.self;
}
