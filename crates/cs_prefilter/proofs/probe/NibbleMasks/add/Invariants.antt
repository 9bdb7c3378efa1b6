use Rattle.std.proofs.Common.{◌≡◌, ℕ, ◌<◌, true}
use Rattle.cs_syntax.specs.Matching.{member}
use Rattle.cs_prefilter.specs.Buckets.{IsInBucket, KeepsByteBuckets}
use Rattle.cs_prefilter.proofs.probe.NibbleMasks.add.Given as goal

abbrev pub invariant-loop-byte : goal.invariant-loop-byte
invariant-loop-byte l = record {
  has : (b : ℕ) → b < l.byte → member l.set b ≡ true → IsInBucket l.self b l.bucket;
  keeps : KeepsByteBuckets l.fn.self l.self;
}
