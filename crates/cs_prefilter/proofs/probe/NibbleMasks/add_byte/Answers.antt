use Rattle.std.proofs.Common.{refl, arith}
use Rattle.cs_prefilter.proofs.BucketLemmas.{IsInBucket-bit_is_set, KeepsByteBuckets-bit_is_set}
use Rattle.cs_prefilter.proofs.probe.NibbleMasks.add_byte.Goals as goal

pub returns-clause-has : goal.returns-clause-has
returns-clause-has c = IsInBucket-bit_is_set c.args.self.now.low c.args.self.now.high _ _ c.args.bucket (omega arith)
    (omega arith) c.args.byte refl refl c.requires

pub returns-clause-keeps : goal.returns-clause-keeps
returns-clause-keeps c = KeepsByteBuckets-bit_is_set c.args.self.now.low c.args.self.now.high _ _ c.args.bucket (omega arith) (omega arith)
