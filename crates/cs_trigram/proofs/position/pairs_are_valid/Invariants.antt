use Rattle.std.proofs.Common.{drop, IsTrue}
use Rattle.cs_trigram.specs.FastPath.{AreValidPairs}
use Rattle.cs_trigram.proofs.position.pairs_are_valid.Given as goal

-- the rest of the bytes decides
abbrev pub invariant-loop-byte : goal.invariant-loop-byte
invariant-loop-byte l = IsTrue l.fit → AreValidPairs l.last (drop l.byte-index l.bytes) → AreValidPairs l.before l.bytes
