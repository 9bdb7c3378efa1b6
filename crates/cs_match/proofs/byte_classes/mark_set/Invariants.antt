use Rattle.std.proofs.Common.{◌≡◌, ◌<◌, ℕ, suc, false, length}
use Rattle.cs_syntax.specs.Matching.{member}
use Rattle.cs_match.specs.ByteClasses.{begins_at}
use Rattle.cs_match.proofs.byte_classes.mark_set.Given as goal

abbrev pub invariant-loop-byte : goal.invariant-loop-byte
invariant-loop-byte l = record {
  bytes : length l.begins ≡ length l.fn.begins;
  kept : (b : ℕ) → begins_at l.begins b ≡ false → begins_at l.fn.begins b ≡ false;
  alike : (b : ℕ) → b < l.byte → begins_at l.begins (suc b) ≡ false → member l.set b ≡ member l.set (suc b);
}
