use Rattle.std.proofs.Common.{◌≡◌, ◌<◌, ℕ, suc, false, length, get_or}
use Rattle.cs_match.specs.ByteClasses.{begins_at}
use Rattle.cs_match.specs.Digits.{IsNoDigit}
use Rattle.cs_match.proofs.byte_classes.mark_digits.Given as goal

abbrev pub invariant-loop-cut : goal.invariant-loop-cut
invariant-loop-cut l = record {
  bytes : length l.begins ≡ length l.fn.begins;
  kept : (b : ℕ) → begins_at l.begins b ≡ false → begins_at l.fn.begins b ≡ false;
  first : begins_at l.begins 128 ≡ false → ⊥;
  none : (b : ℕ) → suc b < 256 → begins_at l.begins (suc b) ≡ false → (k : ℕ) → k < l.cut-index →
      IsNoDigit (get_or l.cuts k 0) 1 (suc b) × IsNoDigit (get_or l.cuts k 0) 64 (suc b) × IsNoDigit (get_or l.cuts k 0) 4096 (suc b);
}
