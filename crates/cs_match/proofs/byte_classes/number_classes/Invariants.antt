use Rattle.std.proofs.Common.{◌≡◌, ◌-◌, ◌<◌, ◌≤◌, ℕ, false, length, get_or}
use Rattle.cs_match.specs.ByteClasses.{begins_at}
use Rattle.cs_match.proofs.byte_classes.number_classes.Given as goal

abbrev pub invariant-loop-byte : goal.invariant-loop-byte
invariant-loop-byte l = record {
  size : length l.of ≡ 256;
  some : 1 ≤ l.byte;
  low : l.last < l.byte;
  top : get_or l.of (l.byte - 1) 0 ≡ l.last;
  below : (b : ℕ) → b < l.byte → get_or l.of b 0 ≤ l.last;
  size_firsts : length l.firsts ≡ 256;
  first : (l.first < l.byte) × (get_or l.of l.first 0 ≡ l.last);
  firsts : (b : ℕ) → b < l.byte → (get_or l.firsts b 0 ≤ b) × (get_or l.of (get_or l.firsts b 0) 0 ≡ get_or l.of b 0);
  none : (b c k : ℕ) → b < k → k ≤ c → c < l.byte → get_or l.of b 0 ≡ get_or l.of c 0 → begins_at l.begins k ≡ false;
}
