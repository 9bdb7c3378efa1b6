use Rattle.std.proofs.Common.{◌≡◌, ◌<◌, ◌≤◌, ℕ, suc, false, length}
use Rattle.cs_syntax.specs.CharSteps.{char_step, finished}
use Rattle.cs_match.specs.ByteClasses.{begins_at}
use Rattle.cs_match.proofs.byte_classes.mark_leads.Given as goal

abbrev pub invariant-loop-byte : goal.invariant-loop-byte
invariant-loop-byte l = record {
  bytes : length l.begins ≡ length l.fn.begins;
  kept : (b : ℕ) → begins_at l.begins b ≡ false → begins_at l.fn.begins b ≡ false;
  first : begins_at l.begins 192 ≡ false → ⊥;
  alike : (b : ℕ) → 192 ≤ b → b < l.byte → begins_at l.begins (suc b) ≡ false →
      char_step l.cuts finished b ≡ char_step l.cuts finished (suc b);
}
