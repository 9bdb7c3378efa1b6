use Rattle.std.proofs.Common.{◌≡◌, ◌≤◌, ◌+◌, ℕ, List, take, Ok}
use Rattle.cs_trigram.specs.Position.{IsPositionAfter, Validates}
use Rattle.cs_trigram.proofs.position.validate_bytes.Given as goal

-- the bytes so far break no rule
abbrev pub invariant-loop-byte : goal.invariant-loop-byte
invariant-loop-byte l = record {
  rule : (prefix : List ℕ) → IsPositionAfter l.initial.position prefix →
      Validates l.limits prefix (take l.byte-index l.bytes) (Ok l.position);
  counted : l.position.count ≡ l.initial.position.count + l.byte-index;
  within : l.position.count ≤ l.limits.bytes;
  column : l.position.column ≤ l.limits.line;
}
