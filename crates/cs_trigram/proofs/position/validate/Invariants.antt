use Rattle.std.proofs.Common.{◌≡◌, ◌≤◌, ◌+◌, ◌-◌, ℕ, List, take, length, Ok}
use Rattle.cs_trigram.specs.Position.{IsPositionAfter, Validates}
use Rattle.cs_trigram.proofs.position.validate.Given as goal

-- the bytes so far break no rule
abbrev pub invariant-chunks : goal.invariant-chunks
invariant-chunks l = record {
  inside : l.offset ≤ length l.bytes;
  rule : (prefix : List ℕ) → IsPositionAfter l.initial.position prefix → Validates l.limits prefix (take l.offset l.bytes) (Ok l.position);
  counted : l.position.count ≡ l.initial.position.count + l.offset;
  within : l.position.count ≤ l.limits.bytes;
  column : l.position.column ≤ l.limits.line;
}

abbrev pub decreases-chunks : goal.decreases-chunks
decreases-chunks l = length l.bytes - l.offset
