use Rattle.std.proofs.Common.{◌≡◌, ◌≤◌, ◌-◌, length, take}
use Rattle.cs_index.proofs.writing.strings.shared_len.Given as goal

-- both begin with the bytes so far
abbrev pub invariant-steps : goal.invariant-steps
invariant-steps l = record {
  same : take l.len l.a ≡ take l.len l.b;
  within : l.len ≤ length l.a;
  bound : l.len ≤ length l.b;
}

abbrev pub decreases-steps : goal.decreases-steps
decreases-steps l = length l.a - l.len
