use Rattle.std.proofs.Common.{◌≡◌, ℕ, ◌<◌, length, get_or}
use Rattle.std.specs.Prelude.{None}
use Rattle.cs_match.specs.Masks.{HasRoom}
use Rattle.cs_match.specs.declared.position.Mask.{Mask}
use Rattle.cs_match.proofs.position.Masks.new.Given as goal

abbrev pub invariant-loop-slot : goal.invariant-loop-slot
invariant-loop-slot l = record {
  all : length l.slots.items ≡ l.slot;
  room : (k : ℕ) (other : Mask) → k < l.slot → HasRoom l.positions (get_or l.slots.items k other);
  none : (k : ℕ) (other : Mask) → k < l.slot → (get_or l.slots.items k other).input ≡ None;
}
