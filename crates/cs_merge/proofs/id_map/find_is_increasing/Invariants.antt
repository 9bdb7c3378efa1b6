use Rattle.std.proofs.Common.{◌≡◌, ℕ, ◌<◌, ◌≤◌, Some}
use Rattle.cs_merge.proofs.Common.{new_id}
use Rattle.cs_merge.proofs.id_map.find_is_increasing.Given as goal

abbrev pub invariant-ids : goal.invariant-ids
invariant-ids l = record {
  so_far : (low high a b : ℕ) → low < high → high < l.id → new_id l.new_ids low ≡ Some a → new_id l.new_ids high ≡ Some b → a < b;
  last : (low a : ℕ) → low < l.id → new_id l.new_ids low ≡ Some a → (b : ℕ) × (l.last ≡ Some b) × (a ≤ b);
}
