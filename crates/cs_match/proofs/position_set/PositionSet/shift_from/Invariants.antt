use Rattle.std.proofs.Common.{◌≡◌, ℕ, ◌+◌, ◌<◌, length, get_or}
use Rattle.cs_match.proofs.BitwiseLemmas.{carry, shifted}
use Rattle.cs_match.proofs.position_set.PositionSet.shift_from.Given as goal

abbrev pub invariant-loop-index : goal.invariant-loop-index
invariant-loop-index l = record {
  cost : l.steps.count ≡ l.fn.steps.count + l.index;
  position_count : l.self-inside.count ≡ l.initial.self-inside.count;
  as_many : length l.self-inside.words.items ≡ length l.initial.self-inside.words.items;
  carries : l.carried ≡ carry l.from-inside.words.items l.index;
  done : (k : ℕ) → k < l.index → get_or l.self-inside.words.items k 0 ≡ shifted l.from-inside.words.items k;
}
