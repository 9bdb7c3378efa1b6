use Rattle.std.proofs.Common.{◌≡◌, ℕ, ◌+◌, ◌-◌, ◌*◌, ◌/◌, ◌%◌, ◌<◌, ◌≤◌, eqb, length, get_or}
use Rattle.std.specs.Prelude.{if◌then◌else◌}
use Rattle.std.specs.Int.{bit_at}
use Rattle.cs_match.specs.PositionSet.{has_bit_from}
use Rattle.cs_match.proofs.position_set.PositionSet.put_all.Given as goal

abbrev pub invariant-loop-index : goal.invariant-loop-index
invariant-loop-index l =
    let new = l.self-inside.words.items in
    let old = l.initial.self-inside.words.items in
    record {
      position_count : l.self-inside.count ≡ l.initial.self-inside.count;
      as_many : length new ≡ length old;
      fits : (k : ℕ) → get_or new k 0 < 18446744073709551616;
      done : (k i : ℕ) → l.from / 64 ≤ k → k < l.index → i < 64 →
          eqb (bit_at (get_or new k 0) i) 1 ≡ (if has_bit_from l.which-inside.words.items (l.from % 64)
          ((k - l.from / 64) * 64 + i) then l.on else eqb (bit_at (get_or old k 0) i) 1);
      before : (k : ℕ) → k < l.from / 64 → get_or new k 0 ≡ get_or old k 0;
      pending : (k : ℕ) → l.index ≤ k → get_or new k 0 ≡ get_or old k 0;
    }
