use Rattle.std.proofs.Common.{◌≡◌, ◌++◌, ◌+◌, ◌-◌, false, length, get_or}
use Rattle.std.specs.Prelude.{filter}
use Rattle.std.specs.List.{range_with_len}
use Rattle.cs_index.proofs.reading.candidates.push_ids.Given as goal

abbrev pub invariant-loop-is_marked : goal.invariant-loop-is_marked
invariant-loop-is_marked l = record {
  id : l.id ≡ l.start + l.is_marked-index;
  ids : l.fn.ids.items ++ filter (λ id. get_or l.row (id - l.start) false) (range_with_len l.start (length l.row))
      ≡ l.ids.items ++ filter (λ id. get_or l.row (id - l.start) false) (range_with_len l.id (l.start + length l.row - l.id));
}
