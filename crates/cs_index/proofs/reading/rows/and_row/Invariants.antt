use Rattle.std.proofs.Common.{◌≡◌, ◌<◌, ◌&&◌, ℕ, false, length, get_or, drop}
use Rattle.std.specs.List.{list_all}
use Rattle.cs_index.specs.Rows.{column}
use Rattle.cs_index.proofs.reading.rows.and_row.Given as goal

abbrev pub invariant-loop-member : goal.invariant-loop-member
invariant-loop-member l = record {
  width : length l.row.items ≡ l.width;
  flags : (k : ℕ) → k < l.width → (get_or l.row.items k false && list_all (λ m. get_or (column k l.rows) m false)
      (drop l.member-index l.members)) ≡ list_all (λ m. get_or (column k l.rows) m false) l.members;
}
