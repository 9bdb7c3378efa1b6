use Rattle.std.proofs.Common.{◌≡◌, ◌+◌, ◌<◌, ◌||◌, ℕ, false, length, get_or, drop}
use Rattle.std.specs.List.{AllByRecursion}
use Rattle.std.specs.Prelude.{sum}
use Rattle.cs_trigram.specs.Trigram.{has}
use Rattle.cs_index.specs.IdStream.{ids_by_deltas}
use Rattle.cs_index.proofs.encoded_run.mark_deltas.Given as goal

abbrev pub invariant-deltas : goal.invariant-deltas
invariant-deltas l = record {
  width : length l.row ≡ length l.fn.row;
  within : l.next + sum (drop l.delta-index l.deltas) ≡ l.at + sum l.deltas;
  short : AllByRecursion (λ delta. (0 < delta) × (delta < 128)) (drop l.delta-index l.deltas);
  flags : (k : ℕ) → (get_or l.row k false || has (ids_by_deltas l.next (drop l.delta-index l.deltas)) k)
      ≡ (get_or l.fn.row k false || has (ids_by_deltas l.at l.deltas) k);
}
