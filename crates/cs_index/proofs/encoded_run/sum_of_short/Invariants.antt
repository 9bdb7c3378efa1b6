use Rattle.std.proofs.Common.{◌≡◌, ◌*◌, ◌+◌, ◌<◌, ◌≤◌, true, take, drop}
use Rattle.std.specs.Prelude.{sum}
use Rattle.std.specs.List.{AllByRecursion}
use Rattle.cs_index.proofs.encoded_run.sum_of_short.Given as goal

abbrev pub invariant-deltas : goal.invariant-deltas
invariant-deltas l = record {
  sum : l.sum + sum (drop l.delta-index l.deltas) ≡ sum l.deltas;
  small : l.sum ≤ 255 * l.delta-index;
  short : l.all_short ≡ true → AllByRecursion (λ delta. (0 < delta) × (delta < 128)) (take l.delta-index l.deltas);
}
