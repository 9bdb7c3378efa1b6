use Rattle.std.proofs.Common.{◌≡◌, ◌<◌, ◌≤◌, ◌||◌, ℕ, false, get_or}
use Rattle.cs_index.proofs.reading.rows.unite.Given as goal

abbrev pub invariant-loop-at : goal.invariant-loop-at
invariant-loop-at l = record {
  done : (k : ℕ) → k < l.at → get_or l.row k false ≡ (get_or l.fn.row k false || get_or l.other k false);
  left : (k : ℕ) → l.at ≤ k → get_or l.row k false ≡ get_or l.fn.row k false;
}
