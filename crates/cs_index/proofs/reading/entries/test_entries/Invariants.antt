use Rattle.std.proofs.Common.{◌≡◌, ◌≤◌, ◌<◌, ℕ, suc}
use Rattle.cs_index.proofs.stored.EntryPieces.{nth}
use Rattle.cs_index.proofs.reading.entries.test_entries.Given as goal

abbrev pub invariant-loop-at : goal.invariant-loop-at
invariant-loop-at l = record {
  rise : l.disorder ≡ 0 → (k : ℕ) → suc k < l.at → (nth l.entries k).trigram < (nth l.entries (suc k)).trigram;
  fall : ((k : ℕ) → suc k < l.at → (nth l.entries k).trigram < (nth l.entries (suc k)).trigram) → l.disorder ≡ 0;
  fit : (k : ℕ) → k < l.at → (nth l.entries k).offset ≤ l.largest;
  most : (bound : ℕ) → ((k : ℕ) → k < l.at → (nth l.entries k).offset ≤ bound) → l.largest ≤ bound;
}
