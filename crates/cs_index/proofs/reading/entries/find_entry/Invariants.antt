use Rattle.std.proofs.Common.{◌≡◌, ◌≤◌, ◌<◌, ◌+◌, ◌-◌, ◌*◌, ◌/◌, ℕ, List, Some}
use Rattle.cs_index.specs.Encoding.{ListEntry}
use Rattle.cs_index.specs.Opening.{trigram_at}
use Rattle.cs_index.specs.StoredEntries.{HasEntries}
use Rattle.cs_index.proofs.reading.entries.find_entry.Given as goal

abbrev pub invariant-halves : goal.invariant-halves
invariant-halves g l = record {
  order : l.low ≤ l.high;
  within : l.high ≤ (l.starts.trailer - l.starts.list_index) / 11;
  between : (bytes : List ℕ) → g.S.Store.model l.fn.store ≡ Some bytes → (entries : List ListEntry) →
      HasEntries bytes l.starts entries → (k : ℕ) → k < (l.starts.trailer - l.starts.list_index) / 11 →
      trigram_at bytes (l.starts.list_index + 11 * k) ≡ l.trigram → (l.low ≤ k) × (k < l.high);
  keeps : g.S.Store.model l.store ≡ g.S.Store.model l.fn.store;
  size : g.S.Store.size l.store ≡ g.S.Store.size l.fn.store;
  failed : g.S.Store.failed l.store ≡ g.S.Store.failed l.fn.store;
}

abbrev pub decreases-halves : goal.decreases-halves
decreases-halves g l = l.high - l.low
