use Rattle.std.proofs.Common.{◌≡◌, ◌++◌, List, ℕ, Some, take, drop}
use Rattle.std.specs.Prelude.{filter}
use Rattle.std.specs.List.{AllByRecursion}
use Rattle.cs_trigram.specs.Trigram.{Ascends}
use Rattle.cs_index.specs.Encoding.{ListEntry}
use Rattle.cs_index.specs.Postings.{entry_of, has_entry}
use Rattle.cs_index.specs.StoredEntries.{entry_read, trigrams_listed, HasEntries}
use Rattle.cs_index.specs.declared.reading.entries.Entry.{Entry}
use Rattle.cs_index.proofs.reading.candidates.listed_entries.Given as goal

abbrev pub invariant-loop-trigram : goal.invariant-loop-trigram
invariant-loop-trigram g l = record {
  each : (bytes : List ℕ) → g.S.Store.model l.fn.store ≡ Some bytes → (entries : List ListEntry) →
      HasEntries bytes l.starts entries → AllByRecursion (λ (e : Entry). entry_of entries e.trigram
      ≡ Some (entry_read e)) l.listed.items;
  all : (bytes : List ℕ) → g.S.Store.model l.fn.store ≡ Some bytes → (entries : List ListEntry) →
      HasEntries bytes l.starts entries → trigrams_listed l.listed.items
      ≡ filter (has_entry entries) (take l.trigram-index l.trigram-items);
  ascend : Ascends (trigrams_listed l.listed.items ++ drop l.trigram-index l.trigram-items);
  keeps : g.S.Store.model l.store ≡ g.S.Store.model l.fn.store;
  size : g.S.Store.size l.store ≡ g.S.Store.size l.fn.store;
  failed : g.S.Store.failed l.store ≡ g.S.Store.failed l.fn.store;
}
