use Rattle.std.proofs.Common.{◌≡◌, List, ℕ, Some, length, map, take}
use Rattle.std.specs.List.{AllByRecursion}
use Rattle.cs_index.specs.PostingLists.{read_list}
use Rattle.cs_index.specs.Stored.{sections_at}
use Rattle.cs_index.specs.StoredEntries.{entry_read}
use Rattle.cs_index.specs.StoredLists.{Holds, ids_left}
use Rattle.cs_index.specs.declared.reading.entries.Entry.{Entry}
use Rattle.cs_index.proofs.reading.candidates.lists_of.Given as goal

abbrev pub invariant-loop-entry : goal.invariant-loop-entry
invariant-loop-entry g l = record {
  lists : (bytes : List ℕ) → g.S.Store.model l.fn.store ≡ Some bytes → map (ids_left bytes) l.lists.items
      ≡ map (λ (e : Entry). read_list (sections_at bytes l.starts).postings l.name_count (entry_read e)) (take l.entry-index l.entries);
  count : length l.lists.items ≡ l.entry-index;
  holds : (bytes : List ℕ) → g.S.Store.model l.fn.store ≡ Some bytes → AllByRecursion (Holds bytes) l.lists.items;
  keeps : g.S.Store.model l.store ≡ g.S.Store.model l.fn.store;
  size : g.S.Store.size l.store ≡ g.S.Store.size l.fn.store;
  failed : g.S.Store.failed l.store ≡ g.S.Store.failed l.fn.store;
}
