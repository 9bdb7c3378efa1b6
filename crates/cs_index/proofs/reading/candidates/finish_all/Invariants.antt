use Rattle.std.proofs.Common.{◌≡◌, List, ℕ, Some, length}
use Rattle.std.specs.List.{AllByRecursion}
use Rattle.cs_index.specs.Rows.{lists_are_whole}
use Rattle.cs_index.specs.StoredLists.{Holds}
use Rattle.cs_index.proofs.reading.candidates.finish_all.Given as goal

abbrev pub invariant-lists : goal.invariant-lists
invariant-lists g l = record {
  whole : (bytes : List ℕ) → g.S.Store.model l.fn.store ≡ Some bytes → AllByRecursion (Holds bytes) l.fn.lists.items →
      AllByRecursion (Holds bytes) l.lists.items × (lists_are_whole bytes l.lists.items ≡ lists_are_whole bytes l.fn.lists.items);
  keeps : g.S.Store.model l.store ≡ g.S.Store.model l.fn.store;
  size : g.S.Store.size l.store ≡ g.S.Store.size l.fn.store;
  failed : g.S.Store.failed l.store ≡ g.S.Store.failed l.fn.store;
}

abbrev pub decreases-lists : goal.decreases-lists
decreases-lists g l = length l.lists.items
