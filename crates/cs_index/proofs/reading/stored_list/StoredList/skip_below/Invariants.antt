use Rattle.std.proofs.Common.{◌≡◌, List, ℕ, Some}
use Rattle.cs_index.specs.StoredLists.{Holds, SkipsBelow}
use Rattle.cs_index.proofs.reading.stored_list.StoredList.skip_below.Given as goal

abbrev pub invariant-ids : goal.invariant-ids
invariant-ids g l = record {
  skips : (bytes : List ℕ) → g.S.Store.model l.fn.store ≡ Some bytes → Holds bytes l.fn.self → SkipsBelow bytes l.end l.fn.self l.self;
  names : l.self.name_count ≡ l.fn.self.name_count;
  keeps : g.S.Store.model l.store ≡ g.S.Store.model l.fn.store;
  size : g.S.Store.size l.store ≡ g.S.Store.size l.fn.store;
  failed : g.S.Store.failed l.store ≡ g.S.Store.failed l.fn.store;
}

abbrev pub decreases-ids : goal.decreases-ids
decreases-ids g l = l.self.left
