use Rattle.std.proofs.Common.{◌≡◌, ◌-◌, ◌⊎◌, List, ℕ, Some, length}
use Rattle.cs_index.specs.Rows.{IsLeft, RowSoFar}
use Rattle.cs_index.specs.StoredLists.{Holds, ids_left}
use Rattle.cs_index.proofs.reading.rows.list_row.Given as goal

abbrev pub invariant-ids : goal.invariant-ids
invariant-ids g l = record {
  width : (length l.row.items ≡ 0) ⊎ (length l.row.items ≡ l.window.end - l.window.start);
  so_far : (bytes : List ℕ) → g.S.Store.model l.fn.store ≡ Some bytes → IsLeft bytes l.fn.list →
      Holds bytes l.list × RowSoFar l.window.start l.window.end (ids_left bytes l.fn.list) l.row.items
      (ids_left bytes l.list);
  keeps : g.S.Store.model l.store ≡ g.S.Store.model l.fn.store;
  size : g.S.Store.size l.store ≡ g.S.Store.size l.fn.store;
  failed : g.S.Store.failed l.store ≡ g.S.Store.failed l.fn.store;
}

abbrev pub decreases-ids : goal.decreases-ids
decreases-ids g l = l.list.left
