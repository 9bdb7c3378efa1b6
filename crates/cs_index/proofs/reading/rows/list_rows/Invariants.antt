use Rattle.std.proofs.Common.{◌≡◌, ◌<◌, ◌+◌, ◌-◌, ◌∷◌, List, ℕ, Some, true, false, take, drop}
use Rattle.std.specs.List.{AllByRecursion, AllZip}
use Rattle.cs_index.specs.Rows.{column, have_id, HaveWidth, IsLeft, IsReadOn}
use Rattle.cs_index.proofs.reading.rows.list_rows.Given as goal

abbrev pub invariant-loop-at : goal.invariant-loop-at
invariant-loop-at g l = record {
  width : HaveWidth (l.window.end - l.window.start) l.rows.items;
  rows : (bytes : List ℕ) → g.S.Store.model l.fn.store ≡ Some bytes → AllByRecursion (IsLeft bytes) l.fn.lists →
      (k : ℕ) → l.window.start + k < l.window.end → column k l.rows.items ≡ false ∷ true
      ∷ have_id bytes (take l.at l.fn.lists) (l.window.start + k);
  read : (bytes : List ℕ) → g.S.Store.model l.fn.store ≡ Some bytes → AllByRecursion (IsLeft bytes) l.fn.lists →
      AllZip (IsReadOn bytes l.window.end) (take l.at l.fn.lists) (take l.at l.lists);
  left : drop l.at l.lists ≡ drop l.at l.fn.lists;
  keeps : g.S.Store.model l.store ≡ g.S.Store.model l.fn.store;
  size : g.S.Store.size l.store ≡ g.S.Store.size l.fn.store;
  failed : g.S.Store.failed l.store ≡ g.S.Store.failed l.fn.store;
}
