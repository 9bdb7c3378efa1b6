use Rattle.std.proofs.Common.{◌≡◌, ◌≤◌, ◌-◌, List, ℕ, Some}
use Rattle.std.specs.Prelude.{filter}
use Rattle.std.specs.List.{AllByRecursion, AllZip, range_with_len}
use Rattle.cs_index.specs.Form.{number_matches}
use Rattle.cs_index.specs.Rows.{have_id, IsLeft, IsReadOn}
use Rattle.cs_index.proofs.reading.candidates.meet.Given as goal

abbrev pub invariant-windows : goal.invariant-windows
invariant-windows g l = record {
  low : l.all.start ≤ l.start;
  high : l.start ≤ l.all.end;
  ids : (bytes : List ℕ) → g.S.Store.model l.fn.store ≡ Some bytes → AllByRecursion (IsLeft bytes) l.fn.lists →
      l.ids.items ≡ filter (λ id. number_matches (have_id bytes l.fn.lists id) l.form.nodes.items l.form.root)
      (range_with_len l.all.start (l.start - l.all.start));
  lists : (bytes : List ℕ) → g.S.Store.model l.fn.store ≡ Some bytes → AllByRecursion (IsLeft bytes) l.fn.lists →
      AllZip (IsReadOn bytes l.start) l.fn.lists l.lists;
  keeps : g.S.Store.model l.store ≡ g.S.Store.model l.fn.store;
  size : g.S.Store.size l.store ≡ g.S.Store.size l.fn.store;
  failed : g.S.Store.failed l.store ≡ g.S.Store.failed l.fn.store;
}

abbrev pub decreases-windows : goal.decreases-windows
decreases-windows g l = l.all.end - l.start
