use Rattle.std.proofs.Common.{◌≡◌, ◌<◌, ◌+◌, ◌-◌, List, ℕ, Some, take}
use Rattle.std.specs.List.{AllByRecursion}
use Rattle.cs_index.specs.Form.{matched}
use Rattle.cs_index.specs.Rows.{column, have_id, HaveWidth, IsLeft}
use Rattle.cs_index.proofs.reading.rows.rows_of.Given as goal

abbrev pub invariant-loop-node : goal.invariant-loop-node
invariant-loop-node g l = record {
  width : HaveWidth (l.fn.window.end - l.fn.window.start) l.rows.items;
  rows : (bytes : List ℕ) → g.S.Store.model l.fn.store ≡ Some bytes → AllByRecursion (IsLeft bytes) l.fn.lists →
      (k : ℕ) → l.fn.window.start + k < l.fn.window.end → column k l.rows.items
      ≡ matched (have_id bytes l.fn.lists (l.fn.window.start + k)) (take l.node-index l.nodes);
}
