use Rattle.std.proofs.Common.{◌≡◌, ◌≤◌, ◌-◌, ◌%◌, List, ℕ, Some, length}
use Rattle.cs_tree.specs.Store.{part_of}
use Rattle.cs_index.specs.Opening.{entries_in}
use Rattle.cs_index.specs.SectionPieces.{are_entries}
use Rattle.cs_index.specs.Windows.{IsPiece}
use Rattle.cs_index.proofs.reading.stored_sections.has_stored_entries.Given as goal

abbrev pub invariant-pieces : goal.invariant-pieces
invariant-pieces g l = record {
  begun : l.starts.list_index ≤ l.at;
  within : l.at ≤ l.starts.trailer;
  whole : (l.starts.trailer - l.at) % 11 ≡ 0;
  left : (bytes : List ℕ) → g.S.Store.model l.fn.store ≡ Some bytes → l.starts.trailer ≤ length bytes →
      are_entries l.room 0 (entries_in (part_of bytes l.starts.list_index (l.starts.trailer - l.starts.list_index)))
      ≡ are_entries l.room l.least (entries_in (part_of bytes l.at (l.starts.trailer - l.at)));
  piece : (bytes : List ℕ) → g.S.Store.model l.fn.store ≡ Some bytes → IsPiece bytes l.window;
  keeps : g.S.Store.model l.store ≡ g.S.Store.model l.fn.store;
  size : g.S.Store.size l.store ≡ g.S.Store.size l.fn.store;
  failed : g.S.Store.failed l.store ≡ g.S.Store.failed l.fn.store;
}

abbrev pub decreases-pieces : goal.decreases-pieces
decreases-pieces g l = l.starts.trailer - l.at
