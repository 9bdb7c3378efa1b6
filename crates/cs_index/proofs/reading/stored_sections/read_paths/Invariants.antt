use Rattle.std.proofs.Common.{◌≡◌, ◌≤◌, ◌+◌, ◌-◌, ◌++◌, List, ℕ, Some, length}
use Rattle.cs_tree.specs.Store.{part_of}
use Rattle.cs_index.specs.Opening.{is_section}
use Rattle.cs_index.specs.SectionPieces.{IsWindow, left_from}
use Rattle.cs_index.specs.Windows.{IsPiece}
use Rattle.cs_index.proofs.reading.stored_sections.read_paths.Given as goal

abbrev pub invariant-pieces : goal.invariant-pieces
invariant-pieces g l = record {
  window : IsWindow l.window l.starts.names;
  used : l.used ≤ length l.window.piece.items;
  piece : (bytes : List ℕ) → g.S.Store.model l.fn.store ≡ Some bytes → IsPiece bytes l.window;
  strings : (closing rest : List ℕ) → is_section closing (l.paths.items ++ rest) ≡ is_section closing rest;
  left : (bytes : List ℕ) → g.S.Store.model l.fn.store ≡ Some bytes →
      part_of bytes l.starts.paths (l.starts.names - l.starts.paths) ≡ l.paths.items ++ left_from bytes l.starts.names l.window l.used;
  keeps : g.S.Store.model l.store ≡ g.S.Store.model l.fn.store;
  size : g.S.Store.size l.store ≡ g.S.Store.size l.fn.store;
  failed : g.S.Store.failed l.store ≡ g.S.Store.failed l.fn.store;
}

abbrev pub decreases-pieces : goal.decreases-pieces
decreases-pieces g l = l.starts.names - (l.window.start + length l.window.piece.items)
