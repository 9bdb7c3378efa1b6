use Rattle.std.proofs.Common.{◌≡◌, ◌≤◌, ◌+◌, ◌-◌, suc, false, cond, List, ℕ, Some, length, drop}
use Rattle.cs_tree.specs.Store.{part_of}
use Rattle.cs_index.specs.SectionPieces.{IsWindow, left_from}
use Rattle.cs_index.specs.ValidSections.{HasNoText}
use Rattle.cs_index.specs.Windows.{IsPiece}
use Rattle.cs_index.proofs.stored.SectionPieces.{AreNamesBefore}
use Rattle.cs_index.proofs.reading.stored_sections.test_names.Given as goal

abbrev pub invariant-pieces : goal.invariant-pieces
invariant-pieces g l = record {
  window : IsWindow l.window l.starts.postings;
  used : l.used ≤ length l.window.piece.items;
  piece : (bytes : List ℕ) → g.S.Store.model l.fn.store ≡ Some bytes → IsPiece bytes l.window;
  few : l.count + l.starts.names ≤ l.window.start + l.used;
  begun : l.starts.names ≤ l.window.start;
  before : (bytes : List ℕ) → g.S.Store.model l.fn.store ≡ Some bytes →
      AreNamesBefore (part_of bytes l.starts.names (l.starts.postings - l.starts.names))
      (part_of bytes l.starts.name_index (l.starts.list_index - l.starts.name_index))
      (left_from bytes l.starts.postings l.window l.used) l.count (l.window.start + l.used - l.starts.names) l.have_offsets;
  rest : l.more ≡ false → HasNoText (drop l.used l.window.piece.items);
  last : (bytes : List ℕ) → g.S.Store.model l.fn.store ≡ Some bytes → l.starts.trailer ≤ length bytes → l.more ≡ false →
      left_from bytes l.starts.postings l.window l.used ≡ drop l.used l.window.piece.items;
  keeps : g.S.Store.model l.store ≡ g.S.Store.model l.fn.store;
  size : g.S.Store.size l.store ≡ g.S.Store.size l.fn.store;
  failed : g.S.Store.failed l.store ≡ g.S.Store.failed l.fn.store;
}

abbrev pub decreases-pieces : goal.decreases-pieces
decreases-pieces g l = cond l.more (suc (l.starts.postings - (l.window.start + length l.window.piece.items))) 0
