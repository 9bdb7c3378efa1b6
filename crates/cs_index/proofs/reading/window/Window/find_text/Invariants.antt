use Rattle.std.proofs.Common.{◌≡◌, ◌≤◌, ◌-◌, ℕ, List, Some, length}
use Rattle.cs_index.specs.Windows.{IsPiece, StandsAt}
use Rattle.cs_index.proofs.reading.window.Window.find_text.Given as goal

abbrev pub invariant-pieces : goal.invariant-pieces
invariant-pieces g l = record {
  none : (bytes : List ℕ) → g.S.Store.model l.fn.store ≡ Some bytes → IsPiece bytes l.fn.self → (text : List ℕ) →
      StandsAt bytes l.at l.end text → l.searched ≤ length text;
  piece : (bytes : List ℕ) → g.S.Store.model l.fn.store ≡ Some bytes → IsPiece bytes l.fn.self → IsPiece bytes l.self;
  keeps : g.S.Store.model l.store ≡ g.S.Store.model l.fn.store;
  size : g.S.Store.size l.store ≡ g.S.Store.size l.fn.store;
  failed : g.S.Store.failed l.store ≡ g.S.Store.failed l.fn.store;
}

abbrev pub decreases-pieces : goal.decreases-pieces
decreases-pieces g l = l.room - l.searched
