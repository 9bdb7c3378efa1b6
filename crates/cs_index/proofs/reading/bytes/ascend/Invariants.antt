use Rattle.std.proofs.Common.{◌≡◌, ◌||◌, ◌∷◌, [], true, length}
use Rattle.cs_tree.specs.NamesAscending.{are_ascending}
use Rattle.cs_index.specs.Opening.{is_section, texts_of}
use Rattle.cs_index.proofs.reading.bytes.ascend.Given as goal

abbrev pub invariant-texts : goal.invariant-texts
invariant-texts l = record {
  formed : (is_section (0 ∷ []) l.rest || is_section [] l.rest) ≡ true;
  left : are_ascending (texts_of l.section) ≡ are_ascending (l.last ∷ texts_of l.rest);
}

abbrev pub decreases-texts : goal.decreases-texts
decreases-texts l = length l.rest
