use Rattle.std.proofs.Common.{ℕ, ◌+◌, ◌-◌, ◌*◌, ◌<◌, ◌≤◌, get_or}
use Rattle.cs_prefilter.specs.declared.word.Word.{Word}
use Rattle.cs_prefilter.specs.OffsetWork.{word_work}
use Rattle.cs_prefilter.specs.WordAt.{WordAt}
use Rattle.cs_prefilter.proofs.comparing.WordList.occurs_in.Given as goal

abbrev pub invariant-loop-i : goal.invariant-loop-i
invariant-loop-i l = record {
  none : (i : ℕ) (d : Word) → l.first ≤ i → i < l.i
      → WordAt l.text l.offset (get_or l.self.words.items i d) → ⊥;
  rises : l.fn.steps.count ≤ l.steps.count;
  work : l.steps.count ≤ l.fn.steps.count + (l.i - l.first) * word_work;
}
