use Rattle.std.proofs.Common.{ℕ, ◌<◌, ◌≤◌, ◌+◌, ◌*◌, get_or}
use Rattle.cs_prefilter.specs.declared.word.Word.{Word}
use Rattle.cs_prefilter.specs.OffsetWork.{word_work}
use Rattle.cs_prefilter.specs.WordAt.{WordAt}
use Rattle.cs_prefilter.proofs.comparing.occurs.Given as goal

abbrev pub invariant-loop-word : goal.invariant-loop-word
invariant-loop-word l = record {
  none : (k : ℕ) (d : Word) → k < l.word-index → ¬ WordAt l.text l.offset (get_or l.words k d);
  rises : l.fn.steps.count ≤ l.steps.count;
  work : l.steps.count ≤ l.fn.steps.count + l.word-index * word_work;
}
