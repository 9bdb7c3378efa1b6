use Rattle.std.proofs.Common.{◌≡◌, ℕ, ◌+◌, ◌<◌, false, Bool, List, length, get_or}
use Rattle.cs_syntax.specs.Matching.{member}
use Rattle.cs_prefilter.proofs.word.Word.is_in_line.Given as goal

abbrev pub invariant-loop-index : goal.invariant-loop-index
invariant-loop-index l = (i : ℕ) (d : List Bool) → i < l.index → i + 1 < length l.self.sets.items → member (get_or l.self.sets.items i d) 10 ≡ false
