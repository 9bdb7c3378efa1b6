use Rattle.std.proofs.Common.{◌≡◌, ℕ, ◌<◌, length, get_or}
use Rattle.cs_prefilter.specs.declared.word.Word.{Word}
use Rattle.cs_prefilter.specs.declared.comparing.Prefix.{Prefix}
use Rattle.cs_prefilter.specs.Prefixes.{IsPrefixOf}
use Rattle.cs_prefilter.proofs.comparing.WordList.of.Given as goal

abbrev pub invariant-loop-word : goal.invariant-loop-word
invariant-loop-word l = record {
  same : length l.prefixes.items ≡ l.word-index;
  each : (i : ℕ) (d : Word) (e : Prefix) → i < l.word-index → IsPrefixOf (get_or l.word-items i d) (get_or l.prefixes.items i e);
}
