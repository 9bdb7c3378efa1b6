use Rattle.std.proofs.Common.{◌≡◌, drop}
use Rattle.cs_syntax.specs.NodeList.{trees_of}
use Rattle.cs_match.specs.OneWord.{are_one_word}
use Rattle.cs_match.proofs.spans.word.+is_one_word.Given as goal

abbrev pub invariant-are_one_word-loop-part : goal.invariant-are_one_word-loop-part
invariant-are_one_word-loop-part l = are_one_word (trees_of (drop l.part-index l.parts)) ≡ are_one_word (trees_of l.parts)
