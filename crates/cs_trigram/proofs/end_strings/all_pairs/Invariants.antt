use Rattle.std.proofs.Common.{◌≡◌, ◌++◌, drop}
use Rattle.cs_trigram.specs.SequenceQuery.{pairs}
use Rattle.cs_trigram.proofs.end_strings.all_pairs.Given as goal

abbrev pub invariant-loop-suffix : goal.invariant-loop-suffix
invariant-loop-suffix l = l.strings.items ++ pairs (drop l.suffix-index l.suffixes) l.prefixes ≡ pairs l.suffixes l.prefixes
