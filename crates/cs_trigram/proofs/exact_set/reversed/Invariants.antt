use Rattle.std.proofs.Common.{◌≡◌, ◌++◌, map, drop, reverse}
use Rattle.cs_trigram.proofs.exact_set.reversed.Given as goal

abbrev pub invariant-loop-string : goal.invariant-loop-string
invariant-loop-string l = l.backward.items ++ map reverse (drop l.string-index l.strings) ≡ map reverse l.strings
