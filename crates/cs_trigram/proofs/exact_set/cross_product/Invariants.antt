use Rattle.std.proofs.Common.{◌≡◌, [], drop}
use Rattle.cs_trigram.specs.Analysis.{with_strings, concatenations}
use Rattle.cs_trigram.proofs.exact_set.cross_product.Given as goal

abbrev pub invariant-loop-prefix : goal.invariant-loop-prefix
invariant-loop-prefix l = with_strings l.strings.items (concatenations (drop l.prefix-index l.prefixes) l.suffixes)
    ≡ with_strings [] (concatenations l.prefixes l.suffixes)
