use Rattle.std.proofs.Common.{◌++◌, map, drop, sym, ◌∙◌, arith}
use Rattle.cs_trigram.proofs.EnumerationLemmas.{with_strings_full}
use Rattle.cs_trigram.proofs.exact_set.add_concatenations.Goals as goal

pub returns-then-len-gt-MAX_EXACT : goal.returns-then-len-gt-MAX_EXACT
returns-then-len-gt-MAX_EXACT c =
    sym (with_strings_full c.loop-suffix.strings.items
    (map (λ v. c.args.prefix.now ++ v) (drop c.loop-suffix.suffix-index c.args.suffixes.now)) (omega arith))
    ∙ c.loop-suffix.invariant
