use Rattle.std.proofs.Common.{◌≡◌, ◌++◌, map, drop}
use Rattle.cs_trigram.specs.Analysis.{with_strings}
use Rattle.cs_trigram.proofs.exact_set.add_concatenations.Given as goal

abbrev pub invariant-loop-suffix : goal.invariant-loop-suffix
invariant-loop-suffix l =
    with_strings l.strings.items (map (λ v. l.prefix ++ v) (drop l.suffix-index l.suffixes))
    ≡ with_strings l.fn.strings.items (map (λ v. l.prefix ++ v) l.suffixes)
