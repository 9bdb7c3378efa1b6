use Rattle.std.proofs.Common.{◌≡◌, ◌++◌, map, drop}
use Rattle.cs_trigram.proofs.exact_set.prepended.Given as goal

abbrev pub invariant-loop-suffix : goal.invariant-loop-suffix
invariant-loop-suffix l =
    l.strings.items ++ map (λ v. l.prefix ++ v) (drop l.suffix-index l.suffixes) ≡ map (λ v. l.prefix ++ v) l.suffixes
