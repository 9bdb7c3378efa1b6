use Rattle.std.proofs.Common.{◌≡◌, ◌++◌, map, reverse, drop}
use Rattle.cs_trigram.proofs.end_strings.add_pairs.Given as goal

abbrev pub invariant-loop-prefix : goal.invariant-loop-prefix
invariant-loop-prefix l =
    l.strings.items ++ map (λ prefix. reverse l.suffix.string ++ prefix.string) (drop l.prefix-index l.prefixes)
    ≡ l.fn.strings.items ++ map (λ prefix. reverse l.suffix.string ++ prefix.string) l.prefixes
