use Rattle.std.proofs.Common.{◌≡◌, [], drop}
use Rattle.cs_trigram.specs.EndStrings.{with_end_strings, all_concatenated}
use Rattle.cs_trigram.proofs.end_strings.few_concatenations.Given as goal

abbrev pub invariant-loop-near : goal.invariant-loop-near
invariant-loop-near l =
    with_end_strings l.end_strings.items (all_concatenated l.longest (drop l.near-index l.nears) l.fars)
    ≡ with_end_strings [] (all_concatenated l.longest l.nears l.fars)
