use Rattle.std.proofs.Common.{◌≡◌, map, drop}
use Rattle.cs_trigram.specs.EndStrings.{with_end_strings, end_of_two}
use Rattle.cs_trigram.proofs.end_strings.add_concatenations.Given as goal

abbrev pub invariant-loop-far : goal.invariant-loop-far
invariant-loop-far l =
    with_end_strings l.end_strings.items (map (end_of_two l.longest l.near) (drop l.far-index l.fars))
    ≡ with_end_strings l.fn.end_strings.items (map (end_of_two l.longest l.near) l.fars)
