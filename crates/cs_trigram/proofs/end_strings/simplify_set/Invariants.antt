use Rattle.cs_trigram.specs.EndStrings.{AreCoarser}
use Rattle.cs_trigram.proofs.end_strings.simplify_set.Given as goal

abbrev pub invariant-cut : goal.invariant-cut
invariant-cut l = AreCoarser l.short.items l.initial.short.items

abbrev pub decreases-cut : goal.decreases-cut
decreases-cut l = l.longest
