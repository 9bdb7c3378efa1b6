use Rattle.std.proofs.Common.{◌≡◌, ◌-◌, true}
use Rattle.std.specs.Prelude.{Some}
use Rattle.cs_syntax.specs.Matching.{Tree, rep}
use Rattle.cs_trigram.specs.ExactStrings.{is_finite}
use Rattle.cs_trigram.specs.ExactSet.{IsExactSetOf}
use Rattle.cs_trigram.proofs.exact_set.strings_of_repeat.Given as goal

abbrev pub invariant-loop-iteration : goal.invariant-loop-iteration
invariant-loop-iteration l = (t : Tree) → IsExactSetOf l.once t → is_finite t ≡ true →
    IsExactSetOf l.strings (rep t (l.iteration - (l.most - l.least)) (Some l.iteration))
