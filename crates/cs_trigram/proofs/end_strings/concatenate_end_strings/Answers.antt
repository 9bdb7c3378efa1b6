use Rattle.std.proofs.Common.{arith, sym, subst}
use Rattle.cs_trigram.specs.EndStrings.{AreConcatenations}
use Rattle.cs_trigram.proofs.NodeListLemmas.{if_ok, some_of}
use Rattle.cs_trigram.proofs.TruncationLemmas.{all_concatenations, some_near, any_concatenations}
use Rattle.cs_trigram.proofs.end_strings.concatenate_end_strings.Goals as goal

pub returns-in-Some-clause-all : goal.returns-in-Some-clause-all
returns-in-Some-clause-all c =
    let nears = c.args.nears.now in
    let fars = c.args.fars.now in
    let found = some_of c.in_ok-end_strings.field-0 c.in-Some.end_strings _ _ c.in_ok-end_strings.ensures c.in-Some.is in
    subst (AreConcatenations nears fars) (sym found) (all_concatenations c.cut.longest fars c.cut.invariant.0 nears)

pub returns-clause-all : goal.returns-clause-all
returns-clause-all c =
    let nears = c.args.nears.now in
    let fars = c.args.fars.now in
    if_ok c.bare_end_string.result _ _ c.bare_end_string.ensures
    (λ end_strings is.
    let near = some_near 1 nears fars (omega (arith, c.cut.invariant.1 1 (omega arith) (omega arith))) in
    subst (AreConcatenations nears fars) (sym is) (any_concatenations nears fars near.0 near.1))
