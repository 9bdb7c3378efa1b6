use Rattle.std.proofs.Common.{◌<◌, ◌∷◌, [], Bool, length, map, drop, sym, ap, subst, arith}
use Rattle.std.specs.Prelude.{if◌then◌else◌}
use Rattle.cs_trigram.specs.EndStrings.{truncated, end_of_two, with_end_strings}
use Rattle.cs_trigram.proofs.TruncationLemmas.{with_not_fewer}
use Rattle.cs_trigram.proofs.end_strings.add_concatenations.Goals as goal

pub returns-then-len-gt-MAX_SET-clause-many : goal.returns-then-len-gt-MAX_SET-clause-many
returns-then-len-gt-MAX_SET-clause-many c = λ many.
    let n = c.args.longest in
    let near = c.args.near.now in
    let fars = c.args.fars.now in
    let more = with_not_fewer c.loop-far.end_strings.items (map (end_of_two n near) (drop c.loop-far.far-index fars)) in
    subst (λ (b : Bool). 20 < length (with_end_strings c.args.end_strings.now.items
    (if b then map (end_of_two n near) fars else truncated n near ∷ [])))
    (sym c.if-not-near.false) (omega (arith, many, more, ap length c.loop-far.invariant))
