use Rattle.std.proofs.Common.{◌-◌, ◌^◌, ◌∙◌, ap, min, subst}
use Rattle.std.proofs.lemmas.Bool.{ltb-true}
use Rattle.cs_index.specs.Built.{Built, IsAlwaysLonger}
use Rattle.cs_index.specs.LeastLength.{least_length}
use Rattle.cs_index.proofs.writer.LeastLength.{always_longer, same_test}
use Rattle.cs_index.proofs.writing.builder.Builder.is_too_large_within.Goals as goal

pub returns-clause-value : goal.returns-clause-value
returns-clause-value c =
    same_test c.args.limit (least_length c.args.self.now.entries) c.self.inside.least c.ranges.limit.fits
    (c.self.invariant.counted ∙ ap (λ (built : Built). min (least_length built.entries) (2 ^ 64 - 1)) c.self.view_is)

pub returns-clause-certain : goal.returns-clause-certain
returns-clause-certain c = λ yes.
    subst (IsAlwaysLonger c.args.limit) c.self.view_is
    (always_longer _ c.args.limit c.self.inside.least c.self.invariant.built.sets c.self.invariant.counted
    (ltb-true c.args.limit c.self.inside.least yes))
