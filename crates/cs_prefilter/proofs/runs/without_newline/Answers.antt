use Rattle.std.proofs.Common.{◌&&◌, nat_eq, List, Bool, ◌∙◌, ap, rules}
use Rattle.std.specs.Prelude.{not}
use Rattle.cs_syntax.specs.Matching.{member}
use Rattle.cs_syntax.proofs.ByteSetLemmas.{set_of_at}
use Rattle.cs_prefilter.proofs.runs.without_newline.Goals as goal

pub returns : goal.returns
returns c = λ b low. ap (λ (s : List Bool). member s b) (c.of.ensures (λ x. member c.args.set.now x && not (nat_eq x 10)) (search rules)) ∙ set_of_at (λ x. member c.args.set.now x && not (nat_eq x 10)) b low
