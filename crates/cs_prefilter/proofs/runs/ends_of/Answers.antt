use Rattle.std.proofs.Common.{◌||◌, List, Bool, ◌∙◌, ap, rules}
use Rattle.std.specs.Prelude.{nat_le}
use Rattle.cs_syntax.specs.Characters.{has_char}
use Rattle.cs_syntax.specs.Matching.{member}
use Rattle.cs_syntax.proofs.ByteSetLemmas.{set_of_at}
use Rattle.cs_prefilter.proofs.runs.ends_of.Goals as goal

pub returns : goal.returns
returns c = λ b low. ap (λ (s : List Bool). member s b) (c.of.ensures (λ x. nat_le 128 x || has_char c.args.chars.now x) (search rules))
    ∙ set_of_at (λ x. nat_le 128 x || has_char c.args.chars.now x) b low
