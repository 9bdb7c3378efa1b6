use Rattle.std.proofs.Common.{List, Bool, ◌∙◌, ap, rules}
use Rattle.std.specs.Prelude.{not}
use Rattle.cs_syntax.specs.Matching.{member, is_word}
use Rattle.cs_syntax.proofs.ByteSetLemmas.{set_of_at}
use Rattle.cs_prefilter.proofs.runs.other_bytes.Goals as goal

pub returns : goal.returns
returns c = λ b low. ap (λ (s : List Bool). member s b) (c.of.ensures (λ x. not (is_word x)) (search rules)) ∙ set_of_at (λ x. not (is_word x)) b low
