use Rattle.std.proofs.Common.{subst, arith}
use Rattle.cs_trigram.specs.ExactSet.{IsExactSetOf}
use Rattle.cs_trigram.specs.declared.exact_set.ExactSet.{ExactSet}
use Rattle.cs_trigram.proofs.ExactSetLemmas.{exact_set_has, a_string_of_many, tells_empty}
use Rattle.cs_trigram.proofs.exact_set.ExactSet.is_empty.Goals as goal

pub returns-in_default : goal.returns-in_default
returns-in_default c = λ t exact finite. a_string_of_many t (exact_set_has c.args.self.now t exact finite c.in_default.not-Strings)

pub returns : goal.returns
returns c = λ t exact finite.
    tells_empty c.in-Strings.strings.items t c.len.result (subst (λ (x : ExactSet). IsExactSetOf x t) c.in-Strings.is exact).1 (omega arith)
