use Rattle.cs_trigram.proofs.ExactSetLemmas.{exact_set_not_few}
use Rattle.cs_trigram.proofs.exact_set.ExactSet.few_strings.Goals as goal

pub returns-in_default : goal.returns-in_default
returns-in_default c = λ t exact. exact_set_not_few c.args.self.now t exact (λ strings e. absurd (c.in_default.not-Strings strings e))
