use Rattle.std.proofs.Common.{◌∙◌, sym}
use Rattle.cs_index.proofs.candidates.FormValues.{everything_matches, nothing_matches}
use Rattle.cs_index.proofs.reading.form.constant.Goals as goal

pub returns-then-all-clause-number : goal.returns-then-all-clause-number
returns-then-all-clause-number c = λ bits nodes. everything_matches bits nodes ∙ sym c.if-all.true

pub returns-else-all-clause-number : goal.returns-else-all-clause-number
returns-else-all-clause-number c = λ bits nodes. nothing_matches bits nodes ∙ sym c.if-all.false
