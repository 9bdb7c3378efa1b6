use Rattle.std.proofs.Common.{sym, subst, length}
use Rattle.cs_index.specs.Form.{IsForm}
use Rattle.cs_index.proofs.candidates.FormValues.{form_none}
use Rattle.cs_index.proofs.reading.form.form_of.Goals as goal

pub number_of-requires-clause-form : goal.number_of-requires-clause-form
number_of-requires-clause-form c = subst (IsForm (length c.args.trigrams.now)) (sym c.new.ensures.items)
    (form_none (length c.args.trigrams.now))
