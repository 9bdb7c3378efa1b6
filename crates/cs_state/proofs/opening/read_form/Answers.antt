use Rattle.std.proofs.Common.{◌≡◌, ◌∙◌, arith}
use Rattle.cs_state.proofs.OpeningLemmas.{form_found}
use Rattle.cs_state.proofs.opening.read_form.Goals as goal

pub returns-clause-form : goal.returns-clause-form
returns-clause-form g c =
    form_found c.len-len.result c.deref.result.now (omega (arith, c.if-len-lt-END_LEN.false)) (omega (arith, c.if-len.false))
    (g.S.Store.model c.args.store.now) c.in_ok-end.end.items c.form_in.result c.len-len.ensures.model c.deref.ensures.value
    c.in_ok-end.ensures.bytes c.form_in.ensures.end c.form_in.ensures.room
