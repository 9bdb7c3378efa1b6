use Rattle.std.proofs.Common.{rules, ◌≡◌, ◌∙◌, ℕ, List, Some, ap, option_map, subst, take}
use Rattle.cs_index.specs.Stored.{DecodesOrFails}
use Rattle.cs_state.specs.StateForm.{HasForm}
use Rattle.cs_state.specs.Sums.{seal_of}
use Rattle.cs_state.specs.declared.state_key.StateKey.{StateKey}
use Rattle.cs_state.proofs.StoreLemmas.{at_some}
use Rattle.cs_state.proofs.state_file.StateFile.open.Goals as goal

pub returns-in-Ok-Ok-clause-index : goal.returns-in-Ok-Ok-clause-index
returns-in-Ok-Ok-clause-index g c = λ bytes m.
    let index_len = c.in-Some.index_len in
    let index : List ℕ = take index_len bytes in
    let form : HasForm c.in-Some.seal bytes index_len = search rules in
    let kept : g.S.Store.model c.new-bytes.result.store ≡ Some bytes =
    ap g.S.Store.model c.new-bytes.ensures.store ∙ c.read_form.ensures.store.0 ∙ m in
    let model : option_map (take c.new-bytes.result.len) (g.S.Store.model c.new-bytes.result.store) ≡ Some index =
    (λ i. option_map (take (c.new-bytes.ensures.len i)) (kept i)) in
    let decoded = subst (DecodesOrFails index) c.in-Ok-Ok.field-0-is (at_some _ _ index model c.in-Ok-Ok.ensures.decodes) in
    record {
      seal = c.in-Some.seal;
      index_len = index_len;
      form = form;
      model_is = c.open.ensures.store.0 ∙ model;
      parts = decoded.0;
      stands = decoded.1;
    }

pub returns-in-Ok-Ok-clause-sealed : goal.returns-in-Ok-Ok-clause-sealed
returns-in-Ok-Ok-clause-sealed g c = λ bytes m.
    let form : HasForm c.in-Some.seal bytes c.in-Some.index_len = search rules in
    let key : c.in-Some.seal.key ≡ c.args.key = search rules in (
      c.in-Some.seal.moment,
      c.in-Some.index_len,
      subst (λ (k : StateKey). HasForm (seal_of k c.in-Some.seal.moment) bytes c.in-Some.index_len) key form,
    )
