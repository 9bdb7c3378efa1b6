use Rattle.std.proofs.Common.{◌∷◌, sym, ap, ◌∙◌}
use Rattle.cs_merge.proofs.Common.{ids_given}
use Rattle.cs_index.proofs.postings.IteratorSteps.{yields_ok, yields_none}
use Rattle.cs_merge.proofs.ReadIdsLemmas.{yielded_no_id}
use Rattle.cs_merge.proofs.replacing.is_whole_list.Goals as goal

pub returns-in_default-answer : goal.returns-in_default-answer
returns-in_default-answer c =
    sym (sym c.ids.invariant ∙ yielded_no_id c.ids.rest c.next.new.self c.in-Some-next.answer
    c.in-Some-next.ensures.steps c.in_default-answer.not-Ok)

pub ids-preserved : goal.ids-preserved
ids-preserved c =
    let next = yields_ok c.ids.rest c.next.new.self c.in-Ok.id
    (c.in-Some-next.ensures.steps ∙ ap (λ x. x ∷ ids_given c.next.new.self) c.in-Ok.is) in
    c.encoded_run-skipped.ensures.whole ∙ sym next.1 ∙ c.ids.invariant

pub returns : goal.returns
returns c = sym (sym c.ids.invariant ∙ (yields_none c.ids.rest c.in_default-next.ensures.steps.0).1)
