use Rattle.std.proofs.Common.{◌≡◌, None, ◌∷◌, refl, sym, ap, ◌∙◌}
use Rattle.cs_merge.proofs.Common.{cons_option, ids_given, new_id, new_ids_of}
use Rattle.cs_merge.proofs.IdMergeLemmas.{no_more}
use Rattle.cs_merge.proofs.IdRunLemmas.{mapped_none}
use Rattle.cs_merge.proofs.ReadIdsLemmas.{yielded_no_id}
use Rattle.cs_merge.proofs.mapped_postings.next_kept.Goals as goal
use Rattle.cs_index.proofs.postings.IteratorSteps.{yields_ok, yields_none}

pub returns-in_default-answer-clause-fault : goal.returns-in_default-answer-clause-fault
returns-in_default-answer-clause-fault c = (
  refl,
  sym c.ids.invariant.whole ∙ yielded_no_id c.ids.ids c.next.new.self c.in-Some.answer c.in-Some.ensures.steps
      c.in_default-answer.not-Ok,
)

pub returns-in-Some-new_id-clause-ids : goal.returns-in-Some-new_id-clause-ids
returns-in-Some-new_id-clause-ids c =
    let next = yields_ok c.ids.ids c.next.new.self c.in-Ok.id
    (c.in-Some.ensures.steps ∙ ap (λ x. x ∷ ids_given c.next.new.self) c.in-Ok.is) in
    ap (λ new. cons_option new (new_ids_of c.args.runs.now c.next.new.self.ids)) (sym c.in-Some-new_id.is ∙ c.new_id.ensures)
    ∙ ap (new_ids_of c.args.runs.now) (sym next.0)
    ∙ c.ids.invariant.left

pub returns-in-Some-new_id-clause-whole : goal.returns-in-Some-new_id-clause-whole
returns-in-Some-new_id-clause-whole c =
    let next = yields_ok c.ids.ids c.next.new.self c.in-Ok.id
    (c.in-Some.ensures.steps ∙ ap (λ x. x ∷ ids_given c.next.new.self) c.in-Ok.is) in
    sym next.1 ∙ c.ids.invariant.whole

pub ids-preserved : goal.ids-preserved
ids-preserved c =
    let next = yields_ok c.ids.ids c.next.new.self c.in-Ok.id
    (c.in-Some.ensures.steps ∙ ap (λ x. x ∷ ids_given c.next.new.self) c.in-Ok.is) in
    let none : new_id c.args.runs.now c.in-Ok.id ≡ None = sym c.new_id.ensures ∙ no_more c.new_id.result c.in_default-new_id.not-Some in
    record {
      left =
          sym (mapped_none c.args.runs.now c.in-Ok.id c.end.result c.encoded_run-dropped.result
          c.encoded_run-dropped.new.self.ids none c.end.ensures c.encoded_run-dropped.ensures.below)
          ∙ ap (new_ids_of c.args.runs.now) (sym c.encoded_run-dropped.ensures.ids)
          ∙ ap (λ o. cons_option o (new_ids_of c.args.runs.now c.next.new.self.ids)) (sym none)
          ∙ ap (new_ids_of c.args.runs.now) (sym next.0)
          ∙ c.ids.invariant.left;
      whole = c.encoded_run-dropped.ensures.whole ∙ sym next.1 ∙ c.ids.invariant.whole;
    }

pub returns-clause-ids : goal.returns-clause-ids
returns-clause-ids c =
    ap (new_ids_of c.args.runs.now) ((yields_none c.next.new.self c.in_default.ensures.steps.1).0
    ∙ sym (yields_none c.ids.ids c.in_default.ensures.steps.0).0)
    ∙ c.ids.invariant.left

pub returns-clause-end : goal.returns-clause-end
returns-clause-end c = λ e. yields_none c.next.new.self c.in_default.ensures.steps.1
