use Rattle.std.proofs.Common.{◌≡◌, ◌++◌, ◌∷◌, ℕ, List, [], arith, length, refl, sym, ap, append_assoc, ◌∙◌, inl}
use Rattle.std.proofs.lemmas.List.{append-nil}
use Rattle.std.specs.List.{cons_option}
use Rattle.cs_index.specs.MappedIds.{new_ids_of}
use Rattle.cs_index.specs.Postings.{ids_given}
use Rattle.cs_index.proofs.postings.IteratorSteps.{yields_no_id, yields_none, yields_ok}
use Rattle.cs_index.proofs.postings.MappedSteps.{cons_more}
use Rattle.cs_index.proofs.reading.postings.Postings.map_into.Goals as goal

pub returns-in_default-answer-clause-whole : goal.returns-in_default-answer-clause-whole
returns-in_default-answer-clause-whole c = inl (
  refl,
  sym c.ids.invariant.whole ∙ yields_no_id c.ids.rest c.next.new.self c.in-Some.answer c.in-Some.ensures.steps
      c.in_default-answer.not-Ok,
)

pub ids-preserved : goal.ids-preserved
ids-preserved c =
    let next = yields_ok c.ids.rest c.next.new.self c.in-Ok.id
    (c.in-Some.ensures.steps ∙ ap (λ x. x ∷ ids_given c.next.new.self) c.in-Ok.is) in
    let new_ids = c.args.new_ids.now in
    record {
      all =
          c.in_ok-map_short.ensures.ids
          ∙ ap (λ (items : List ℕ). items ++ new_ids_of new_ids c.next.new.self.ids) c.in_ok-push_new.ensures
          ∙ append_assoc c.ids.out.items (cons_option c.new_id.result []) (new_ids_of new_ids c.next.new.self.ids)
          ∙ ap (λ (items : List ℕ). c.ids.out.items ++ items) (cons_more c.new_id.result (new_ids_of new_ids c.next.new.self.ids))
          ∙ ap (λ o. c.ids.out.items ++ cons_option o (new_ids_of new_ids c.next.new.self.ids)) c.new_id.ensures
          ∙ ap (λ ids. c.ids.out.items ++ new_ids_of new_ids ids) (sym next.0)
          ∙ c.ids.invariant.all;
      whole = c.in_ok-map_short.ensures.whole ∙ sym next.1 ∙ c.ids.invariant.whole;
    }

pub ids-smaller : goal.ids-smaller
ids-smaller c =
    let next = yields_ok c.ids.rest c.next.new.self c.in-Ok.id
    (c.in-Some.ensures.steps ∙ ap (λ x. x ∷ ids_given c.next.new.self) c.in-Ok.is) in
    let long = ap (λ (ids : List ℕ). length ids) next.0 in
    let fewer = c.in_ok-map_short.ensures.fewer in
    omega (arith, long, fewer)

pub returns-clause-ok : goal.returns-clause-ok
returns-clause-ok c =
    sym (append-nil c.ids.out.items)
    ∙ ap (λ ids. c.ids.out.items ++ new_ids_of c.args.new_ids.now ids)
    (sym (yields_none c.ids.rest c.in_default.ensures.steps.0).0)
    ∙ c.ids.invariant.all
