use Rattle.std.proofs.Common.{◌≢◌, ◌∙◌, ◌<◌, Result, Ok, Err, ap, sym, subst, eqb, inl, inr, length, List, ℕ}
use Rattle.std.proofs.lemmas.Bool.{cases_Bool, eqb-true, eq-eqb, true≢false}
use Rattle.std.proofs.lemmas.Result.{err_from_is_err_and}
use Rattle.cs_index.specs.Sending.{bytes_in}
use Rattle.cs_index.proofs.writer.SectionsSteps.{Closed, closed_none, closed_some, short}
use Rattle.cs_index.proofs.writing.sections.Sections.complete.Goals as goal
use Rattle.cs_index.proofs.writing.sections.Sections.complete.Goals.{After-deref}

closed : (c : After-deref) → Closed c.self.inside c.args.self c.close_lists.new.out c.deref.result.now
closed c =
    elim (cases_Bool (eqb c.self.inside.count 0)) [
      | inl is ↦ let zero = eqb-true c.self.inside.count 0 is in
          let all = c.in_ok-close_lists.ensures.none zero in
          closed_none c.self.inside c.args.self c.close_lists.new.out c.deref.result.now c.self.view_is c.self.invariant
          zero all.0 (c.deref.ensures.value ∙ all.1)
      | inr is ↦ let some : c.self.inside.count ≢ 0 = λ zero. true≢false (sym (eq-eqb c.self.inside.count 0 zero) ∙ is) in
          let all = c.in_ok-close_lists.ensures.some some in
          closed_some c.self.inside c.args.self c.close_lists.new.out c.deref.result.now c.self.view_is c.self.invariant
          some all.0 (c.deref.ensures.value ∙ all.1)
    ]

pub append_tables-requires-clause-lists : goal.append_tables-requires-clause-lists
append_tables-requires-clause-lists c = (closed c).end.lists

pub append_tables-requires-clause-entries : goal.append_tables-requires-clause-entries
append_tables-requires-clause-entries c = (closed c).end.entries_are

abbrev fault_of : {T E : Type 0} → E → Result T E → E
fault_of other (Ok value) = other
fault_of other (Err fault) = fault

pub returns-in_err-append_tables-clause-too_large : goal.returns-in_err-append_tables-clause-too_large
returns-in_err-append_tables-clause-too_large c = λ is.
    let p = err_from_is_err_and c.from_residual-in_err-append_tables.result c.from_residual-in_err-append_tables.ensures.1 in
    subst (λ (bs : List ℕ). c.args.limit < length bs)
    (closed (goal.at.returns-in_err-append_tables-clause-too_large c).After-deref).end.encoding
    (c.in_err-append_tables.ensures.too_large (ap Err (sym p.2 ∙ ap (fault_of p.0) (sym p.1 ∙ is))))

pub returns-clause-ok : goal.returns-clause-ok
returns-clause-ok c = c.in_ok-append_tables.ensures.ok ∙ (closed (goal.at.returns-clause-ok c).After-deref).end.encoding

pub returns-clause-sent : goal.returns-clause-sent
returns-clause-sent c = c.in_ok-append_tables.ensures.sent ∙ (closed (goal.at.returns-clause-sent c).After-deref).sent

pub returns-clause-indexable : goal.returns-clause-indexable
returns-clause-indexable c =
    short c.self.inside c.args.self (bytes_in c.append_tables.new.out) c.args.limit c.self.view_is c.self.invariant
    c.ranges.limit.fits
    (c.in_ok-append_tables.ensures.ok ∙ (closed (goal.at.returns-clause-indexable c).After-deref).end.encoding)
    c.in_ok-append_tables.ensures.within
