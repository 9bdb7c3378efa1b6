use Rattle.std.proofs.Common.{◌≡◌, ◌+◌, ◌∷◌, arith, cond, ℕ, List, [], Option, None, Some, drop, get_or, length, refl, sym, ap, subst, ◌∙◌, slice_get}
use Rattle.cs_merge.proofs.Common.{drop_all, drop_more, eq-eqb, none-some, without_number, IsMergedList, IsWrittenBelow}
use Rattle.cs_merge.proofs.IdMergeLemmas.{given_more, is_named, is_next, still_begun}
use Rattle.cs_merge.proofs.WrittenBelowLemmas.{begun_on, lowest_is, older_up, older_written}
use Rattle.cs_merge.proofs.merging_lists.write_both.Goals as goal

pub write_ids-requires-clause-rise : goal.write_ids-requires-clause-rise
write_ids-requires-clause-rise c = older_up c.args.trigram c.args.sections.now c.ids.sections c.args.older.now
    c.args.newer.now (drop c.ids.at c.args.older.now) (drop c.ids.id-index c.args.newer.now) c.ids.invariant.given
    c.requires.above c.ids.invariant.begun

pub id-requires-clause-begun : goal.id-requires-clause-begun
id-requires-clause-begun c =
    let begun = begun_on (Some (get_or c.args.newer.now c.ids.id-index 0)) c.ids.sections c.write_ids.new.sections
    (drop c.ids.at c.args.older.now) (drop c.in_ok-end.end c.args.older.now) c.args.trigram c.ids.invariant.begun
    c.in_ok-end.ensures.ok in
    λ e. none-some c.args.trigram (sym (sym begun ∙ e))

pub id-requires-clause-named : goal.id-requires-clause-named
id-requires-clause-named c =
    let older = c.args.older.now in
    let newer = c.args.newer.now in
    let left = drop c.in_ok-end.end older in
    let more = drop c.ids.id-index newer in
    let now = c.write_ids.new.sections in
    let id : ℕ = get_or newer c.ids.id-index 0 in
    let is : more ≡ id ∷ drop (c.ids.id-index + 1) newer = drop_more newer c.ids.id-index 0 c.ids-test.true in
    let there : slice_get more 0 ≡ Some id = ap (λ (l : List ℕ). slice_get l 0) is in
    let begun = begun_on (Some id) c.ids.sections now (drop c.ids.at older) left c.args.trigram c.ids.invariant.begun
    c.in_ok-end.ensures.ok in
    let state = older_written c.args.trigram c.args.sections.now c.ids.sections older newer (drop c.ids.at older) more
    c.ids.invariant.given c.requires.above c.ids.invariant.begun now left
    (subst (λ (o : Option ℕ). IsWrittenBelow o c.ids.sections now (drop c.ids.at older) left) (sym there)
    c.in_ok-end.ensures.ok) in
    let next = lowest_is left more id c.in_ok-end.ensures.left there in
    is_named c.args.trigram c.args.sections.now now older newer left more state c.requires.above begun id next

pub id-requires-clause-above : goal.id-requires-clause-above
id-requires-clause-above c =
    let older = c.args.older.now in
    let newer = c.args.newer.now in
    let left = drop c.in_ok-end.end older in
    let more = drop c.ids.id-index newer in
    let now = c.write_ids.new.sections in
    let id : ℕ = get_or newer c.ids.id-index 0 in
    let is : more ≡ id ∷ drop (c.ids.id-index + 1) newer = drop_more newer c.ids.id-index 0 c.ids-test.true in
    let there : slice_get more 0 ≡ Some id = ap (λ (l : List ℕ). slice_get l 0) is in
    let begun = begun_on (Some id) c.ids.sections now (drop c.ids.at older) left c.args.trigram c.ids.invariant.begun
    c.in_ok-end.ensures.ok in
    let state = older_written c.args.trigram c.args.sections.now c.ids.sections older newer (drop c.ids.at older) more
    c.ids.invariant.given c.requires.above c.ids.invariant.begun now left
    (subst (λ (o : Option ℕ). IsWrittenBelow o c.ids.sections now (drop c.ids.at older) left) (sym there)
    c.in_ok-end.ensures.ok) in
    let next = lowest_is left more id c.in_ok-end.ensures.left there in
    is_next c.args.trigram c.args.sections.now now older newer left more state c.requires.above begun id next

pub ids-preserved : goal.ids-preserved
ids-preserved c =
    let older = c.args.older.now in
    let newer = c.args.newer.now in
    let left = drop c.in_ok-end.end older in
    let more = drop c.ids.id-index newer in
    let now = c.write_ids.new.sections in
    let id : ℕ = get_or newer c.ids.id-index 0 in
    let is : more ≡ id ∷ drop (c.ids.id-index + 1) newer = drop_more newer c.ids.id-index 0 c.ids-test.true in
    let there : slice_get more 0 ≡ Some id = ap (λ (l : List ℕ). slice_get l 0) is in
    let begun = begun_on (Some id) c.ids.sections now (drop c.ids.at older) left c.args.trigram c.ids.invariant.begun
    c.in_ok-end.ensures.ok in
    let state = older_written c.args.trigram c.args.sections.now c.ids.sections older newer (drop c.ids.at older) more
    c.ids.invariant.given c.requires.above c.ids.invariant.begun now left
    (subst (λ (o : Option ℕ). IsWrittenBelow o c.ids.sections now (drop c.ids.at older) left) (sym there)
    c.in_ok-end.ensures.ok) in
    let next = lowest_is left more id c.in_ok-end.ensures.left there in
    let rest = drop (c.ids.id-index + 1) newer in
    record {
      within = c.after_number-at.ensures.within;
      given = subst (λ (l : List ℕ). IsMergedList c.args.trigram c.args.sections.now c.id.new.self older newer l rest)
          (sym c.after_number-at.ensures.after)
          (subst (λ (l : List ℕ). IsMergedList c.args.trigram c.args.sections.now c.id.new.self older newer (without_number id left) l)
          (ap (without_number id) is ∙ ap (λ b. cond b rest (id ∷ rest)) (eq-eqb id id refl))
          (given_more c.args.trigram c.args.sections.now now older newer left more state c.requires.above begun id next
          c.id.new.self c.in_ok-id.ensures.ok));
      begun = still_begun c.args.trigram c.args.sections.now now older newer left more state c.requires.above begun id next
          c.id.new.self c.in_ok-id.ensures.ok;
    }

pub write_ids-requires-2-clause-rise : goal.write_ids-requires-2-clause-rise
write_ids-requires-2-clause-rise c = older_up c.args.trigram c.args.sections.now c.ids.sections c.args.older.now
    c.args.newer.now (drop c.ids.at c.args.older.now) (drop c.ids.id-index c.args.newer.now) c.ids.invariant.given
    c.requires.above c.ids.invariant.begun

pub returns : goal.returns
returns c =
    let older = c.args.older.now in
    let newer = c.args.newer.now in
    let rest = drop c.in_ok-write_ids.field-0 older in
    let none : drop c.ids.id-index newer ≡ [] = drop_all c.ids.id-index newer (omega (arith, c.ids-test.false)) in
    let state = older_written c.args.trigram c.args.sections.now c.ids.sections older newer (drop c.ids.at older)
    (drop c.ids.id-index newer) c.ids.invariant.given c.requires.above c.ids.invariant.begun c.write_ids-2.new.sections rest
    (subst (λ (l : List ℕ). IsWrittenBelow (slice_get l 0) c.ids.sections c.write_ids-2.new.sections (drop c.ids.at older) rest)
    (sym none) c.in_ok-write_ids.ensures.ok) in
    subst (λ (l : List ℕ). IsMergedList c.args.trigram c.args.sections.now c.write_ids-2.new.sections older newer l [])
    c.in_ok-write_ids.ensures.left
    (subst (λ (l : List ℕ). IsMergedList c.args.trigram c.args.sections.now c.write_ids-2.new.sections older newer rest l) none state)
