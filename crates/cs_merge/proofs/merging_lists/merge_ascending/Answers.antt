use Rattle.std.proofs.Common.{◌≡◌, ℕ, List, [], Option, None, Some, sym, ap, subst, ◌∙◌, slice_get, length, arith}
use Rattle.cs_merge.proofs.Common.{Ids, without_number, IsMergedList, IsWrittenBelow, none-some}
use Rattle.cs_merge.proofs.IdMergeLemmas.{given_more, is_named, is_next, no_more, still_begun}
use Rattle.cs_merge.proofs.WrittenBelowLemmas.{begin_end, begun_on, fewer_first, fewer_written, lowest_is, newer_up, newer_written, older_up, older_written}
use Rattle.cs_merge.proofs.merging_lists.merge_ascending.Goals as goal

pub write_below-requires-clause-rise : goal.write_below-requires-clause-rise
write_below-requires-clause-rise c = older_up c.args.trigram c.args.sections.now c.ids.sections c.args.lists.older.ids
    c.args.lists.newer.ids c.ids.older.ids c.ids.newer.ids c.ids.invariant.given c.requires.above c.ids.invariant.begun

pub id-requires-clause-begun : goal.id-requires-clause-begun
id-requires-clause-begun c =
    let begun = begun_on (Some c.in-Some.id) c.ids.sections c.write_below.new.sections c.ids.older.ids
    c.write_below.new.list.ids c.args.trigram c.ids.invariant.begun c.in_ok-write_below.ensures.ok in
    λ e. none-some c.args.trigram (sym (sym begun ∙ e))

pub id-requires-clause-named : goal.id-requires-clause-named
id-requires-clause-named c =
    let older = c.args.lists.older.ids in
    let newer = c.args.lists.newer.ids in
    let now = c.write_below.new.sections in
    let left = c.write_below.new.list.ids in
    let there : slice_get c.ids.newer.ids 0 ≡ Some c.in-Some.id = sym c.first-in-ids.ensures.first ∙ c.in-Some.is in
    let begun = begun_on (Some c.in-Some.id) c.ids.sections now c.ids.older.ids left c.args.trigram
    c.ids.invariant.begun c.in_ok-write_below.ensures.ok in
    let state = older_written c.args.trigram c.args.sections.now c.ids.sections older newer c.ids.older.ids
    c.ids.newer.ids c.ids.invariant.given c.requires.above c.ids.invariant.begun now left
    (subst (λ (o : Option ℕ). IsWrittenBelow o c.ids.sections now c.ids.older.ids left) (sym there)
    c.in_ok-write_below.ensures.ok) in
    is_named c.args.trigram c.args.sections.now now older newer left c.ids.newer.ids state c.requires.above begun
    c.in-Some.id (lowest_is left c.ids.newer.ids c.in-Some.id c.in_ok-write_below.ensures.left there)

pub id-requires-clause-above : goal.id-requires-clause-above
id-requires-clause-above c =
    let older = c.args.lists.older.ids in
    let newer = c.args.lists.newer.ids in
    let now = c.write_below.new.sections in
    let left = c.write_below.new.list.ids in
    let there : slice_get c.ids.newer.ids 0 ≡ Some c.in-Some.id = sym c.first-in-ids.ensures.first ∙ c.in-Some.is in
    let begun = begun_on (Some c.in-Some.id) c.ids.sections now c.ids.older.ids left c.args.trigram
    c.ids.invariant.begun c.in_ok-write_below.ensures.ok in
    let state = older_written c.args.trigram c.args.sections.now c.ids.sections older newer c.ids.older.ids
    c.ids.newer.ids c.ids.invariant.given c.requires.above c.ids.invariant.begun now left
    (subst (λ (o : Option ℕ). IsWrittenBelow o c.ids.sections now c.ids.older.ids left) (sym there)
    c.in_ok-write_below.ensures.ok) in
    is_next c.args.trigram c.args.sections.now now older newer left c.ids.newer.ids state c.requires.above begun
    c.in-Some.id (lowest_is left c.ids.newer.ids c.in-Some.id c.in_ok-write_below.ensures.left there)

pub write_below-requires-in-Some-clause-begun : goal.write_below-requires-in-Some-clause-begun
write_below-requires-in-Some-clause-begun c =
    let older = c.args.lists.older.ids in
    let newer = c.args.lists.newer.ids in
    let now = c.write_below.new.sections in
    let left = c.write_below.new.list.ids in
    let there : slice_get c.ids.newer.ids 0 ≡ Some c.in-Some.id = sym c.first-in-ids.ensures.first ∙ c.in-Some.is in
    let begun = begun_on (Some c.in-Some.id) c.ids.sections now c.ids.older.ids left c.args.trigram
    c.ids.invariant.begun c.in_ok-write_below.ensures.ok in
    let state = older_written c.args.trigram c.args.sections.now c.ids.sections older newer c.ids.older.ids
    c.ids.newer.ids c.ids.invariant.given c.requires.above c.ids.invariant.begun now left
    (subst (λ (o : Option ℕ). IsWrittenBelow o c.ids.sections now c.ids.older.ids left) (sym there)
    c.in_ok-write_below.ensures.ok) in
    let next = lowest_is left c.ids.newer.ids c.in-Some.id c.in_ok-write_below.ensures.left there in
    let on = still_begun c.args.trigram c.args.sections.now now older newer left c.ids.newer.ids state c.requires.above
    begun c.in-Some.id next c.id.new.self c.in_ok-id.ensures.ok in
    λ e. none-some c.args.trigram (sym (sym on ∙ e))

pub write_below-requires-in-Some-clause-rise : goal.write_below-requires-in-Some-clause-rise
write_below-requires-in-Some-clause-rise c =
    let older = c.args.lists.older.ids in
    let newer = c.args.lists.newer.ids in
    let before = c.args.sections.now in
    let now = c.write_below.new.sections in
    let left = c.write_below.new.list.ids in
    let there : slice_get c.ids.newer.ids 0 ≡ Some c.in-Some.id = sym c.first-in-ids.ensures.first ∙ c.in-Some.is in
    let begun = begun_on (Some c.in-Some.id) c.ids.sections now c.ids.older.ids left c.args.trigram
    c.ids.invariant.begun c.in_ok-write_below.ensures.ok in
    let state = older_written c.args.trigram before c.ids.sections older newer c.ids.older.ids
    c.ids.newer.ids c.ids.invariant.given c.requires.above c.ids.invariant.begun now left
    (subst (λ (o : Option ℕ). IsWrittenBelow o c.ids.sections now c.ids.older.ids left) (sym there)
    c.in_ok-write_below.ensures.ok) in
    let next = lowest_is left c.ids.newer.ids c.in-Some.id c.in_ok-write_below.ensures.left there in
    let on = still_begun c.args.trigram before now older newer left c.ids.newer.ids state c.requires.above
    begun c.in-Some.id next c.id.new.self c.in_ok-id.ensures.ok in
    let more = given_more c.args.trigram before now older newer left c.ids.newer.ids state c.requires.above begun
    c.in-Some.id next c.id.new.self c.in_ok-id.ensures.ok in
    let newer_left : c.advance-in-Some.new.self.ids ≡ without_number c.in-Some.id c.ids.newer.ids =
    ap (λ (r : Ids). r.ids) c.in_ok-advance-2.ensures.ok in
    newer_up c.args.trigram before c.id.new.self older newer (without_number c.in-Some.id left)
    c.advance-in-Some.new.self.ids
    (subst (λ (ids : List ℕ). IsMergedList c.args.trigram before c.id.new.self older newer
    (without_number c.in-Some.id left) ids) (sym newer_left) more) c.requires.above on

pub ids-preserved : goal.ids-preserved
ids-preserved c =
    let older = c.args.lists.older.ids in
    let newer = c.args.lists.newer.ids in
    let before = c.args.sections.now in
    let now = c.write_below.new.sections in
    let left = c.write_below.new.list.ids in
    let inv = c.ids.invariant in
    let there : slice_get c.ids.newer.ids 0 ≡ Some c.in-Some.id = sym c.first-in-ids.ensures.first ∙ c.in-Some.is in
    let begun = begun_on (Some c.in-Some.id) c.ids.sections now c.ids.older.ids left c.args.trigram inv.begun
    c.in_ok-write_below.ensures.ok in
    let state = older_written c.args.trigram before c.ids.sections older newer c.ids.older.ids
    c.ids.newer.ids inv.given c.requires.above inv.begun now left
    (subst (λ (o : Option ℕ). IsWrittenBelow o c.ids.sections now c.ids.older.ids left) (sym there)
    c.in_ok-write_below.ensures.ok) in
    let next = lowest_is left c.ids.newer.ids c.in-Some.id c.in_ok-write_below.ensures.left there in
    let on = still_begun c.args.trigram before now older newer left c.ids.newer.ids state c.requires.above
    begun c.in-Some.id next c.id.new.self c.in_ok-id.ensures.ok in
    let more = given_more c.args.trigram before now older newer left c.ids.newer.ids state c.requires.above begun
    c.in-Some.id next c.id.new.self c.in_ok-id.ensures.ok in
    let older_left : c.advance.new.self.ids ≡ without_number c.in-Some.id left =
    ap (λ (r : Ids). r.ids) c.in_ok-advance.ensures.ok in
    let newer_left : c.advance-in-Some.new.self.ids ≡ without_number c.in-Some.id c.ids.newer.ids =
    ap (λ (r : Ids). r.ids) c.in_ok-advance-2.ensures.ok in
    let after = c.write_below-in-Some.new.sections in
    let rest = c.write_below-in-Some.new.list.ids in
    record {
      given = newer_written c.args.trigram before c.id.new.self older newer c.advance.new.self.ids
          c.advance-in-Some.new.self.ids
          (subst (λ (ids : List ℕ). IsMergedList c.args.trigram before c.id.new.self older newer ids
          c.advance-in-Some.new.self.ids) (sym older_left)
          (subst (λ (ids : List ℕ). IsMergedList c.args.trigram before c.id.new.self older newer
          (without_number c.in-Some.id left) ids) (sym newer_left) more))
          c.requires.above on after rest
          (subst (λ (o : Option ℕ). IsWrittenBelow o c.id.new.self after c.advance-in-Some.new.self.ids rest)
          c.first-in-Some.ensures.first c.in_ok-write_below-2.ensures.ok);
      begun = begun_on c.first-in-Some.result c.id.new.self after c.advance-in-Some.new.self.ids rest c.args.trigram on
          c.in_ok-write_below-2.ensures.ok;
      older_whole = ap (λ (r : Ids). r.whole) c.in_ok-advance.ensures.ok ∙ c.in_ok-write_below.ensures.whole
          ∙ inv.older_whole;
      newer_whole = c.in_ok-write_below-2.ensures.whole ∙ ap (λ (r : Ids). r.whole) c.in_ok-advance-2.ensures.ok
          ∙ inv.newer_whole;
    }

pub ids-smaller : goal.ids-smaller
ids-smaller c =
    let there : slice_get c.ids.newer.ids 0 ≡ Some c.in-Some.id = sym c.first-in-ids.ensures.first ∙ c.in-Some.is in
    let fewer = fewer_first c.in-Some.id c.ids.newer.ids there in
    let long = ap (λ (r : Ids). length r.ids) c.in_ok-advance-2.ensures.ok in
    let rest = fewer_written c.first-in-Some.result c.id.new.self c.write_below-in-Some.new.sections
    c.advance-in-Some.new.self.ids c.write_below-in-Some.new.list.ids c.in_ok-write_below-2.ensures.ok in
    omega (arith, fewer, long, rest)

pub write_below-requires-2-clause-rise : goal.write_below-requires-2-clause-rise
write_below-requires-2-clause-rise c = older_up c.args.trigram c.args.sections.now c.ids.sections
    c.args.lists.older.ids c.args.lists.newer.ids c.ids.older.ids c.ids.newer.ids c.ids.invariant.given
    c.requires.above c.ids.invariant.begun

pub returns-clause-ok : goal.returns-clause-ok
returns-clause-ok c =
    let older = c.args.lists.older.ids in
    let newer = c.args.lists.newer.ids in
    let after = c.write_below-2.new.sections in
    let rest = c.write_below-2.new.list.ids in
    let none : slice_get c.ids.newer.ids 0 ≡ None = sym c.first-in-ids.ensures.first
    ∙ no_more c.first-in-ids.result c.in_default.not-Some in
    let ends : c.ids.newer.ids ≡ [] = begin_end None c.ids.newer.ids
    (λ id e. c.in_default.not-Some id (c.first-in-ids.ensures.first ∙ e)) in
    let state = older_written c.args.trigram c.args.sections.now c.ids.sections older newer c.ids.older.ids
    c.ids.newer.ids c.ids.invariant.given c.requires.above c.ids.invariant.begun after rest
    (subst (λ (o : Option ℕ). IsWrittenBelow o c.ids.sections after c.ids.older.ids rest) (sym none)
    c.in_ok-write_below-3.ensures.ok) in
    subst (λ (ids : List ℕ). IsMergedList c.args.trigram c.args.sections.now after older newer ids [])
    c.in_ok-write_below-3.ensures.left
    (subst (λ (ids : List ℕ). IsMergedList c.args.trigram c.args.sections.now after older newer rest ids) ends state)
