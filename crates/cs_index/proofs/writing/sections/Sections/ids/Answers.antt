use Rattle.std.proofs.Common.{◌≡◌, ◌<◌, ◌-◌, ℕ, List, length, drop, take, eqb, sym, ap, subst, ◌∙◌, arith}
use Rattle.std.proofs.lemmas.Bool.{eqb-false}
use Rattle.std.proofs.lemmas.List.{take_rest}
use Rattle.cs_index.specs.AscendingIds.{AscendWithin, next_after}
use Rattle.cs_index.specs.Written.{last_ids, with_last_ids}
use Rattle.cs_index.proofs.writer.LastIds.{first_appended, first_fits}
use Rattle.cs_index.proofs.writing.sections.Sections.ids.Goals as goal

pub id-requires-clause-named : goal.id-requires-clause-named
id-requires-clause-named c =
    let ids : List ℕ = c.args.ids.now in
    let none = eqb-false (length ids) 0 (sym c.is_empty.ensures ∙ c.if-is_empty.false) in
    (first_fits _ _ ids (omega (arith, none)) c.requires.rise).1

pub id-requires-clause-above : goal.id-requires-clause-above
id-requires-clause-above c =
    let ids : List ℕ = c.args.ids.now in
    let none = eqb-false (length ids) 0 (sym c.is_empty.ensures ∙ c.if-is_empty.false) in
    (first_fits _ _ ids (omega (arith, none)) c.requires.rise).0

pub more_ids-requires-clause-some : goal.more_ids-requires-clause-some
more_ids-requires-clause-some c =
    let ids : List ℕ = c.args.ids.now in
    let none = eqb-false (length ids) 0 (sym c.is_empty.ensures ∙ c.if-is_empty.false) in
    (first_appended c.args.self.now c.id.new.self ids (omega (arith, none)) c.requires.begun c.requires.rise
    c.in_ok-id.ensures.ok).some

pub more_ids-requires-clause-rise : goal.more_ids-requires-clause-rise
more_ids-requires-clause-rise c =
    let ids : List ℕ = c.args.ids.now in
    let now = c.id.new.self in
    let none = eqb-false (length ids) 0 (sym c.is_empty.ensures ∙ c.if-is_empty.false) in
    subst (AscendWithin (length now.names) (next_after 0 (last_ids now))) (sym (take_rest ids 1))
    (first_appended c.args.self.now now ids (omega (arith, none)) c.requires.begun c.requires.rise c.in_ok-id.ensures.ok).rise

pub returns : goal.returns
returns c =
    let ids : List ℕ = c.args.ids.now in
    let now = c.id.new.self in
    let none = eqb-false (length ids) 0 (sym c.is_empty.ensures ∙ c.if-is_empty.false) in
    c.in_ok-more_ids.ensures
    ∙ ap (with_last_ids now) (take_rest ids 1)
    ∙ (first_appended c.args.self.now now ids (omega (arith, none)) c.requires.begun c.requires.rise c.in_ok-id.ensures.ok).is
