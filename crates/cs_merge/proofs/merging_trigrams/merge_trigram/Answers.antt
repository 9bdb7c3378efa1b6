use Rattle.std.proofs.Common.{◌++◌, ℕ, length, sym, ap, subst, ◌∙◌, inl, inr, arith}
use Rattle.cs_merge.proofs.Common.{cases_lt, closing_trigram, AscendWithin, Parts, Ids, new_ids_of, list_ids, AreDistinctIds, old_ids}
use Rattle.cs_merge.proofs.DistinctIdLemmas.{new_ids_of_both}
use Rattle.cs_merge.proofs.IdMapLemmas.{rise_mapped}
use Rattle.cs_merge.proofs.OldListLemmas.{closing_in_old, old_rises}
use Rattle.cs_merge.proofs.NextListLemmas.{closing_has_none, ids_rise}
use Rattle.cs_merge.proofs.TrigramMergeLemmas.{mapped_rise}
use Rattle.cs_merge.proofs.merging_trigrams.merge_trigram.Goals as goal

pub merge_list-requires-clause-older_rise : goal.merge_list-requires-clause-older_rise
merge_list-requires-clause-older_rise c =
    let source = c.args.sides.now.older.now in
    let at = c.args.progress.now in
    let count : ℕ = length c.args.sections.now.names in
    λ order. subst (λ (r : Ids). AscendWithin count 0 r.ids) (sym c.in_ok-older.ensures)
    (rise_mapped c.args.sides.now.runs.older count (length source.names) 0 0
    (old_ids source at.reader at.older c.args.trigram).ids order c.requires.ids.older_below
    (old_rises source at.reader at.older c.args.trigram) (λ id new h e. omega arith))

pub merge_list-requires-clause-newer_rise : goal.merge_list-requires-clause-newer_rise
merge_list-requires-clause-newer_rise c =
    let count : ℕ = length c.args.sections.now.names in
    λ order. subst (λ (r : Ids). AscendWithin count 0 r.ids) (sym c.in_ok-newer.ensures)
    (mapped_rise c.args.sides.now.newer.now c.args.progress.now.newer c.args.trigram count c.args.sides.now.runs.newer
    order c.requires.ids.newer_below)

pub merge_list-requires-clause-ids : goal.merge_list-requires-clause-ids
merge_list-requires-clause-ids c =
    let source = c.args.sides.now.older.now in
    let newer : Parts = c.args.sides.now.newer.now in
    let at = c.args.progress.now in
    let count : ℕ = length c.args.sections.now.names in
    let are = c.requires.ids in
    let some : Ids = old_ids source at.reader at.older c.args.trigram in
    let others : Ids = list_ids newer at.newer c.args.trigram in
    let new_ids = new_ids_of_both count (length source.names) (length newer.names)
    c.args.sides.now.runs.older c.args.sides.now.runs.newer some.ids others.ids are.once.older_once
    are.once.newer_once are.once.apart are.older_below are.newer_below
    (old_rises source at.reader at.older c.args.trigram) (ids_rise newer at.newer c.args.trigram) in
    subst (λ (r : Ids). AreDistinctIds count (r.ids ++ c.in_ok-newer.newer.ids)) (sym c.in_ok-older.ensures)
    (subst (λ (r : Ids). AreDistinctIds count (new_ids_of c.args.sides.now.runs.older some.ids ++ r.ids))
    (sym c.in_ok-newer.ensures) new_ids)

pub merge_list-requires-clause-below : goal.merge_list-requires-clause-below
merge_list-requires-clause-below c =
    let at = c.args.progress.now in
    elim (cases_lt c.args.trigram closing_trigram) [
      | inl below ↦ inl below
      | inr from ↦ inr (
        ap (λ (r : Ids). r.ids) c.in_ok-older.ensures ∙ ap (new_ids_of c.args.sides.now.runs.older)
            (closing_in_old c.args.sides.now.older.now at.reader at.older c.args.trigram c.are_valid.ensures.known
            from),
        ap (λ (r : Ids). r.ids) c.in_ok-newer.ensures ∙ ap (new_ids_of c.args.sides.now.runs.newer)
            (closing_has_none c.args.sides.now.newer.now at.newer c.args.trigram c.are_valid-2.ensures from),
      )
    ]
