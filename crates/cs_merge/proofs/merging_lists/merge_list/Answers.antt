use Rattle.std.proofs.Common.{ℕ, List, [], inl, inr, refl, sym, subst, ◌∙◌, length}
use Rattle.cs_merge.proofs.Common.{AscendWithin, IsMergedList}
use Rattle.cs_merge.proofs.DistinctIdLemmas.{given_sorted, none_sorted, sorted_rise}
use Rattle.cs_merge.proofs.merging_lists.merge_list.Goals as goal

pub merge_ascending-requires-clause-older_rise : goal.merge_ascending-requires-clause-older_rise
merge_ascending-requires-clause-older_rise c = c.requires.older_rise (c.if-are_increasing.ensures.older refl)

pub merge_ascending-requires-clause-newer_rise : goal.merge_ascending-requires-clause-newer_rise
merge_ascending-requires-clause-newer_rise c = c.requires.newer_rise (c.if-are_increasing.ensures.newer refl)

pub write_both-requires-clause-older_rise : goal.write_both-requires-clause-older_rise
write_both-requires-clause-older_rise c =
    subst (AscendWithin (length c.args.sections.now.names) 0) (sym c.deref.ensures.value)
    (sorted_rise _ _ _ _ _ _ _ c.requires.ids c.new-older.ensures.items c.in_ok-append_to.ensures.ok
    c.in_ok-append_to-2.ensures.ok c.sort.ensures.permutation c.in_ok-sort.ensures.sorted)

pub write_both-requires-clause-below : goal.write_both-requires-clause-below
write_both-requires-clause-below c =
    elim c.requires.below [
      | inl below ↦ inl below
      | inr none ↦ inr (
        c.deref.ensures.value ∙ none_sorted _ _ _ _ _ _ _ c.requires.ids c.new-older.ensures.items
            c.in_ok-append_to.ensures.ok c.in_ok-append_to-2.ensures.ok c.sort.ensures.permutation none,
        refl,
      )
    ]

pub returns-then-not-are_increasing-clause-ok : goal.returns-then-not-are_increasing-clause-ok
returns-then-not-are_increasing-clause-ok c =
    given_sorted _ _ _ _ _ _ _ c.requires.ids c.new-older.ensures.items c.in_ok-append_to.ensures.ok
    c.in_ok-append_to-2.ensures.ok c.sort.ensures.permutation c.args.trigram c.args.sections.now c.write_both.new.sections
    (subst (λ (ids : List ℕ). IsMergedList c.args.trigram c.args.sections.now c.write_both.new.sections ids [] [] [])
    c.deref.ensures.value c.in_ok-write_both.ensures)
