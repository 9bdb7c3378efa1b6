-- The names that are written, step by step.
use Rattle.std.proofs.Common.{◌≡◌, ℕ, zero, suc, ◌≤◌, Bool, true, false, List, [], ◌∷◌, ◌++◌, length, refl, sym, ap, subst, ◌∙◌, Some, None, arith, slice_get}
use Rattle.cs_merge.proofs.Common.{same_Some, AllByRecursion, is_lt, bytes_cmp, is_storable, IsString, Written, with_written_name, SortedNames, sorted_names, AreSortedNames, NewIds, AreDropped, AreNamesSoFar, IsMergingNames}
use Rattle.cs_merge.proofs.NameMergeLemmas.{named_dropped, named_older, named_newer}
use Rattle.cs_merge.proofs.SortedNamesLemmas.{own_name}
use Rattle.cs_merge.proofs.StorableLemmas.{storable}

-- a position without an item is past the end
pub none_past : {X : Type 0} (xs : List X) (position : ℕ) → slice_get xs position ≡ None → length xs ≤ position
none_past [] position none = omega arith
none_past (x ∷ xs) zero none = cc
none_past (x ∷ xs) (suc position) none = let rest = none_past xs position none in omega (arith, rest)

pub all_at : {X : Type 0} (P : X → Type 0) (xs : List X) (position : ℕ) (x : X) → AllByRecursion P xs → slice_get xs position ≡ Some x → P x
all_at P [] position x all there = cc
all_at P (y ∷ xs) zero x all there = subst P (same_Some y x there) all.0
all_at P (y ∷ xs) (suc position) x all there = all_at P xs position x all.1 there

pub name_storable : (ordered : SortedNames) (rank : ℕ) (name : List ℕ) → AreSortedNames ordered →
    slice_get (sorted_names ordered) rank ≡ Some name → is_storable name ≡ true
name_storable ordered rank name is there =
    let at = own_name ordered is rank name there in
    storable name (all_at IsString ordered.names at.0 name is.are.each_name at.1)

module _ (older newer : SortedNames) (older_is : AreSortedNames older) (newer_is : AreSortedNames newer)
    (is_dropped : List ℕ → Bool) (all_dropped : AreDropped is_dropped newer.names) where
  dropped : (rank : ℕ) (name : List ℕ) → slice_get (sorted_names newer) rank ≡ Some name → is_dropped name ≡ true
  dropped rank name there = let at = own_name newer newer_is rank name there in all_dropped at.0 name at.1

  module _ (before : Written) (older_ids newer_ids : NewIds)
      (so_far : IsMergingNames is_dropped older newer before before older_ids newer_ids) (name : List ℕ) where
    pub naming_dropped : (more : NewIds) → slice_get (sorted_names older) (length older_ids) ≡ Some name →
        is_dropped name ≡ true → more ≡ older_ids ++ None ∷ [] → IsMergingNames is_dropped older newer before before
        more newer_ids
    naming_dropped more here drops e = record {
      named = subst (λ ids. AreNamesSoFar is_dropped (sorted_names older) (sorted_names newer) before.names ids
          newer_ids) (sym e) (named_dropped is_dropped (sorted_names older) (sorted_names newer) before.names older_ids
          newer_ids so_far.named name here drops);
      paths = refl;
      unlisted = so_far.unlisted;
      sent = refl;
    }

    named_now : (now : Written) (first second : NewIds) → now ≡ with_written_name before name →
        AreNamesSoFar is_dropped (sorted_names older) (sorted_names newer) (before.names ++ name ∷ []) first second →
        IsMergingNames is_dropped older newer before now first second
    named_now now first second e named = record {
      named = subst (λ (names : List (List ℕ)). AreNamesSoFar is_dropped (sorted_names older) (sorted_names newer) names
          first second) (sym (ap (λ (l : Written). l.names) e)) named;
      paths = ap (λ (l : Written). l.paths) e;
      unlisted = ap (λ (l : Written). l.lists) e ∙ so_far.unlisted;
      sent = ap (λ (l : Written). l.sent) e;
    }

    pub naming_older : (now : Written) (id : ℕ) (more : NewIds) → slice_get (sorted_names older) (length older_ids)
        ≡ Some name → is_dropped name ≡ false → ((next : List ℕ) → slice_get (sorted_names newer) (length newer_ids)
        ≡ Some next → is_lt (bytes_cmp name next) ≡ true) → now ≡ with_written_name before name →
        id ≡ length before.names → more ≡ older_ids ++ Some id ∷ [] → IsMergingNames is_dropped older newer before now
        more newer_ids
    naming_older now id more here stays below e at is =
        named_now now more newer_ids e
        (subst (λ ids. AreNamesSoFar is_dropped (sorted_names older) (sorted_names newer) (before.names ++ name ∷ [])
        ids newer_ids) (sym (is ∙ ap (λ n. older_ids ++ Some n ∷ []) at))
        (named_older is_dropped (sorted_names older) (sorted_names newer) before.names older_ids newer_ids so_far.named
        name older_is.ascend newer_is.ascend here stays below))

    pub naming_newer : (now : Written) (id : ℕ) (more : NewIds) → slice_get (sorted_names newer) (length newer_ids)
        ≡ Some name → ((next : List ℕ) → slice_get (sorted_names older) (length older_ids) ≡ Some next →
        is_lt (bytes_cmp next name) ≡ false) → now ≡ with_written_name before name → id ≡ length before.names →
        more ≡ newer_ids ++ Some id ∷ [] → IsMergingNames is_dropped older newer before now older_ids more
    naming_newer now id more here above e at is =
        named_now now older_ids more e
        (subst (λ ids. AreNamesSoFar is_dropped (sorted_names older) (sorted_names newer) (before.names ++ name ∷ [])
        older_ids ids) (sym (is ∙ ap (λ n. newer_ids ++ Some n ∷ []) at))
        (named_newer is_dropped (sorted_names older) (sorted_names newer) before.names older_ids newer_ids so_far.named
        name older_is.ascend newer_is.ascend here (dropped (length newer_ids) name here) above))
