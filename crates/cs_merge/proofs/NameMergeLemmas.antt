-- The merge of the names.
use Rattle.std.proofs.Common.{◌≡◌, ℕ, ◌+◌, ◌-◌, ◌<◌, ◌≤◌, Bool, true, false, List, [], ◌∷◌, ◌++◌, length, get_or, refl, sym, ap, subst, ◌∙◌, ◌⊎◌, inl, inr, Some, None, arith, slice_get, length-append}
use Rattle.cs_merge.proofs.Common.{true≢false, cases_Bool, cases_lt, slice_get_within, slice_get-get_or, same_Some, option_map_or, is_lt, are_distinct, bytes_cmp, are_ascending, is_above, ascends_push, NewIds, AreDisjoint, AreMergedNames, AreIdMaps, IsOfEither, new, kept, AreNamesSoFar, before_trans}
use Rattle.cs_merge.proofs.FileOrderLemmas.{turned}
use Rattle.cs_merge.proofs.SortedNamesLemmas.{distinct_once}
use Rattle.cs_merge.proofs.IdMapLemmas.{get_pushed, get_push, are_mapped_more, mapped_push, kept_at, ascends_at, injective, stay_below}

length-push : {X : Type 0} (xs : List X) (x : X) → length (xs ++ x ∷ []) ≡ length xs + 1
length-push xs x = length-append xs (x ∷ [])

pub above_push : (names : List (List ℕ)) (name next : List ℕ) → is_above (names ++ name ∷ []) next ≡ is_lt (bytes_cmp name next)
above_push names name next =
    let last : length (names ++ name ∷ []) - 1 ≡ length names = let l = length-push names name in omega (arith, l) in
    ap (λ o. option_map_or (λ text. is_lt (bytes_cmp text next)) o true) (ap (slice_get (names ++ name ∷ [])) last ∙ get_pushed names name)

-- A position from `from` on that has a name is `from` itself, or `from` has a name too.
first_left : (names : List (List ℕ)) (from position : ℕ) (name : List ℕ) → from ≤ position → slice_get names position
    ≡ Some name → (from ≡ position) ⊎ ((from < position) × (slice_get names from ≡ Some (get_or names from [])))
first_left names from position name h there =
    let within : position < length names = slice_get_within names position name there in
    elim (cases_lt from position) [
      | inl before ↦ inr (before, slice_get-get_or names from [] (omega (arith, before, within)))
      | inr at ↦ inl (omega (arith, at, h))
    ]

module _ (is_dropped : List ℕ → Bool) (older newer : List (List ℕ)) where
  pub named_none : AreNamesSoFar is_dropped older newer [] [] []
  named_none = record {
    older_within = omega arith;
    newer_within = omega arith;
    bound = omega arith;
    of_both = record {
      ascend = refl;
      older_mapped = λ id name found there is. cc;
      newer_mapped = λ id name found there is. cc;
      each_from = λ position name there. cc;
    };
    older_left = λ position name h there stays. refl;
    newer_left = λ position name h there. refl;
  }

  module _ (names : List (List ℕ)) (older_ids newer_ids : NewIds)
      (so_far : AreNamesSoFar is_dropped older newer names older_ids newer_ids) where
    pub named_dropped : (name : List ℕ) → slice_get older (length older_ids) ≡ Some name → is_dropped name ≡ true →
        AreNamesSoFar is_dropped older newer names (older_ids ++ None ∷ []) newer_ids
    named_dropped name here drops =
        let l : length (older_ids ++ None ∷ []) ≡ length older_ids + 1 = length-push older_ids None in
        let within = slice_get_within older (length older_ids) name here in
        let bound = so_far.bound in
        record {
          older_within = omega (arith, l, within);
          newer_within = so_far.newer_within;
          bound = omega (arith, l, bound);
          of_both = record {
            ascend = so_far.of_both.ascend;
            older_mapped = mapped_push is_dropped older names older_ids name None here so_far.of_both.older_mapped drops;
            newer_mapped = so_far.of_both.newer_mapped;
            each_from = so_far.of_both.each_from;
          };
          older_left = λ position other h there stays. so_far.older_left position other (omega (arith, h, l)) there stays;
          newer_left = so_far.newer_left;
        }

    each_push : (name : List ℕ) → IsOfEither is_dropped older newer name → (position : ℕ) (other : List ℕ) →
        slice_get (names ++ name ∷ []) position ≡ Some other → IsOfEither is_dropped older newer other
    each_push name of position other there =
        elim (get_push names name other position there) [
          | inl before ↦ so_far.of_both.each_from position other before
          | inr last ↦ subst
              (IsOfEither is_dropped older newer) last.1 of
        ]

    -- an old name that is kept, and is below the remaining newer names
    pub named_older : (name : List ℕ) → are_ascending older ≡ true → are_ascending newer ≡ true →
        slice_get older (length older_ids) ≡ Some name → is_dropped name ≡ false →
        ((next : List ℕ) → slice_get newer (length newer_ids) ≡ Some next → is_lt (bytes_cmp name next) ≡ true) →
        AreNamesSoFar is_dropped older newer (names ++ name ∷ []) (older_ids ++ Some (length names) ∷ []) newer_ids
    named_older name up newer_up here stays below =
        let l : length (older_ids ++ Some (length names) ∷ []) ≡ length older_ids + 1 = length-push older_ids (Some (length names)) in
        let m : length (names ++ name ∷ []) ≡ length names + 1 = length-push names name in
        let within = slice_get_within older (length older_ids) name here in
        let bound = so_far.bound in
        record {
          older_within = omega (arith, l, within);
          newer_within = so_far.newer_within;
          bound = omega (arith, l, m, bound);
          of_both = record {
            ascend = ascends_push names name so_far.of_both.ascend (so_far.older_left (length older_ids) name (omega arith) here stays);
            older_mapped = mapped_push is_dropped older (names ++ name ∷ []) older_ids name (Some (length names)) here
                (are_mapped_more is_dropped older names (name ∷ []) older_ids so_far.of_both.older_mapped)
                (stays, get_pushed names name);
            newer_mapped = are_mapped_more (λ other. false) newer names (name ∷ []) newer_ids so_far.of_both.newer_mapped;
            each_from = each_push name (kept (length older_ids) here stays);
          };
          older_left = λ position other h there other_stays. above_push names name other
              ∙ ascends_at older (length older_ids) position name other up (omega (arith, h, l)) here there;
          newer_left = λ position other h there. above_push names name other ∙ left position other h there;
        }
      where
        left : (position : ℕ) (other : List ℕ) → length newer_ids ≤ position → slice_get newer position ≡ Some other →
            is_lt (bytes_cmp name other) ≡ true
        left position other h there =
            elim (first_left newer (length newer_ids) position other h there) [
              | inl at ↦ below other (ap (slice_get newer) at ∙ there)
              | inr first ↦ before_trans name (get_or newer (length newer_ids) []) other
                  (below (get_or newer (length newer_ids) []) first.1)
                  (ascends_at newer (length newer_ids) position (get_or newer (length newer_ids) []) other newer_up
                  first.0 first.1 there)
            ]

    -- a newer name that is below the remaining old names
    pub named_newer : (name : List ℕ) → are_ascending older ≡ true → are_ascending newer ≡ true →
        slice_get newer (length newer_ids) ≡ Some name → is_dropped name ≡ true →
        ((next : List ℕ) → slice_get older (length older_ids) ≡ Some next → is_lt (bytes_cmp next name) ≡ false) →
        AreNamesSoFar is_dropped older newer (names ++ name ∷ []) older_ids (newer_ids ++ Some (length names) ∷ [])
    named_newer name up newer_up here drops above =
        let l : length (newer_ids ++ Some (length names) ∷ []) ≡ length newer_ids + 1 = length-push newer_ids (Some (length names)) in
        let m : length (names ++ name ∷ []) ≡ length names + 1 = length-push names name in
        let within = slice_get_within newer (length newer_ids) name here in
        let bound = so_far.bound in
        record {
          older_within = so_far.older_within;
          newer_within = omega (arith, l, within);
          bound = omega (arith, l, m, bound);
          of_both = record {
            ascend = ascends_push names name so_far.of_both.ascend (so_far.newer_left (length newer_ids) name (omega arith) here);
            older_mapped = are_mapped_more is_dropped older names (name ∷ []) older_ids so_far.of_both.older_mapped;
            newer_mapped = mapped_push (λ other. false) newer (names ++ name ∷ []) newer_ids name (Some (length names))
                here (are_mapped_more (λ other. false) newer names (name ∷ []) newer_ids so_far.of_both.newer_mapped)
                (refl, get_pushed names name);
            each_from = each_push name (new (length newer_ids) here);
          };
          older_left = λ position other h there stays. above_push names name other ∙ left position other h there stays;
          newer_left = λ position other h there. above_push names name other
              ∙ ascends_at newer (length newer_ids) position name other newer_up (omega (arith, h, l)) here there;
        }
      where
        not_below : (position : ℕ) (other : List ℕ) → length older_ids ≤ position → slice_get older position
            ≡ Some other → is_lt (bytes_cmp other name) ≡ true → ⊥
        not_below position other h there lower =
            elim (first_left older (length older_ids) position other h there) [
              | inl at ↦ true≢false (sym lower ∙ above other (ap (slice_get older) at ∙ there))
              | inr first ↦
                  let next : List ℕ = get_or older (length older_ids) [] in
                  true≢false (sym (before_trans next other name
                  (ascends_at older (length older_ids) position next other up first.0 first.1 there) lower)
                  ∙ above next first.1)
            ]

        left : (position : ℕ) (other : List ℕ) → length older_ids ≤ position → slice_get older position ≡ Some other →
            is_dropped other ≡ false → is_lt (bytes_cmp name other) ≡ true
        left position other h there stays =
            elim (cases_Bool (is_lt (bytes_cmp other name))) [
              | inl lower ↦ absurd (not_below position other h there lower)
              | inr from ↦ turned other name from (λ same. true≢false (sym drops ∙ ap is_dropped (sym same) ∙ stays))
            ]

-- ---- the id maps

pub id_maps : (is_dropped : List ℕ → Bool) (older newer names : List (List ℕ)) (older_ids newer_ids : NewIds) →
    AreMergedNames is_dropped older newer names older_ids newer_ids → are_distinct older ≡ true → are_distinct newer
    ≡ true → ((id : ℕ) (name : List ℕ) → slice_get newer id ≡ Some name → is_dropped name ≡ true) →
    AreIdMaps (length names) older_ids newer_ids
id_maps is_dropped older newer names older_ids newer_ids are distinct newer_distinct all_drop = record {
  once = record {
    older_once = injective is_dropped older names older_ids (distinct_once older distinct) older_within are.of_both.older_mapped;
    newer_once = injective (λ name. false) newer names newer_ids (distinct_once newer newer_distinct) newer_within are.of_both.newer_mapped;
    apart = never;
  };
  older_below = stay_below is_dropped older names older_ids older_within are.of_both.older_mapped;
  newer_below = stay_below (λ name. false) newer names newer_ids newer_within are.of_both.newer_mapped;
}
  where
    older_within : length older_ids ≤ length older
    older_within = let l = are.older_long in omega (arith, l)

    newer_within : length newer_ids ≤ length newer
    newer_within = let l = are.newer_long in omega (arith, l)

    never : AreDisjoint older_ids newer_ids
    never id other found h g =
        let one = kept_at is_dropped older names older_ids id found older_within are.of_both.older_mapped h in
        let two = kept_at (λ name. false) newer names newer_ids other found newer_within are.of_both.newer_mapped g in
        let same : two.name ≡ one.name = same_Some two.name one.name (sym two.there ∙ one.there) in
        true≢false (sym (all_drop other two.name two.own_is) ∙ ap is_dropped same ∙ one.stays)
