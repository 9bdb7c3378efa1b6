-- Runs of ids.
use Rattle.std.proofs.Common.{◌≡◌, ℕ, ◌+◌, ◌-◌, ◌<◌, ◌≤◌, cond, min, List, [], ◌∷◌, ◌++◌, length, refl, sym, ap, subst, ◌∙◌, inl, inr, Option, Some, None, arith, slice_get, option_map}
use Rattle.cs_merge.proofs.Common.{cases_lt, eq-eqb, cons_option, AllByRecursion, Ids, ids_onward, NewIds, new_id, new_ids_of, AreRunEnds, IsRun, without_number, IsMappedPostings, IsRunOf, all_weaker, none-some}
use Rattle.cs_merge.proofs.IdMapLemmas.{get_push}

-- ---- distances within a run

further : (a b c : ℕ) (o : Option ℕ) → a + b ≡ c → option_map (λ new. new + b) (option_map (λ new. new + a) o)
    ≡ option_map (λ new. new + c) o
further a b c None e = refl
further a b c (Some n) e = let z : n + a + b ≡ n + c = omega (arith, e) in ap Some z

no_further : (a : ℕ) (o : Option ℕ) → a ≡ 0 → o ≡ option_map (λ new. new + a) o
no_further a None e = refl
no_further a (Some n) e = let z : n ≡ n + a = omega (arith, e) in ap Some z

module _ (new_ids : NewIds) where
  pub run_one : (id : ℕ) → IsRun new_ids id (id + 1)
  run_one id other from to =
      let same : other ≡ id = omega (arith, from, to) in
      ap (new_id new_ids) same ∙ no_further (other - id) (new_id new_ids id) (omega (arith, same))

  pub run_more : (id end : ℕ) → id < end → IsRun new_ids id end →
      new_id new_ids end ≡ option_map (λ new. new + 1) (new_id new_ids (end - 1)) → IsRun new_ids id (end + 1)
  run_more id end some together next other from to =
      elim (cases_lt other end) [
        | inl below ↦ together other from below
        | inr last ↦
            let same : other ≡ end = omega (arith, last, to) in
            ap (new_id new_ids) same
            ∙ next
            ∙ ap (option_map (λ new. new + 1)) (together (end - 1) (omega (arith, some)) (omega (arith, some)))
            ∙ further (end - 1 - id) 1 (other - id) (new_id new_ids id) (omega (arith, some, same))
      ]

  pub run_rest : (id end : ℕ) → IsRun new_ids id end → IsRun new_ids (id + 1) end
  run_rest id end together other from to =
      let next = together (id + 1) (omega arith) (omega (arith, from, to)) in
      together other (omega (arith, from)) to
      ∙ sym (further (id + 1 - id) (other - (id + 1)) (other - id) (new_id new_ids id) (omega (arith, from)))
      ∙ sym (ap (option_map (λ new. new + (other - (id + 1)))) next)

  pub ends_push : (ends : List ℕ) (id end : ℕ) → length ends ≡ id → AreRunEnds new_ids ends → IsRun new_ids id end →
      AreRunEnds new_ids (ends ++ end ∷ [])
  ends_push ends id end long are together position found there =
      elim (get_push ends end found position there) [
        | inl before ↦ are position found before
        | inr last ↦
            let here : id ≡ position = omega (arith, long, last.0) in
            subst (IsRun new_ids position) last.1 (subst (λ n. IsRun new_ids n end) here together)
      ]

  -- ---- the mapped ids of a run

  -- a run of ids that are kept
  pub mapped_run : (last end new : ℕ) (run rest : List ℕ) → new_id new_ids last ≡ Some new → IsRun new_ids last end →
      AllByRecursion (λ id. last + 1 + id < end) run →
      new_ids_of new_ids (ids_onward (last + 1) run ++ rest) ≡ ids_onward (new + 1) run ++ new_ids_of new_ids rest
  mapped_run last end new [] rest is together all = refl
  mapped_run last end new (id ∷ run) rest is together all =
      let below : last + 1 + id < end = all.0 in
      let at : new + (last + 1 + id - last) ≡ new + 1 + id = omega arith in
      ap (λ o. cons_option o (new_ids_of new_ids (ids_onward (last + 1) run ++ rest)))
      (together (last + 1 + id) (omega arith) below ∙ ap (option_map (λ n. n + (last + 1 + id - last))) is
      ∙ ap Some at)
      ∙ ap (λ ids. (new + 1 + id) ∷ ids) (mapped_run last end new run rest is together all.1)

  -- a run of dropped ids
  pub mapped_none : (last end : ℕ) (run rest : List ℕ) → new_id new_ids last ≡ None → IsRun new_ids last end →
      AllByRecursion (λ id. last + 1 + id < end) run →
      new_ids_of new_ids (ids_onward (last + 1) run ++ rest) ≡ new_ids_of new_ids rest
  mapped_none last end [] rest is together all = refl
  mapped_none last end (id ∷ run) rest is together all =
      let below : last + 1 + id < end = all.0 in
      ap (λ o. cons_option o (new_ids_of new_ids (ids_onward (last + 1) run ++ rest)))
      (together (last + 1 + id) (omega arith) below ∙ ap (option_map (λ n. n + (last + 1 + id - last))) is)
      ∙ mapped_none last end run rest is together all.1

-- ---- the run of the first id

module _ (new_ids : NewIds) (first : Option ℕ) (last id : ℕ) (rest : Ids)
    (is : IsMappedPostings new_ids first last rest)
    (there : slice_get (cons_option first (new_ids_of new_ids rest.ids)) 0 ≡ Some id) where
  pub has_first : first ≡ Some id
  has_first = by_first first refl
    where
      by_first : (o : Option ℕ) → first ≡ o → first ≡ Some id
      by_first None e = absurd (none-some id (sym (λ i. slice_get (cons_option (e i) (new_ids_of new_ids ((is.end e).0 i))) 0) ∙ there))
      by_first (Some n) e = e ∙ sym (ap (λ o. slice_get (cons_option o (new_ids_of new_ids rest.ids)) 0) e) ∙ there

  pub still_mapped : (left : Ids) → IsMappedPostings new_ids first last left
  still_mapped left = record { first_is = is.first_is; end = λ e. absurd (none-some id (sym e ∙ has_first)) }

  pub is_run : (limit : Option ℕ) (end most : ℕ) (run left : List ℕ) → rest.ids ≡ ids_onward (last + 1) run ++ left →
      IsRun new_ids last end →
      AllByRecursion (λ other. last + 1 + other < min end most) run → ((least : ℕ) → limit ≡ Some least → most ≤ last + (least - id)) →
      IsRunOf id limit run (cons_option first (new_ids_of new_ids rest.ids)) (cons_option first (new_ids_of new_ids left))
  is_run limit end most run left ids together all short =
      record {
        ids_are =
            ap (λ o. without_number id (cons_option o (new_ids_of new_ids rest.ids))) has_first
            ∙ ap (λ b. cond b (new_ids_of new_ids rest.ids) (id ∷ new_ids_of new_ids rest.ids)) (eq-eqb id id refl)
            ∙ ap (new_ids_of new_ids) ids
            ∙ mapped_run new_ids last end id run left (is.first_is id has_first) together
            (all_weaker (λ other. last + 1 + other < min end most) (λ other. last + 1 + other < end) (λ n h. omega (arith, h)) run all)
            ∙ ap (λ ids. ids_onward (id + 1) run ++ ids)
            (sym (ap (λ b. cond b (new_ids_of new_ids left) (id ∷ new_ids_of new_ids left)) (eq-eqb id id refl))
            ∙ sym (ap (λ o. without_number id (cons_option o (new_ids_of new_ids left))) has_first));
        below = λ least e. let h = short least e in all_weaker (λ other. last + 1 + other < min end most)
            (λ other. id + 1 + other < least) (λ n g. omega (arith, g, h)) run all;
      }
