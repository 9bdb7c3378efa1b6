-- The ids of a part, increased by the number of the names before them, in the list of the join.
use Rattle.std.proofs.Common.{◌≡◌, ◌≢◌, ℕ, ◌+◌, ◌≤◌, cond, List, [], ◌∷◌, ◌++◌, length, refl, sym, ap, subst, ◌∙◌, ◌⊎◌, inl, inr, None, arith}
use Rattle.cs_merge.proofs.Common.{eq-eqb, Written, last_ids, with_last_ids, next_after, AscendWithin, ids_onward, without_number, with_last_id, IsBelow, IsRunOf, IsWrittenBelow}
use Rattle.cs_merge.proofs.WrittenBelowLemmas.{appended, has_begun, rises_on, run_fits, run_written, some_trigram, some_written, written_more}

without_first : (id : ℕ) (ids : List ℕ) → without_number id (id ∷ ids) ≡ ids
without_first id ids = ap (λ b. cond b ids (id ∷ ids)) (eq-eqb id id refl)

onward_append : (first : ℕ) (some more : List ℕ) →
    ids_onward first (some ++ more) ≡ ids_onward first some ++ ids_onward first more
onward_append first [] more = refl
onward_append first (id ∷ some) more = ap (λ ids. (first + id) ∷ ids) (onward_append first some more)

onward_onward : (first from : ℕ) (ids : List ℕ) → ids_onward first (ids_onward from ids) ≡ ids_onward (first + from) ids
onward_onward first from [] = refl
onward_onward first from (id ∷ ids) =
    let one : first + (from + id) ≡ first + from + id = omega arith in
    (λ i. one i ∷ onward_onward first from ids i)

-- a run that follows an id in the list of a part follows it in the list of the join
pub moved_run : (first id : ℕ) (run ids rest : List ℕ) → ids ≡ ids_onward (id + 1) run ++ rest →
    IsRunOf (first + id) None run (ids_onward first (id ∷ ids)) (ids_onward first (id ∷ rest))
moved_run first id run ids rest e =
    let at : first + (id + 1) ≡ first + id + 1 = omega arith in
    record {
      ids_are =
          without_first (first + id) (ids_onward first ids)
          ∙ ap (ids_onward first) e
          ∙ onward_append first (ids_onward (id + 1) run) rest
          ∙ ap (λ ids. ids ++ ids_onward first rest) (onward_onward first (id + 1) run ∙ ap (λ n. ids_onward n run) at)
          ∙ sym (ap (λ ids. ids_onward (first + id + 1) run ++ ids) (without_first (first + id) (ids_onward first rest)));
      below = λ most none. cc;
    }

pub rest_of : (first id : ℕ) (rest : List ℕ) →
    without_number (first + id) (ids_onward first (id ∷ rest)) ≡ ids_onward first rest
rest_of first id rest = without_first (first + id) (ids_onward first rest)

-- ids are left, so the list was begun
pub begun_with_ids : (first : ℕ) (before now : Written) (ids : List ℕ) (id : ℕ) (left : List ℕ) →
    ((before.last_trigram ≢ None) ⊎ (ids ≡ [])) → IsWrittenBelow None before now (ids_onward first ids) (id ∷ left) →
    before.last_trigram ≢ None
begun_with_ids first before now ids id left (inl begun) written = begun
begun_with_ids first before now ids id left (inr none) written =
    absurd (some written.given (ap (ids_onward first) (sym none) ∙ written.ids_are))
  where
    some : (given : List ℕ) → [] ≡ given ++ id ∷ left → ⊥
    some [] e = cc
    some (one ∷ given) e = cc

-- ---- the next id of a part, and the run that follows it

module _ (first : ℕ) (before now : Written) (all ids : List ℕ) (id : ℕ) (rest : List ℕ)
    (begun : (before.last_trigram ≢ None) ⊎ (all ≡ []))
    (up : AscendWithin (length before.names) (next_after 0 (last_ids before)) (ids_onward first all))
    (written : IsWrittenBelow None before now (ids_onward first all) (ids_onward first ids)) (is : ids ≡ id ∷ rest) where
  here : IsWrittenBelow None before now (ids_onward first all) (ids_onward first (id ∷ rest))
  here = subst (λ (l : List ℕ). IsWrittenBelow None before now (ids_onward first all) (ids_onward first l)) is written

  start : before.last_trigram ≢ None
  start = begun_with_ids first before now all (first + id) (ids_onward first rest) begun here

  pub now_begun : now.last_trigram ≢ None
  now_begun = has_begun None before now (ids_onward first all) (ids_onward first (id ∷ rest)) start here

  pub up_now : AscendWithin (length now.names) (next_after 0 (last_ids now)) (ids_onward first (id ∷ rest))
  up_now = rises_on None before now (ids_onward first all) (ids_onward first (id ∷ rest)) start here up

  pub names_stay : now.names ≡ before.names
  names_stay =
      let g = some_trigram before.last_trigram start in
      ap (λ (w : Written). w.names) written.now_is ∙ (appended g.0 before written.given g.1).names

  none_above : IsBelow None (first + id)
  none_above most e = cc

  module _ (one : Written) (e : one ≡ with_last_id now (first + id)) (run left : List ℕ)
      (runs : rest ≡ ids_onward (id + 1) run ++ left) where
    pub some_now : last_ids one ≢ []
    some_now = some_written None now one (ids_onward first (id ∷ rest)) (first + id) refl none_above now_begun e up_now

    pub fits_now : next_after 0 (last_ids one) + next_after 0 run ≤ length one.names
    fits_now = run_fits None now one (ids_onward first (id ∷ rest)) (first + id) refl none_above now_begun e up_now run
        (ids_onward first (id ∷ left)) (moved_run first id run rest left runs)

    pub written_on : (after : Written) → after ≡ with_last_ids one (ids_onward (next_after 0 (last_ids one)) run) →
        IsWrittenBelow None before after (ids_onward first all) (ids_onward first left)
    written_on after given =
        written_more None before now after (ids_onward first all) (ids_onward first (id ∷ rest)) (ids_onward first left) here
        (subst (IsWrittenBelow None now after (ids_onward first (id ∷ rest))) (rest_of first id left)
        (run_written None now one (ids_onward first (id ∷ rest)) (first + id) refl none_above now_begun e up_now run
        (ids_onward first (id ∷ left)) (moved_run first id run rest left runs) after given))

-- ---- which ids are in the list

-- ids that are less than a number end before it

-- ids of the part, increased, ascend from the next id of the list on
