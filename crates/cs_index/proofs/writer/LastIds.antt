-- Ids that are appended to the list that was begun last.
use Rattle.std.proofs.Common.{◌≡◌, ◌≢◌, ℕ, ◌+◌, ◌<◌, ◌≤◌, cond, eqb, List, [], ◌∷◌, ◌++◌, arith, drop, get_or, length, refl, sym, ap, subst, ◌∙◌, inl, inr, Option, Some, None}
use Rattle.std.proofs.lemmas.Bool.{cases_Bool, eq-eqb}
use Rattle.std.specs.Option.{option_map_or}
use Rattle.cs_index.specs.AscendingIds.{AscendWithin, next_after}
use Rattle.cs_index.specs.Encoding.{PostingList}
use Rattle.cs_index.specs.Written.{Written, ids_of, last_ids, with_id, with_last_id, with_last_ids, with_written_id}
use Rattle.cs_index.proofs.postings.StreamPush.{next_append}

ids_of_last : (g id : ℕ) (lists : List PostingList) → ids_of (with_id lists g id) g ≡ ids_of lists g ++ id ∷ []
ids_of_last g id [] = ap (λ b. cond b (id ∷ []) []) (eq-eqb g g refl)
ids_of_last g id (p ∷ lists) =
    elim (cases_Bool (eqb p.0 g)) [
      | inl is ↦
          ap (λ b. ids_of (cond b ((p.0, p.1 ++ id ∷ []) ∷ lists) (p ∷ with_id lists g id)) g) is
          ∙ ap (λ b. cond b (p.1 ++ id ∷ []) (ids_of lists g)) is
          ∙ sym (ap (λ b. cond b p.1 (ids_of lists g) ++ id ∷ []) is)
      | inr apart ↦
          ap (λ b. ids_of (cond b ((p.0, p.1 ++ id ∷ []) ∷ lists) (p ∷ with_id lists g id)) g) apart
          ∙ ap (λ b. cond b p.1 (ids_of (with_id lists g id) g)) apart
          ∙ ids_of_last g id lists
          ∙ sym (ap (λ b. cond b p.1 (ids_of lists g) ++ id ∷ []) apart)
    ]

pub one_more : (now : Written) (g id : ℕ) → now.last_trigram ≡ Some g → with_last_id now id ≡ with_written_id now g id
one_more now g id begun = ap (λ o. option_map_or (λ t. with_written_id now t id) o now) begun

pub last_push : (now : Written) (g id : ℕ) → now.last_trigram ≡ Some g →
    last_ids (with_last_id now id) ≡ last_ids now ++ id ∷ []
last_push now g id begun =
    ap last_ids (one_more now g id begun)
    ∙ ap (λ o. option_map_or (ids_of (with_id now.lists g id)) o []) begun
    ∙ ids_of_last g id now.lists
    ∙ sym (ap (λ o. option_map_or (ids_of now.lists) o [] ++ id ∷ []) begun)

pub some_trigram : (o : Option ℕ) → o ≢ None → (g : ℕ) × (o ≡ Some g)
some_trigram None h = absurd (h refl)
some_trigram (Some g) h = (g, refl)

pushed : (ids : List ℕ) (id : ℕ) → ids ++ id ∷ [] ≡ [] → ⊥
pushed [] id e = cc
pushed (one ∷ ids) id e = cc

pub first_fits : (count next : ℕ) (ids : List ℕ) → 0 < length ids → AscendWithin count next ids →
    (next ≤ get_or ids 0 0) × (get_or ids 0 0 < count)
first_fits count next [] some up = absurd (omega (arith, some))
first_fits count next (id ∷ ids) some up = (up.0, up.1)

-- The first of the ids is appended, and the others are left.
pub record IsFirstAppended (before now : Written) (ids : List ℕ) : Type 0 where
  pub is : with_last_ids now (drop 1 ids) ≡ with_last_ids before ids
  pub some : last_ids now ≢ []
  pub rise : AscendWithin (length now.names) (next_after 0 (last_ids now)) (drop 1 ids)

pub first_appended : (before now : Written) (ids : List ℕ) → 0 < length ids → before.last_trigram ≢ None →
    AscendWithin (length before.names) (next_after 0 (last_ids before)) ids → now ≡ with_last_id before (get_or ids 0 0) →
    IsFirstAppended before now ids
first_appended before now [] some begun up is = absurd (omega (arith, some))
first_appended before now (id ∷ ids) some begun up is =
    let trigram = some_trigram before.last_trigram begun in
    let one : now ≡ with_written_id before trigram.0 id = is ∙ one_more before trigram.0 id trigram.1 in
    let last : last_ids now ≡ last_ids before ++ id ∷ [] = ap last_ids is ∙ last_push before trigram.0 id trigram.1 in
    record {
      is = ap (λ (w : Written). with_last_ids w ids) is;
      some = λ none. pushed (last_ids before) id (sym last ∙ none);
      rise = subst (λ n. AscendWithin (length now.names) n ids)
          (sym (ap (next_after 0) last ∙ next_append 0 (last_ids before) (id ∷ [])))
          (subst (λ (names : List (List ℕ)). AscendWithin (length names) (id + 1) ids)
          (sym (ap (λ (w : Written). w.names) one)) up.2);
    }
