-- The trigram set of each id after a list is written.
use Rattle.std.proofs.Common.{◌≡◌, ℕ, ◌<◌, cond, ◌||◌, List, [], ◌∷◌, ◌++◌, refl, sym, ap, ◌∙◌, Some, arith}
use Rattle.cs_merge.proofs.Common.{eq-eqb, ne_eqb, append-nil, AllByRecursion, has, PostingList, ids_of, with_id, set_at, NewIds, new_id, new_ids_of, AreIdMaps, AreMappedLists, list_of}
use Rattle.cs_merge.proofs.ReadIdsLemmas.{set_push}
use Rattle.cs_merge.proofs.IdMapLemmas.{has_mapped, has_no_mapped}
use Rattle.std.proofs.Math.Bool.{or-false}

-- ---- one more list

pub set_of_more : (id trigram : ℕ) (lists : List PostingList) (ids : List ℕ) → set_at id (lists ++ list_of trigram ids)
    ≡ set_at id lists ++ cond (has ids id) (trigram ∷ []) []
set_of_more id trigram lists [] = ap (set_at id) (append-nil lists) ∙ sym (append-nil (set_at id lists))
set_of_more id trigram lists (other ∷ ids) = set_push id lists trigram (other ∷ ids)

pub with_one_more : (trigram id : ℕ) (lists : List PostingList) (ids : List ℕ) →
    AllByRecursion (λ (p : PostingList). p.0 < trigram) lists → with_id (lists ++ list_of trigram ids) trigram id
    ≡ lists ++ list_of trigram (ids ++ id ∷ [])
with_one_more trigram id [] [] all = refl
with_one_more trigram id [] (other ∷ ids) all =
    ap (λ b. cond b ((trigram, (other ∷ ids) ++ id ∷ []) ∷ []) ((trigram, other ∷ ids) ∷ (trigram, id ∷ []) ∷ []))
    (eq-eqb trigram trigram refl)
with_one_more trigram id (p ∷ lists) ids all =
    let below : p.0 < trigram = all.0 in
    ap (λ b. cond b ((p.0, p.1 ++ id ∷ []) ∷ (lists ++ list_of trigram ids))
    (p ∷ with_id (lists ++ list_of trigram ids) trigram id))
    (ne_eqb p.0 trigram (λ e. absurd (omega (arith, e, below))))
    ∙ ap (λ (rest : List PostingList). p ∷ rest) (with_one_more trigram id lists ids all.1)

pub ids_of_more : (trigram : ℕ) (lists : List PostingList) (ids : List ℕ) →
    AllByRecursion (λ (p : PostingList). p.0 < trigram) lists → ids_of (lists ++ list_of trigram ids) trigram ≡ ids
ids_of_more trigram [] [] all = refl
ids_of_more trigram [] (id ∷ ids) all = ap (λ b. cond b (id ∷ ids) []) (eq-eqb trigram trigram refl)
ids_of_more trigram (p ∷ lists) ids all =
    let below : p.0 < trigram = all.0 in
    ap (λ b. cond b p.1 (ids_of (lists ++ list_of trigram ids) trigram)) (ne_eqb p.0 trigram (λ e. absurd (omega (arith, e, below))))
    ∙ ids_of_more trigram lists ids all.1

pub all_below_more : (trigram next : ℕ) (lists : List PostingList) (ids : List ℕ) →
    AllByRecursion (λ (p : PostingList). p.0 < trigram) lists → trigram < next →
    AllByRecursion (λ (p : PostingList). p.0 < next) (lists ++ list_of trigram ids)
all_below_more trigram next [] [] all h = tt
all_below_more trigram next [] (id ∷ ids) all h = (h, tt)
all_below_more trigram next (p ∷ lists) ids all h =
    (let below : p.0 < trigram = all.0 in omega (arith, below, h), all_below_more trigram next lists ids all.1 h)

-- ---- one more trigram

module _ (count trigram : ℕ) (older newer : NewIds) (are : AreIdMaps count older newer) (given : List PostingList)
    (some others ids : List ℕ) (both : (n : ℕ) → has ids n
    ≡ (has (new_ids_of older some) n || has (new_ids_of newer others) n)) where
  pub older_has : (id new : ℕ) → new_id older id ≡ Some new → has ids new ≡ has some id
  older_has id new h =
      both new
      ∙ (λ i. has_mapped older some id new are.once.older_once h i || has_no_mapped newer others new
      (λ other e. are.once.apart id other new h e) i)
      ∙ or-false (has some id)

  pub newer_has : (id new : ℕ) → new_id newer id ≡ Some new → has ids new ≡ has others id
  newer_has id new h =
      both new
      ∙ (λ i. has_no_mapped older some new (λ other e. are.once.apart other id new e h) i || has_mapped newer others id
      new are.once.newer_once h i)

  -- the sets after a list of the trigram, if the set of the old id has it too
  pub older_lists_mapped : (before after : List PostingList) →
      ((id : ℕ) → set_at id after ≡ set_at id before ++ cond (has some id) (trigram ∷ []) []) →
      AreMappedLists older before given → AreMappedLists older after (given ++ list_of trigram ids)
  older_lists_mapped before after grows mapped_postings id new h =
      set_of_more new trigram given ids
      ∙ (λ i. mapped_postings id new h i ++ cond (older_has id new h i) (trigram ∷ []) [])
      ∙ sym (grows id)

  pub newer_lists_mapped : (before after : List PostingList) →
      ((id : ℕ) → set_at id after ≡ set_at id before ++ cond (has others id) (trigram ∷ []) []) →
      AreMappedLists newer before given → AreMappedLists newer after (given ++ list_of trigram ids)
  newer_lists_mapped before after grows mapped_postings id new h =
      set_of_more new trigram given ids
      ∙ (λ i. mapped_postings id new h i ++ cond (newer_has id new h i) (trigram ∷ []) [])
      ∙ sym (grows id)
