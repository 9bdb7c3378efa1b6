-- The items that an iterator over a posting list yields.
use Rattle.std.proofs.Common.{◌≡◌, ℕ, ◌+◌, ◌-◌, ◌<◌, Bool, true, false, cond, ◌||◌, eqb, List, [], ◌∷◌, ◌++◌, length, get_or, set, Result, Ok, Err, refl, sym, ap, ◌∙◌, inl, inr, arith, append_assoc}
use Rattle.cs_index.specs.Postings.{ids_given}
use Rattle.cs_index.specs.PostingLists.{Ids}
use Rattle.std.proofs.lemmas.Bool.{cases_Bool, eqb-true, eqb-false}
use Rattle.std.proofs.lemmas.List.{get_or-set_other}
use Rattle.std.proofs.lemmas.Grind.{get_or-set_at}
use Rattle.std.specs.Prelude.{filter}
use Rattle.std.specs.List.{range_with_len}
use Rattle.cs_index.specs.declared.fault.IndexFault.{IndexFault}
use Rattle.cs_index.specs.declared.fault.IndexFault.TheVariants.{BadList}
use Rattle.cs_index.proofs.candidates.Intersection.{range_step}
use Rattle.std.proofs.Math.Bool.{or-true}

yields_once : (xs ys : List ℕ) (a b : Bool) → ids_given (record { ids = xs; whole = a })
    ≡ ids_given (record { ids = ys; whole = b }) → (xs ≡ ys) × (a ≡ b)
yields_once [] [] true true e = (refl, refl)
yields_once [] [] false false e = (refl, refl)
yields_once [] [] true false e = cc
yields_once [] [] false true e = cc
yields_once [] (y ∷ ys) true b e = cc
yields_once [] (y ∷ ys) false b e = absurd (let w : ◌≡◌ {A = Result ℕ IndexFault} (Err BadList) (Ok y) = cc in cc)
yields_once (x ∷ xs) [] a true e = cc
yields_once (x ∷ xs) [] a false e = absurd (let w : ◌≡◌ {A = Result ℕ IndexFault} (Ok x) (Err BadList) = cc in cc)
yields_once (x ∷ xs) (y ∷ ys) a b e =
    let head : ◌≡◌ {A = Result ℕ IndexFault} (Ok x) (Ok y) = cc in
    let is : x ≡ y = cc in
    let tail : ids_given (record { ids = xs; whole = a }) ≡ ids_given (record { ids = ys; whole = b }) = cc in
    let rest = yields_once xs ys a b tail in
    ((λ i. is i ∷ rest.0 i), rest.1)

pub yields_ok : (r rest : Ids) (id : ℕ) → ids_given r ≡ Ok id ∷ ids_given rest → (r.ids ≡ id ∷ rest.ids) × (r.whole ≡ rest.whole)
yields_ok r rest id e = yields_once r.ids (id ∷ rest.ids) r.whole rest.whole e

pub yields_none : (r : Ids) → ids_given r ≡ [] → (r.ids ≡ []) × (r.whole ≡ true)
yields_none r e = none r.ids r.whole e
  where
    none : (xs : List ℕ) (a : Bool) → ids_given (record { ids = xs; whole = a }) ≡ [] → (xs ≡ []) × (a ≡ true)
    none [] true h = (refl, refl)
    none [] false h = cc
    none (x ∷ xs) a h = cc

-- an item that is no id comes from a damaged list
pub yields_no_id : (r s : Ids) (x : Result ℕ IndexFault) → ids_given r ≡ x ∷ ids_given s → ((id : ℕ) → x ≡ Ok id → ⊥) →
    r.whole ≡ false
yields_no_id r s x e none = by_ids r.ids r.whole e
  where
    by_ids : (xs : List ℕ) (whole : Bool) → ids_given (record { ids = xs; whole = whole }) ≡ x ∷ ids_given s → whole ≡ false
    by_ids [] true given = cc
    by_ids [] false given = refl
    by_ids (y ∷ ys) whole given = let head : ◌≡◌ {A = Result ℕ IndexFault} x (Ok y) = cc in absurd (none y head)

-- ---- one more id

pub mark_step : (marks : List Bool) (id k : ℕ) (rest : Bool) → id < length marks →
    (get_or (set marks id true) k false || rest) ≡ (get_or marks k false || (eqb id k || rest))
mark_step marks id k rest h = elim (cases_Bool (eqb id k)) [
  | inl here ↦
      ap (λ b. b || rest) (get_or-set_at marks id k true false (sym (eqb-true id k here)) h)
      ∙ sym (ap (λ b. get_or marks k false || (b || rest)) here ∙ or-true (get_or marks k false))
  | inr apart ↦
      ap (λ b. b || rest) (get_or-set_other marks id k true false (λ e. eqb-false id k apart (sym e)))
      ∙ sym (ap (λ b. get_or marks k false || (b || rest)) apart)
]

pub marked_step : (test : ℕ → Bool) (count id : ℕ) (all ids new : List ℕ) → id < count →
    all ≡ ids ++ filter test (range_with_len id (count - id)) → new ≡ cond (test id) (ids ++ id ∷ []) ids →
    all ≡ new ++ filter test (range_with_len (id + 1) (count - (id + 1)))
marked_step test count id all ids new h so_far is =
    let rest : List ℕ = filter test (range_with_len (id + 1) (count - (id + 1))) in
    so_far ∙ ap (λ t. ids ++ t) (ap (filter test) (range_step id (count - id) (omega (arith, h))
    ∙ ap (λ n. id ∷ range_with_len (id + 1) n) (let z : count - id - 1 ≡ count - (id + 1) = omega arith in z)))
    ∙ regroup (test id) ∙ ap (λ t. t ++ rest) (sym is)
  where
    regroup : (b : Bool) → ids ++ cond b (id ∷ filter test (range_with_len (id + 1) (count - (id + 1))))
        (filter test (range_with_len (id + 1) (count - (id + 1)))) ≡ cond b (ids ++ id ∷ []) ids
        ++ filter test (range_with_len (id + 1) (count - (id + 1)))
    regroup true = sym (append_assoc ids (id ∷ []) (filter test (range_with_len (id + 1) (count - (id + 1)))))
    regroup false = refl
