-- The trigrams of a query, sorted.
use Rattle.std.proofs.Common.{◌≡◌, ℕ, suc, ◌+◌, ◌<◌, Bool, true, false, cond, ◌||◌, eqb, List, [], ◌∷◌, get_or, Vec, Global, refl, sym, ap, subst, ◌∙◌, ◌⊎◌, inl, inr, arith}
use Rattle.std.proofs.lemmas.Bool.{cases_Bool, eqb-true}
use Rattle.std.proofs.lemmas.List.Sorted.{list_any-IsPermutation}
use Rattle.std.proofs.lemmas.Map.Keys.{IsStrictlyIncreasing-dedup}
use Rattle.std.specs.List.{dedup, dedup_from, list_any}
use Rattle.std.specs.List.Sorted.{IsPermutation, IsSorted, IsStrictlyIncreasing}
use Rattle.std.specs.Ordering.{nat_cmp}
use Rattle.cs_trigram.specs.Trigram.{has, Ascends}
use Rattle.cs_trigram.specs.declared.queries.Query.{Query}
use Rattle.cs_trigram.specs.declared.queries.Query.TheVariants.{And, Or}
use Rattle.cs_index.specs.Answerable.{mentions}
use Rattle.cs_index.proofs.candidates.QueryMembers.{is_mentioned-And, is_mentioned-Or}

-- a trigram occurs in a query if it occurs in a member
pub mentions_members : (query : Query) (members : Vec Query Global) (g : ℕ) →
    (query ≡ And members) ⊎ (query ≡ Or members) → mentions query g ≡ list_any (λ q. mentions q g) members.items
mentions_members query members g (inl is) = ap (λ q. mentions q g) is ∙ is_mentioned-And g members
mentions_members query members g (inr is) = ap (λ q. mentions q g) is ∙ is_mentioned-Or g members

has_once : (k : ℕ) (xs : List ℕ) (g : ℕ) → has (dedup_from eqb k xs) g ≡ (eqb k g || has xs g)
has_once k [] g = refl
has_once k (x ∷ xs) g = elim (cases_Bool (eqb x k)) [
  | inl same ↦
      let is : x ≡ k = eqb-true x k same in
      ap (λ b. has (cond b (dedup_from eqb k xs) (k ∷ dedup_from eqb x xs)) g) same ∙ has_once k xs g
      ∙ sym (ap (λ n. eqb k g || (eqb n g || has xs g)) is ∙ twice (eqb k g) (has xs g))
  | inr apart ↦
      ap (λ b. has (cond b (dedup_from eqb k xs) (k ∷ dedup_from eqb x xs)) g) apart ∙ ap (λ b. eqb k g || b) (has_once x xs g)
]
  where
    twice : (a b : Bool) → (a || (a || b)) ≡ (a || b)
    twice true b = refl
    twice false b = refl

has_dedup : (xs : List ℕ) (g : ℕ) → has (dedup eqb xs) g ≡ has xs g
has_dedup [] g = refl
has_dedup (x ∷ xs) g = has_once x xs g

pub has_ordered : (gathered sorted left : List ℕ) (g : ℕ) → IsPermutation gathered sorted → left ≡ dedup eqb sorted →
    has left g ≡ has gathered g
has_ordered gathered sorted left g moved is = ap (λ xs. has xs g) is ∙ has_dedup sorted g
    ∙ sym (list_any-IsPermutation (λ m. eqb m g) gathered sorted moved)

ascends_from : (xs : List ℕ) → IsStrictlyIncreasing xs → Ascends xs
ascends_from [] up = tt
ascends_from (x ∷ []) up = tt
ascends_from (x ∷ y ∷ ys) up = (
  up 0 (omega arith),
  ascends_from (y ∷ ys) (λ k h. subst (λ m. get_or (y ∷ ys) k 0 < get_or (x ∷ y ∷ ys) m 0)
      (let z : suc k + 1 ≡ suc (k + 1) = omega arith in z) (up (suc k) (omega (arith, h)))),
)

pub ascends_ordered : (sorted left : List ℕ) → IsSorted nat_cmp sorted → left ≡ dedup eqb sorted → Ascends left
ascends_ordered sorted left up is = rw is (ascends_from (dedup eqb sorted) (IsStrictlyIncreasing-dedup sorted up))
