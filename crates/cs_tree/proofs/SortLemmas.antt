-- Lists that are sorted by a key and deduplicated.
use Rattle.std.proofs.Common.{◌≡◌, ℕ, zero, suc, ◌<◌, arith, slice_index_or, Bool, true, false, cond, ◌||◌, List, [], ◌∷◌, length, map, refl, sym, ap, subst, ◌∙◌, inl, inr}
use Rattle.cs_tree.specs.NameOrder.{bytes_cmp}
use Rattle.cs_tree.specs.NamesAscending.{are_ascending}
use Rattle.std.proofs.lemmas.Bool.{cases_Bool, and_from}
use Rattle.std.proofs.lemmas.List.Kept.{IsStrictlySortedBy-dedup, Contains-from_dedup}
use Rattle.std.proofs.lemmas.List.Sorted.{IsPermutation-map, IsPermutation-sym, Contains-permutation}
use Rattle.std.specs.Prelude.{Contains, IsSorted, IsPermutation, bytes_eq}
use Rattle.std.specs.Cmp.{on_total}
use Rattle.std.specs.Cmp.Lexicographic.{bytes_decides, nat_list_cmp_total, texts_ties}
use Rattle.std.specs.List.{list_any, AllByRecursion, dedup, dedup_from}
use Rattle.std.specs.List.Sorted.{IsStrictlySortedBy}
use Rattle.std.specs.Ordering.{is_lt}
use Rattle.std.specs.declared.cmp.Ordering.{Ordering}

module _ {X : Type 0} (key : X → List ℕ) where
  abbrev pub by_key : X → X → Ordering
  by_key x y = bytes_cmp (key x) (key y)

  abbrev pub same_key : X → X → Bool
  same_key x y = bytes_eq (key x) (key y)

  pub keys_ascend : (xs : List X) → IsStrictlySortedBy by_key xs → are_ascending (map key xs) ≡ true
  unfolding IsStrictlySortedBy
  keys_ascend [] h = refl
  keys_ascend (x ∷ []) h = refl
  keys_ascend (x ∷ y ∷ xs) h = and_from _ _ (ap is_lt h.0.0) (keys_ascend (y ∷ xs) h.1)

  -- after sorting and deduplication the keys ascend
  pub sorted_once : (xs : List X) → IsSorted by_key xs → are_ascending (map key (dedup same_key xs)) ≡ true
  sorted_once xs up = keys_ascend (dedup same_key xs)
      (IsStrictlySortedBy-dedup (on_total key nat_list_cmp_total) (λ x y. texts_ties (key x) (key y)) xs up)

  -- some key satisfies a test after deduplication exactly if some key did before
  once_from : (test : List ℕ → Bool) (k : X) (xs : List X) → list_any (λ x. test (key x)) (dedup_from same_key k xs)
      ≡ (test (key k) || list_any (λ x. test (key x)) xs)
  once_from test k [] = refl
  once_from test k (x ∷ xs) =
      elim (cases_Bool (same_key x k)) [
        | inl tied ↦
            ap (λ b. list_any (λ y. test (key y)) (cond b (dedup_from same_key k xs) (k ∷ dedup_from same_key x xs))) tied
            ∙ once_from test k xs
            ∙ twice (test (key k)) (list_any (λ y. test (key y)) xs)
            ∙ ap (λ q. test (key k) || (test q || list_any (λ y. test (key y)) xs)) (sym ((bytes_decides (key x) (key k)).0 tied))
        | inr apart ↦
            ap (λ b. list_any (λ y. test (key y)) (cond b (dedup_from same_key k xs) (k ∷ dedup_from same_key x xs))) apart
            ∙ ap (λ b. test (key k) || b) (once_from test x xs)
      ]
    where
      twice : (a b : Bool) → (a || b) ≡ (a || (a || b))
      twice true b = refl
      twice false b = refl

  pub once_same : (test : List ℕ → Bool) (xs : List X) → list_any (λ x. test (key x)) (dedup same_key xs) ≡ list_any (λ x. test (key x)) xs
  once_same test [] = refl
  once_same test (x ∷ xs) = once_from test x xs

-- ---- each remaining item was there before

module _ {X Y : Type 0} (view : X → Y) (tied : Y → Y → Bool) where
  once_seen_from : (k : X) (xs : List X) → map view (dedup_from (λ x y. tied (view x) (view y)) k xs)
      ≡ dedup_from tied (view k) (map view xs)
  once_seen_from k [] = refl
  once_seen_from k (x ∷ xs) =
      elim (tied (view x) (view k)) as (λ b. map view
      (cond b (dedup_from (λ x y. tied (view x) (view y)) k xs) (k ∷ dedup_from (λ x y. tied (view x) (view y)) x xs))
      ≡ cond b (dedup_from tied (view k) (map view xs)) (view k ∷ dedup_from tied (view x) (map view xs))) [
        | true ↦ once_seen_from k xs
        | false ↦ ap (λ ys. view k ∷ ys) (once_seen_from x xs)
      ]

  pub once_seen : (xs : List X) → map view (dedup (λ x y. tied (view x) (view y)) xs) ≡ dedup tied (map view xs)
  once_seen [] = refl
  once_seen (x ∷ xs) = once_seen_from x xs

  pub kept_once : (xs sorted : List X) (y : Y) → IsPermutation xs sorted →
      Contains (map view (dedup (λ x y. tied (view x) (view y)) sorted)) y → Contains (map view xs) y
  kept_once xs sorted y moved h =
      Contains-permutation (map view sorted) (map view xs) y (IsPermutation-map view sorted xs (IsPermutation-sym xs sorted moved))
      (Contains-from_dedup tied (map view sorted) y (subst (λ ys. Contains ys y) (once_seen sorted) h))

module _ {X : Type 0} (P : X → Type 0) where
  all_at : (xs : List X) (x : X) (k : ℕ) → k < length xs → slice_index_or xs k x ≡ x → AllByRecursion P xs → P x
  all_at [] x k l e all = absurd (omega (arith, l))
  all_at (y ∷ xs) x zero l e all = subst P e all.0
  all_at (y ∷ xs) x (suc k) l e all = all_at xs x k (omega (arith, l)) e all.1

  all_by : (ys : List X) → ((y : X) → Contains ys y → P y) → AllByRecursion P ys
  all_by [] each = tt
  all_by (y ∷ ys) each = (each y (zero, omega arith, refl), all_by ys (λ z c. each z (suc c.0, omega (arith, c.1), c.2)))

  pub all_kept : (xs ys : List X) → ((y : X) → Contains ys y → Contains xs y) → AllByRecursion P xs → AllByRecursion P ys
  all_kept xs ys kept all = all_by ys (λ y c. let at = kept y c in all_at xs y at.0 at.1 at.2 all)
