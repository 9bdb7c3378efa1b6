-- Descents in sorted lists of paths: each byte of a path narrows the list.
use Rattle.std.proofs.Common.{◌≡◌, ℕ, zero, suc, Some, ◌+◌, ◌-◌, ◌<◌, ◌≤◌, Bool, true, false, ◌&&◌, ◌||◌, List, [], ◌∷◌, length, map, take, drop, get_or, eqb, cond, refl, sym, ap, subst, ◌∙◌, inl, inr, arith}
use Rattle.std.specs.Prelude.{bytes_eq, slice_get}
use Rattle.std.specs.Path.{slash}
use Rattle.std.specs.List.{AllByRecursion, list_any}
use Rattle.std.specs.List.Sorted.{IsStrictlySortedBy, IsPartitionedBy, IsPartitionPoint}
use Rattle.std.specs.Ordering.{ordering_then, is_lt}
use Rattle.std.specs.Cmp.{both_ways as same_tests, nat_cmp_is}
use Rattle.std.specs.declared.cmp.Ordering.TheVariants.{Less, Equal, Greater}
use Rattle.std.proofs.lemmas.Bool.{true≢false, both_ways, false_from_ne_true, cases_lt, eqb-true, eq-eqb, ne_eqb, ltb-true, lt-ltb, leb-true, le-leb}
use Rattle.std.proofs.lemmas.List.{length-map, drop-drop, get_or-drop, length-drop, drop_all, drop_more, nil_from_length}
use Rattle.std.proofs.Math.ListN.{get_or-map}
use Rattle.std.proofs.Math.Dec.{leb, ltb}
use Rattle.std.proofs.lemmas.Option.{none-some, same_Some}
use Rattle.std.specs.Cmp.Lexicographic.{bytes_decides}
use Rattle.std.proofs.lemmas.Map.Keys.{Less-from_sorted}
use Rattle.cs_tree.specs.Cover.{is_among, is_ancestor}
use Rattle.cs_tree.specs.Descents.{tails, begins_below, after_byte}
use Rattle.cs_tree.specs.NameOrder.{bytes_cmp}

-- ---- the order of two texts that have a first byte

same_first : (b : ℕ) (s t : List ℕ) → bytes_cmp (b ∷ s) (b ∷ t) ≡ bytes_cmp s t
same_first b s t = ap (λ r. ordering_then r (bytes_cmp s t)) (sym (nat_cmp_is b b Equal refl))

not_greater : (b c : ℕ) (s t : List ℕ) → bytes_cmp (b ∷ s) (c ∷ t) ≡ Less → b ≤ c
not_greater b c s t less = elim (cases_lt c b) [
  | inl above ↦ absurd (true≢false (sym (ap is_lt (ap (λ r. ordering_then r (bytes_cmp s t)) (nat_cmp_is b c Greater above) ∙ less))))
  | inr within ↦ omega (arith, within)
]

-- what is less than a text that begins below the bound begins below it
below_less : (bound : ℕ) (s t : List ℕ) → bytes_cmp s t ≡ Less → begins_below bound t ≡ true → begins_below bound s ≡ true
below_less bound [] t less h = refl
below_less bound (b ∷ s) [] less h = absurd (true≢false (sym (ap is_lt less)))
below_less bound (b ∷ s) (c ∷ t) less h = lt-ltb b bound (omega (arith, not_greater b c s t less, ltb-true c bound h))

-- ---- where the paths of a sorted list pass a bound

module _ {X : Type 0} (f : X → List ℕ) where
  pub partitioned : (bound : ℕ) (xs : List X) → IsStrictlySortedBy bytes_cmp (map f xs) →
      IsPartitionedBy (λ (x : X). begins_below bound (f x)) xs
  partitioned bound xs sorted = λ i j d before within h. elim (cases_lt i j) [
    | inl less ↦ below_less bound (f (get_or xs i d)) (f (get_or xs j d))
        (sym (ap (λ t. bytes_cmp t (get_or (map f xs) j (f d))) (get_or-map f xs i d)
        ∙ ap (bytes_cmp (f (get_or xs i d))) (get_or-map f xs j d))
        ∙ Less-from_sorted bytes_cmp (map f xs) i j (f d) sorted less (omega (arith, within, length-map xs f))) h
    | inr equal ↦ subst (λ k. begins_below bound (f (get_or xs k d)) ≡ true) (omega (arith, before, equal)) h
  ]

  -- all pass the bound if the last one does, and none if the first one does not
  pub all_before : (bound : ℕ) (xs : List X) → IsStrictlySortedBy bytes_cmp (map f xs) →
      ((d : X) → begins_below bound (f (get_or xs (length xs - 1) d)) ≡ true) →
      IsPartitionPoint (λ (x : X). begins_below bound (f x) ≡ true) (λ (x : X). begins_below bound (f x) ≡ false) xs
      (length xs)
  all_before bound xs sorted last = (
    λ k d from less. partitioned bound xs sorted k (length xs - 1) d
        (omega (arith, less)) (omega (arith, less)) (last d),
    λ k d from less. absurd (omega (arith, from, less)),
  )

  pub none_before : (bound : ℕ) (xs : List X) → IsStrictlySortedBy bytes_cmp (map f xs) →
      ((d : X) → begins_below bound (f (get_or xs 0 d)) ≡ false) →
      IsPartitionPoint (λ (x : X). begins_below bound (f x) ≡ true) (λ (x : X). begins_below bound (f x) ≡ false) xs 0
  none_before bound xs sorted first = (
    λ k d from less. absurd (omega (arith, less)),
    λ k d from less. false_from_ne_true _ (λ h. both_ways _ (first d)
        (partitioned bound xs sorted 0 k d (omega arith) less h)),
  )

  pub sorted_drop : (n : ℕ) (xs : List X) → IsStrictlySortedBy bytes_cmp (map f xs) → IsStrictlySortedBy bytes_cmp (map f (drop n xs))
  unfolding IsStrictlySortedBy
  sorted_drop zero xs sorted = sorted
  sorted_drop (suc n) [] sorted = sorted
  sorted_drop (suc n) (x ∷ xs) sorted = sorted_drop n xs sorted.1

-- ---- the texts that begin with a byte

above_byte : (byte : ℕ) (t : List ℕ) (ts : List (List ℕ)) → begins_below (byte + 1) t ≡ false → after_byte byte (t ∷ ts)
    ≡ after_byte byte ts
above_byte byte [] ts h = refl
above_byte byte (b ∷ t) ts h = ap (λ same. cond same (t ∷ after_byte byte ts) (after_byte byte ts))
    (ne_eqb b byte (λ e. both_ways (ltb b (byte + 1)) h (lt-ltb b (byte + 1) (omega (arith, e)))))

below_byte : (byte : ℕ) (t : List ℕ) (ts : List (List ℕ)) → begins_below byte t ≡ true → after_byte byte (t ∷ ts) ≡ after_byte byte ts
below_byte byte [] ts h = refl
below_byte byte (b ∷ t) ts h = ap (λ same. cond same (t ∷ after_byte byte ts) (after_byte byte ts))
    (ne_eqb b byte (λ e. let less = ltb-true b byte h in absurd (omega (arith, e))))

at_byte : (byte : ℕ) (t : List ℕ) (ts : List (List ℕ)) → begins_below byte t ≡ false → begins_below (byte + 1) t
    ≡ true → after_byte byte (t ∷ ts) ≡ drop 1 t ∷ after_byte byte ts
at_byte byte [] ts h g = absurd (true≢false h)
at_byte byte (b ∷ t) ts h g =
    ap (λ same. cond same (t ∷ after_byte byte ts) (after_byte byte ts)) (eq-eqb b byte (elim (cases_lt b byte) [
      | inl less ↦ absurd (both_ways (ltb b byte) h (lt-ltb b byte less))
      | inr more ↦ let within = ltb-true b (byte + 1) g in omega arith
    ]))

module _ {X : Type 0} (f : X → List ℕ) (byte : ℕ) where
  -- the first paths are below the byte
  after_skip : (n : ℕ) (xs : List X) → n ≤ length xs →
      ((k : ℕ) (d : X) → k < n → begins_below byte (f (get_or xs k d)) ≡ true) → after_byte byte (map f xs)
      ≡ after_byte byte (map f (drop n xs))
  after_skip zero xs long h = refl
  after_skip (suc n) [] long h = refl
  after_skip (suc n) (x ∷ xs) long h = below_byte byte (f x) (map f xs) (h 0 x (omega arith))
      ∙ after_skip n xs (omega (arith, long)) (λ k d less. h (suc k) d (omega (arith, less)))

  -- none is below the byte, and the first ones are below the next byte
  after_take : (n : ℕ) (xs : List X) → ((k : ℕ) (d : X) → k < length xs → begins_below byte (f (get_or xs k d)) ≡ false)
      → ((k : ℕ) (d : X) → k < n → begins_below (byte + 1) (f (get_or xs k d)) ≡ true) →
      ((k : ℕ) (d : X) → n ≤ k → k < length xs → begins_below (byte + 1) (f (get_or xs k d)) ≡ false) →
      map (λ x. drop 1 (f x)) (take n xs) ≡ after_byte byte (map f xs)
  after_take zero [] above below past = refl
  after_take (suc n) [] above below past = refl
  after_take zero (x ∷ xs) above below past =
      after_take zero xs (λ k d less. above (suc k) d (omega (arith, less))) (λ k d less. absurd (omega (arith, less)))
      (λ k d from less. past (suc k) d (omega arith) (omega (arith, less)))
      ∙ sym (above_byte byte (f x) (map f xs) (past 0 x (omega arith) (omega arith)))
  after_take (suc n) (x ∷ xs) above below past =
      ap (λ ts. drop 1 (f x) ∷ ts) (after_take n xs (λ k d less. above (suc k) d (omega (arith, less)))
      (λ k d less. below (suc k) d (omega (arith, less)))
      (λ k d from less. past (suc k) d (omega (arith, from)) (omega (arith, less))))
      ∙ sym (at_byte byte (f x) (map f xs) (above 0 x (omega arith)) (below 0 x (omega arith)))

-- the paths between the two points, seen from the next offset on
pub narrowed : {X : Type 0} (text : X → List ℕ) (at byte start end : ℕ) (xs rest : List X) → rest ≡ drop start xs →
    start ≤ length xs → IsPartitionPoint (λ (x : X). begins_below byte (drop at (text x)) ≡ true)
    (λ (x : X). begins_below byte (drop at (text x)) ≡ false) xs start →
    IsPartitionPoint (λ (x : X). begins_below (byte + 1) (drop at (text x)) ≡ true)
    (λ (x : X). begins_below (byte + 1) (drop at (text x)) ≡ false) rest end → tails text (at + 1) (take end rest)
    ≡ after_byte byte (tails text at xs)
narrowed text at byte start end xs rest is long first second =
    (λ i. map (λ x. sym (drop-drop 1 at (text x)) i) (take end rest))
    ∙ after_take (λ x. drop at (text x)) byte end rest
    (λ k d less. subst (λ x. begins_below byte (drop at (text x)) ≡ false)
    (sym (ap (λ l. get_or l k d) is ∙ get_or-drop start xs k d))
    (first.1 (start + k) d (omega arith) (omega (arith, less, ap length is, length-drop start xs))))
    (λ k d less. second.0 k d (omega arith) less)
    (λ k d from less. second.1 k d from less)
    ∙ ap (λ l. after_byte byte (tails text at l)) is
    ∙ sym (after_skip (λ x. drop at (text x)) byte start xs long (λ k d less. first.0 k d (omega arith) less))

-- what follows a byte in sorted texts is sorted
less_after : (byte : ℕ) (t : List ℕ) (ts : List (List ℕ)) → AllByRecursion (λ u. bytes_cmp (byte ∷ t) u ≡ Less) ts →
    AllByRecursion (λ u. bytes_cmp t u ≡ Less) (after_byte byte ts)
less_after byte t [] h = tt
less_after byte t ([] ∷ ts) h = less_after byte t ts h.1
less_after byte t ((b ∷ u) ∷ ts) h = either (less_after byte t ts h.1) (eqb b byte) refl
  where
    either : AllByRecursion (λ u. bytes_cmp t u ≡ Less) (after_byte byte ts) → (same : Bool) → eqb b byte ≡ same →
        AllByRecursion (λ u. bytes_cmp t u ≡ Less) (cond same (u ∷ after_byte byte ts) (after_byte byte ts))
    either later true is = (sym (same_first byte t u) ∙ subst (λ c. bytes_cmp (byte ∷ t) (c ∷ u) ≡ Less) (eqb-true b byte is) h.0, later)
    either later false is = later

pub sorted_after : (byte : ℕ) (ts : List (List ℕ)) → IsStrictlySortedBy bytes_cmp ts → IsStrictlySortedBy bytes_cmp (after_byte byte ts)
unfolding IsStrictlySortedBy
sorted_after byte [] h = tt
sorted_after byte ([] ∷ ts) h = sorted_after byte ts h.1
sorted_after byte ((b ∷ t) ∷ ts) h = either (sorted_after byte ts h.1) (eqb b byte) refl
  where
    either : IsStrictlySortedBy bytes_cmp (after_byte byte ts) → (same : Bool) → eqb b byte ≡ same →
        IsStrictlySortedBy bytes_cmp (cond same (t ∷ after_byte byte ts) (after_byte byte ts))
    either later true is = (
      less_after byte t ts
          (subst (λ c. AllByRecursion (λ u. bytes_cmp (c ∷ t) u ≡ Less) ts) (eqb-true b byte is) h.0),
      later,
    )
    either later false is = later

-- ---- the path that ends at the offset

none_empty : (b : ℕ) (t : List ℕ) (ts : List (List ℕ)) → AllByRecursion (λ u. bytes_cmp (b ∷ t) u ≡ Less) ts → is_among ts [] ≡ false
none_empty b t [] h = refl
none_empty b t ([] ∷ ts) h = absurd (true≢false (sym (ap is_lt h.0)))
none_empty b t ((c ∷ u) ∷ ts) h = none_empty b t ts h.1

first_empty : (t : List ℕ) (ts : List (List ℕ)) → IsStrictlySortedBy bytes_cmp (t ∷ ts) → is_among (t ∷ ts) [] ≡ bytes_eq t []
unfolding IsStrictlySortedBy
first_empty [] ts h = refl
first_empty (b ∷ t) ts h = none_empty b t ts h.0

ends_at : (at : ℕ) (text : List ℕ) → leb (length text) at ≡ bytes_eq (drop at text) []
ends_at at text = same_tests _ _
    (λ h. (bytes_decides (drop at text) []).1 (drop_all at text (leb-true (length text) at h)))
    (λ h. le-leb (length text) at (omega (arith, length-drop at text, ap length ((bytes_decides (drop at text) []).0 h))))

pub first_ends : {X : Type 0} (text : X → List ℕ) (at : ℕ) (xs : List X) (x : X) (t : List ℕ) →
    IsStrictlySortedBy bytes_cmp (tails text at xs) → slice_get xs 0 ≡ Some x → t ≡ text x → leb (length t) at
    ≡ is_among (tails text at xs) []
first_ends text at [] x t sorted first is = absurd (none-some x first)
first_ends text at (y ∷ xs) x t sorted first is =
    ap (λ t. leb (length t) at) (is ∙ sym (ap text (same_Some y x first)))
    ∙ ends_at at (text y)
    ∙ sym (first_empty (drop at (text y)) (tails text at xs) sorted)

-- ---- the ancestors of a path

swap_or : (p q r : Bool) → (p || (q || r)) ≡ (q || (p || r))
swap_or true true r = refl
swap_or true false r = refl
swap_or false q r = refl

some_or : (s a r : Bool) → ((s && true) || ((s && a) || r)) ≡ ((s && true) || r)
some_or true a r = refl
some_or false a r = refl

-- an ancestor ends before the slash, or goes on with the byte
pub any_ancestor : (b : ℕ) (text : List ℕ) (ts : List (List ℕ)) → list_any (λ above. is_ancestor above (b ∷ text)) ts
    ≡ ((eqb b slash && is_among ts []) || list_any (λ above. is_ancestor above text) (after_byte b ts))
any_ancestor b text [] = elim (eqb b slash) as (λ s. false ≡ ((s && false) || false)) [ true ↦ refl | false ↦ refl ]
any_ancestor b text ([] ∷ ts) =
    ap (λ s. (s && true) || list_any (λ above. is_ancestor above (b ∷ text)) ts)
    (same_tests (eqb slash b) (eqb b slash) (λ e. eq-eqb b slash (sym (eqb-true slash b e)))
    (λ e. eq-eqb slash b (sym (eqb-true b slash e))))
    ∙ ap (λ r. (eqb b slash && true) || r) (any_ancestor b text ts)
    ∙ some_or (eqb b slash) (is_among ts []) (list_any (λ above. is_ancestor above text) (after_byte b ts))
any_ancestor b text ((c ∷ t) ∷ ts) = ap (λ r. (eqb c b && is_ancestor t text) || r) (any_ancestor b text ts) ∙ either (eqb c b)
  where
    either : (same : Bool) → ((same && is_ancestor t text)
        || ((eqb b slash && is_among ts []) || list_any (λ above. is_ancestor above text) (after_byte b ts)))
        ≡ ((eqb b slash && is_among ts []) || list_any (λ above. is_ancestor above text)
        (cond same (t ∷ after_byte b ts) (after_byte b ts)))
    either true = swap_or (is_ancestor t text) (eqb b slash && is_among ts [])
        (list_any (λ above. is_ancestor above text) (after_byte b ts))
    either false = refl

-- the same at an offset of a path
pub ancestor_step : (at : ℕ) (path bytes : List ℕ) (ts : List (List ℕ)) → bytes ≡ path → at < length bytes →
    list_any (λ above. is_ancestor above (drop at path)) ts
    ≡ ((eqb (get_or bytes at 0) slash && is_among ts []) || list_any (λ above. is_ancestor above (drop (at + 1) path))
    (after_byte (get_or bytes at 0) ts))
ancestor_step at path bytes ts same within =
    ap (λ text. list_any (λ above. is_ancestor above text) ts) (ap (drop at) (sym same) ∙ drop_more bytes at 0 within)
    ∙ any_ancestor (get_or bytes at 0) (drop (at + 1) bytes) ts
    ∙ ap (λ text. (eqb (get_or bytes at 0) slash && is_among ts []) || list_any (λ above. is_ancestor above text)
    (after_byte (get_or bytes at 0) ts)) (ap (drop (at + 1)) same)

-- nothing is an ancestor of the empty text
pub no_ancestor : (ts : List (List ℕ)) → list_any (λ above. is_ancestor above []) ts ≡ false
no_ancestor [] = refl
no_ancestor ([] ∷ ts) = no_ancestor ts
no_ancestor ((b ∷ t) ∷ ts) = no_ancestor ts

-- nor is a path of an empty list
pub none_listed : {X : Type 0} (text : X → List ℕ) (at : ℕ) (path : List ℕ) (xs : List X) → eqb (length xs) 0 ≡ true →
    list_any (λ above. is_ancestor above path) (tails text at xs) ≡ false
none_listed text at path xs empty = ap (λ xs. list_any (λ above. is_ancestor above path) (tails text at xs))
    (nil_from_length xs (eqb-true (length xs) 0 empty))
