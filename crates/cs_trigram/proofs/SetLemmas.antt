-- Ascending lists as sets of numbers.
use Rattle.std.proofs.Common.{◌≡◌, ◌⊎◌, ℕ, ◌+◌, ◌<◌, ◌≤◌, Bool, true, false, cond, ◌&&◌, ◌||◌, ltb, eqb, List, [], ◌∷◌, ◌++◌, length, refl, sym, ap, ◌∙◌, inl, inr, arith}
use Rattle.std.proofs.Math.Bool.{and-false, or-false, or_comm, or_self_left}
use Rattle.std.proofs.lemmas.Bool.{true≢false, cases_Bool, cond_both, cases_order, eqb-true, eqb-false, eq-eqb, ne_eqb, or_left, or_parts, or_right, ltb-true, ltb-false}
use Rattle.std.proofs.lemmas.List.Folds.{list_any-append}
use Rattle.std.specs.Prelude.{filter}
use Rattle.std.specs.List.{AllByRecursion}
use Rattle.cs_trigram.specs.Trigram.{Ascends, with_number, set_of_numbers, has}
use Rattle.cs_trigram.specs.TrigramSets.{AreDistinct}
use Rattle.cs_syntax.proofs.QuoteMetaLemmas.{of_each}

-- every number of the list is above n
abbrev pub Above : ℕ → List ℕ → Type 0
Above n [] = Unit {0}
Above n (m ∷ ms) = n < m

pub ascends_cons : (n : ℕ) (ms : List ℕ) → Above n ms → Ascends ms → Ascends (n ∷ ms)
ascends_cons n [] h up = tt
ascends_cons n (m ∷ ms) h up = (h, up)

pub ascends_tail : (n : ℕ) (ms : List ℕ) → Ascends (n ∷ ms) → Ascends ms
ascends_tail n [] up = tt
ascends_tail n (m ∷ ms) up = up.1

pub ascends_head : (n : ℕ) (ms : List ℕ) → Ascends (n ∷ ms) → Above n ms
ascends_head n [] up = tt
ascends_head n (m ∷ ms) up = up.0

above_with_number : (k n : ℕ) (ms : List ℕ) → k < n → Above k ms → Above k (with_number n ms)
above_with_number k n [] h g = h
above_with_number k n (m ∷ ms) h g =
    cond_both (ltb n m) (n ∷ m ∷ ms) (cond (eqb n m) (m ∷ ms) (m ∷ with_number n ms)) (Above k) (λ _. h)
    (λ _. cond_both (eqb n m) (m ∷ ms) (m ∷ with_number n ms) (Above k) (λ _. g) (λ _. g))

pub ascends_with_number : (n : ℕ) (ms : List ℕ) → Ascends ms → Ascends (with_number n ms)
ascends_with_number n [] up = tt
ascends_with_number n (m ∷ ms) up =
    cond_both (ltb n m) (n ∷ m ∷ ms) (cond (eqb n m) (m ∷ ms) (m ∷ with_number n ms)) Ascends
    (λ less. (ltb-true n m less, up))
    (λ more. cond_both (eqb n m) (m ∷ ms) (m ∷ with_number n ms) Ascends (λ _. up)
    (λ apart.
    let below : m < n = between n m (ltb-false n m more) (eqb-false n m apart) in
    ascends_cons m (with_number n ms) (above_with_number m n ms below (ascends_head m ms up))
    (ascends_with_number n ms (ascends_tail m ms up))))
  where
    between : (n m : ℕ) → m ≤ n → (n ≡ m → ⊥) → m < n
    between n m h g = omega (arith, h, g)

pub ascends_set : (ns : List ℕ) → Ascends (set_of_numbers ns)
ascends_set [] = tt
ascends_set (n ∷ ns) = ascends_with_number n (set_of_numbers ns) (ascends_set ns)

module _ (P : ℕ → Type 0) where
  pub all_with_number : (n : ℕ) (ms : List ℕ) → P n → AllByRecursion P ms → AllByRecursion P (with_number n ms)
  all_with_number n [] h all = (h, tt)
  all_with_number n (m ∷ ms) h all =
      cond_both (ltb n m) (n ∷ m ∷ ms) (cond (eqb n m) (m ∷ ms) (m ∷ with_number n ms)) (AllByRecursion P) (λ _. (h, all))
      (λ _. cond_both (eqb n m) (m ∷ ms) (m ∷ with_number n ms) (AllByRecursion P) (λ _. all) (λ _. (all.0, all_with_number n ms h all.1)))

  pub all_set : (ns : List ℕ) → AllByRecursion P ns → AllByRecursion P (set_of_numbers ns)
  all_set [] all = tt
  all_set (n ∷ ns) all = all_with_number n (set_of_numbers ns) all.0 (all_set ns all.1)

  pub all_weaker : (Q : ℕ → Type 0) → ((n : ℕ) → P n → Q n) → (ns : List ℕ) → AllByRecursion P ns → AllByRecursion Q ns
  all_weaker Q h [] all = tt
  all_weaker Q h (n ∷ ns) all = (h n all.0, all_weaker Q h ns all.1)

-- ---- membership

or_swap : (a b c : Bool) → (a || (b || c)) ≡ (b || (a || c))
or_swap true true c = refl
or_swap true false c = refl
or_swap false b c = refl

pub has-with_number : (n g : ℕ) (ms : List ℕ) → has (with_number n ms) g ≡ (eqb n g || has ms g)
has-with_number n g [] = refl
has-with_number n g (m ∷ ms) =
    cond_both (ltb n m) (n ∷ m ∷ ms) (cond (eqb n m) (m ∷ ms) (m ∷ with_number n ms)) (λ ns. has ns g ≡ (eqb n g || (eqb m g || has ms g)))
    (λ _. refl)
    (λ _. cond_both (eqb n m) (m ∷ ms) (m ∷ with_number n ms) (λ ns. has ns g ≡ (eqb n g || (eqb m g || has ms g)))
    (λ same. sym (or_self_left (eqb m g) (has ms g)) ∙ ap (λ k. eqb k g || (eqb m g || has ms g)) (sym (eqb-true n m same)))
    (λ _. ap (λ t. eqb m g || t) (has-with_number n g ms) ∙ or_swap (eqb m g) (eqb n g) (has ms g)))

pub has-set_of_numbers : (g : ℕ) (ns : List ℕ) → has (set_of_numbers ns) g ≡ has ns g
has-set_of_numbers g [] = refl
has-set_of_numbers g (n ∷ ns) = has-with_number n g (set_of_numbers ns) ∙ ap (λ t. eqb n g || t) (has-set_of_numbers g ns)

pub has-append : (g : ℕ) (xs ys : List ℕ) → has (xs ++ ys) g ≡ (has xs g || has ys g)
has-append g xs ys = list_any-append (λ x. eqb x g) xs ys

-- a number below the first of an ascending list is not a member
pub below_none : (n : ℕ) (ms : List ℕ) → Above n ms → Ascends ms → has ms n ≡ false
below_none n [] h up = refl
below_none n (m ∷ ms) h up =
    let apart : eqb m n ≡ false = ne_eqb m n (λ e. absurd (omega (arith, e, h))) in
    ap (λ b. b || has ms n) apart ∙ below_none n ms (further ms (ascends_head m ms up)) (ascends_tail m ms up)
  where
    further : (ks : List ℕ) → Above m ks → Above n ks
    further [] g = tt
    further (k ∷ ks) g = omega (arith, h, g)

-- ascending lists with the same members are equal
pub ascends_same : (xs ys : List ℕ) → Ascends xs → Ascends ys → ((g : ℕ) → has xs g ≡ has ys g) → xs ≡ ys
ascends_same [] [] a b h = refl
ascends_same [] (y ∷ ys) a b h = absurd (true≢false (sym (h y ∙ or_left (eqb y y) (has ys y) (eq-eqb y y refl))))
ascends_same (x ∷ xs) [] a b h = absurd (true≢false (sym (or_left (eqb x x) (has xs x) (eq-eqb x x refl)) ∙ h x))
ascends_same (x ∷ xs) (y ∷ ys) a b h =
    elim (cases_order x y) [
      | inl e ↦ let rest = ascends_same xs ys (ascends_tail x xs a) (ascends_tail y ys b) (tails e) in λ i. e i ∷ rest i
      | inr other ↦ elim other [
        | inl less ↦ absurd (true≢false (sym (or_left (eqb x x) (has xs x) (eq-eqb x x refl)) ∙ h x ∙ below_none x (y ∷ ys) less b))
        | inr more ↦ absurd (true≢false (sym (or_left (eqb y y) (has ys y) (eq-eqb y y refl)) ∙ sym (h y) ∙ below_none y (x ∷ xs) more a))
      ]
    ]
  where
    tails : (x ≡ y) → (g : ℕ) → has xs g ≡ has ys g
    tails e g =
        elim (cases_Bool (eqb x g)) [
          | inl here ↦
              let is : x ≡ g = eqb-true x g here in
              ap (has xs) (sym is) ∙ below_none x xs (ascends_head x xs a) (ascends_tail x xs a)
              ∙ sym (below_none y ys (ascends_head y ys b) (ascends_tail y ys b)) ∙ ap (has ys) (sym e ∙ is)
          | inr apart ↦
              ap (λ t. t || has xs g) (sym apart) ∙ h g ∙ ap (λ k. eqb k g || has ys g) (sym e) ∙ ap (λ t. t || has ys g) apart
        ]

-- ---- inserting a number

-- a number appended to a list is inserted into its set
pub set_of_numbers-push : (xs : List ℕ) (n : ℕ) → set_of_numbers (xs ++ n ∷ []) ≡ with_number n (set_of_numbers xs)
set_of_numbers-push xs n = ascends_same (set_of_numbers (xs ++ n ∷ [])) (with_number n (set_of_numbers xs))
    (ascends_set (xs ++ n ∷ [])) (ascends_with_number n (set_of_numbers xs) (ascends_set xs)) (λ g.
    has-set_of_numbers g (xs ++ n ∷ []) ∙ has-append g xs (n ∷ []) ∙ ap (λ t. has xs g || t) (or-false (eqb n g))
    ∙ or_comm (has xs g) (eqb n g) ∙ ap (λ t. eqb n g || t) (sym (has-set_of_numbers g xs))
    ∙ sym (has-with_number n g (set_of_numbers xs)))

-- inserting a member changes nothing
pub with_number-member : (n : ℕ) (set : List ℕ) → Ascends set → has set n ≡ true → with_number n set ≡ set
with_number-member n set up member = ascends_same (with_number n set) set (ascends_with_number n set up) up
    (λ g. has-with_number n g set ∙ same g (cases_Bool (eqb n g)))
  where
    same : (g : ℕ) → ((eqb n g ≡ true) ⊎ (eqb n g ≡ false)) → (eqb n g || has set g) ≡ has set g
    same g (inl here) = or_left (eqb n g) (has set g) here ∙ sym member ∙ ap (has set) (eqb-true n g here)
    same g (inr apart) = ap (λ t. t || has set g) apart

pub length-with_number : (n : ℕ) (set : List ℕ) → has set n ≡ false → length (with_number n set) ≡ length set + 1
length-with_number n [] new = refl
length-with_number n (m ∷ ms) new =
    cond_both (ltb n m) (n ∷ m ∷ ms) (cond (eqb n m) (m ∷ ms) (m ∷ with_number n ms)) (λ ns. length ns ≡ length (m ∷ ms) + 1)
    (λ _. omega arith)
    (λ _. cond_both (eqb n m) (m ∷ ms) (m ∷ with_number n ms) (λ ns. length ns ≡ length (m ∷ ms) + 1)
    (λ same. absurd (true≢false (sym (or_left (eqb m n) (has ms n) (eq-eqb m n (sym (eqb-true n m same)))) ∙ new)))
    (λ _. let rest = length-with_number n ms (or_parts (eqb m n) (has ms n) new).1 in omega (arith, rest)))

length-bounds : (n : ℕ) (set : List ℕ) → (length set ≤ length (with_number n set)) × (length (with_number n set) ≤ length set + 1)
length-bounds n [] = (omega arith, omega arith)
length-bounds n (m ∷ ms) =
    let P : List ℕ → Type 0 = λ ns. (length (m ∷ ms) ≤ length ns) × (length ns ≤ length (m ∷ ms) + 1) in
    cond_both (ltb n m) (n ∷ m ∷ ms) (cond (eqb n m) (m ∷ ms) (m ∷ with_number n ms)) P (λ _. (omega arith, omega arith))
    (λ _. cond_both (eqb n m) (m ∷ ms) (m ∷ with_number n ms) P (λ _. (omega arith, omega arith))
    (λ _. let rest = length-bounds n ms in (omega (arith, rest.0), omega (arith, rest.1))))

pub length-with_number-ge : (n : ℕ) (set : List ℕ) → length set ≤ length (with_number n set)
length-with_number-ge n set = (length-bounds n set).0

pub length-with_number-le : (n : ℕ) (set : List ℕ) → length (with_number n set) ≤ length set + 1
length-with_number-le n set = (length-bounds n set).1

pub length-set_of_numbers-le : (xs : List ℕ) → length (set_of_numbers xs) ≤ length xs
length-set_of_numbers-le [] = omega arith
length-set_of_numbers-le (x ∷ xs) = omega (arith, length-with_number-le x (set_of_numbers xs), length-set_of_numbers-le xs)

-- distinct numbers are as many as their set
pub length-distinct : (ns : List ℕ) → AreDistinct ns → length ns ≡ length (set_of_numbers ns)
length-distinct [] distinct = refl
length-distinct (n ∷ ns) distinct =
    let more = length-with_number n (set_of_numbers ns) (has-set_of_numbers n ns ∙ distinct.0) in
    let rest = length-distinct ns distinct.1 in
    omega (arith, more, rest)

-- numbers that are as many as their set are distinct
pub distinct-length : (ns : List ℕ) → length ns ≡ length (set_of_numbers ns) → AreDistinct ns
distinct-length [] many = tt
distinct-length (n ∷ ns) many = (
  elim (cases_Bool (has ns n)) [
    | inl there ↦ absurd (omega (arith, many, stays there, length-set_of_numbers-le ns))
    | inr apart ↦ apart
  ],
  distinct-length ns (omega (arith, many, length-with_number-le n (set_of_numbers ns), length-set_of_numbers-le ns)),
)
  where
    stays : has ns n ≡ true → length (with_number n (set_of_numbers ns)) ≡ length (set_of_numbers ns)
    stays there = ap length (with_number-member n (set_of_numbers ns) (ascends_set ns) (has-set_of_numbers n ns ∙ there))

-- ---- properties of all members

-- a property of each member holds of all numbers of the list
pub members_all : (P : ℕ → Type 0) (ns : List ℕ) → ((n : ℕ) → has ns n ≡ true → P n) → AllByRecursion P ns
members_all P [] h = tt
members_all P (n ∷ ns) h = (h n (or_left (eqb n n) _ (eq-eqb n n refl)), members_all P ns (λ m e. h m (or_right (eqb n m) _ e)))

-- a property of all numbers of a set is one of all numbers of the list
pub all_from_set : (P : ℕ → Type 0) (ns : List ℕ) → AllByRecursion P (set_of_numbers ns) → AllByRecursion P ns
all_from_set P ns all = members_all P ns (λ n h. of_each P (set_of_numbers ns) n all (has-set_of_numbers n ns ∙ h))

-- ---- filters

above_filter : (p : ℕ → Bool) (n : ℕ) (xs : List ℕ) → Above n xs → Ascends xs → Above n (filter p xs)
above_filter p n [] h up = tt
above_filter p n (x ∷ xs) h up =
    cond_both (p x) (x ∷ filter p xs) (filter p xs) (Above n) (λ _. h)
    (λ _. above_filter p n xs (further xs (ascends_head x xs up)) (ascends_tail x xs up))
  where
    further : (ks : List ℕ) → Above x ks → Above n ks
    further [] a = tt
    further (k ∷ ks) a = omega (arith, h, a)

pub ascends_filter : (p : ℕ → Bool) (xs : List ℕ) → Ascends xs → Ascends (filter p xs)
ascends_filter p [] up = tt
ascends_filter p (x ∷ xs) up =
    let rest = ascends_filter p xs (ascends_tail x xs up) in
    cond_both (p x) (x ∷ filter p xs) (filter p xs) Ascends
    (λ _. ascends_cons x (filter p xs) (above_filter p x xs (ascends_head x xs up) (ascends_tail x xs up)) rest)
    (λ _. rest)

pub has-filter : (p : ℕ → Bool) (xs : List ℕ) (k : ℕ) → has (filter p xs) k ≡ (has xs k && p k)
has-filter p [] k = refl
has-filter p (x ∷ xs) k = elim (cases_Bool (eqb x k)) [
  | inl here ↦
      let is : x ≡ k = eqb-true x k here in
      elim (cases_Bool (p k)) [
        | inl passes ↦
            ap (λ b. has (cond b (x ∷ filter p xs) (filter p xs)) k) (ap p is ∙ passes) ∙ or_left (eqb x k) (has (filter p xs) k) here
            ∙ sym (λ i. (here i || has xs k) && passes i)
        | inr fails ↦
            ap (λ b. has (cond b (x ∷ filter p xs) (filter p xs)) k) (ap p is ∙ fails) ∙ has-filter p xs k
            ∙ ap (λ b. has xs k && b) fails ∙ and-false (has xs k)
            ∙ sym (λ i. (here i || has xs k) && fails i)
      ]
  | inr apart ↦
      cond_both (p x) (x ∷ filter p xs) (filter p xs) (λ ys. has ys k ≡ (has xs k && p k))
      (λ _. ap (λ b. b || has (filter p xs) k) apart ∙ has-filter p xs k) (λ _. has-filter p xs k)
      ∙ sym (ap (λ b. (b || has xs k) && p k) apart)
]
