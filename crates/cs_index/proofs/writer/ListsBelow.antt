-- The posting lists of trigrams in ascending order.
use Rattle.std.proofs.Common.{◌≡◌, ℕ, zero, suc, ◌+◌, ◌<◌, ◌≤◌, Bool, true, false, eqb, ltb, ◌||◌, ◌&&◌, List, [], ◌∷◌, ◌++◌, length, map, get_or, add-one, refl, sym, ap, subst, ◌∙◌, inl, inr, arith, append_assoc}
use Rattle.std.proofs.lemmas.Bool.{cases_lt, cases_order, eq-eqb, ne_eqb, lt-ltb, le-ltb}
use Rattle.std.proofs.Math.Bool.{or-false, and-true, and-false}
use Rattle.std.proofs.lemmas.List.{append-nil, map-append}
use Rattle.std.specs.List.{AllByRecursion}
use Rattle.cs_trigram.specs.Trigram.{has, Ascends}
use Rattle.cs_index.specs.Encoding.{PostingList}
use Rattle.cs_index.specs.AscendingIds.{next_after, AscendWithin}
use Rattle.cs_index.specs.Gathering.{trigrams_in, list_of, lists_from, lists_below}
use Rattle.cs_index.specs.Written.{AllBelow}
use Rattle.cs_trigram.proofs.SetLemmas.{Above, ascends_cons, ascends_head, ascends_tail, has-append}

-- ---- ascending ids

pub rise_behind : (name_count next : ℕ) (xs ys : List ℕ) → AscendWithin name_count next (xs ++ ys) →
    AscendWithin name_count (next_after next xs) ys
rise_behind name_count next [] ys up = up
rise_behind name_count next (x ∷ xs) ys up = rise_behind name_count (x + 1) xs ys up.2

pub rise_wider : (name_count limit next : ℕ) (ids : List ℕ) → name_count ≤ limit → AscendWithin name_count next ids →
    AscendWithin limit next ids
rise_wider name_count limit next [] le up = tt
rise_wider name_count limit next (id ∷ ids) le up = (
  up.0,
  omega (arith, up.1, le),
  rise_wider name_count limit
      (id + 1) ids le up.2,
)

-- ---- lists of ascending trigrams

below_more : (n : ℕ) (f : ℕ → List ℕ) → lists_below (n + 1) f ≡ lists_below n f ++ list_of n (f n)
unfolding lists_below
below_more n f = ap (λ m. lists_below m f) (add-one n)

-- the lists of consecutive trigrams
pub below_listed : (n : ℕ) (f : ℕ → List ℕ) (lists : List (List ℕ)) →
    ((k : ℕ) → k < length lists → get_or lists k [] ≡ f (n + k)) →
    lists_below n f ++ lists_from n lists ≡ lists_below (n + length lists) f
below_listed n f [] same = append-nil (lists_below n f) ∙ ap (λ m. lists_below m f) (let z : n ≡ n + 0 = omega arith in z)
below_listed n f (ids ∷ lists) same =
    let here : ids ≡ f n = same 0 (omega arith) ∙ ap f (let z : n + 0 ≡ n = omega arith in z) in
    sym (append_assoc (lists_below n f) (list_of n ids) (lists_from (n + 1) lists))
    ∙ ap (λ is. (lists_below n f ++ list_of n is) ++ lists_from (n + 1) lists) here
    ∙ ap (λ prefix. prefix ++ lists_from (n + 1) lists) (sym (below_more n f))
    ∙ below_listed (n + 1) f lists (λ k h. same (suc k) (omega (arith, h))
    ∙ ap f (let z : n + suc k ≡ n + 1 + k = omega arith in z))
    ∙ ap (λ m. lists_below m f) (let z : n + 1 + length lists ≡ n + length (ids ∷ lists) = omega arith in z)

-- empty lists are left out
pub listed_none : (g : ℕ) (lists : List (List ℕ)) → AllByRecursion (λ ids. ids ≡ []) lists → lists_from g lists ≡ []
listed_none g [] none = refl
listed_none g (ids ∷ lists) none = ap (λ is. list_of g is ++ lists_from (g + 1) lists) none.0 ∙ listed_none (g + 1) lists none.1

pub trigrams_of_list : (n g : ℕ) (ids : List ℕ) → g < n → AllBelow (list_of g ids) n
trigrams_of_list n g [] less = tt
trigrams_of_list n g (id ∷ ids) less = (less, tt)

pub below_append : (n : ℕ) (ps qs : List PostingList) → AllBelow ps n → AllBelow qs n → AllBelow (ps ++ qs) n
below_append n [] qs all more = more
below_append n (p ∷ ps) qs all more = (all.0, below_append n ps qs all.1 more)

pub all_further : (n m : ℕ) (ps : List PostingList) → n ≤ m → AllBelow ps n → AllBelow ps m
all_further n m [] le all = tt
all_further n m (p ∷ ps) le all = (omega (arith, all.0, le), all_further n m ps le all.1)

pub all_below : (n : ℕ) (f : ℕ → List ℕ) → AllBelow (lists_below n f) n
unfolding lists_below
all_below zero f = tt
all_below (suc n) f = below_append (suc n) (lists_below n f) (list_of n (f n))
    (all_further n (suc n) (lists_below n f) (omega arith) (all_below n f)) (trigrams_of_list (suc n) n (f n) (omega arith))

pub ascend_push : (lists : List PostingList) (p : PostingList) → Ascends (trigrams_in lists) → AllBelow lists p.0 →
    Ascends (trigrams_in (lists ++ p ∷ []))
ascend_push [] p up all = tt
ascend_push (q ∷ lists) p up all = ascends_cons q.0 (trigrams_in (lists ++ p ∷ []))
    (above_push q.0 lists (ascends_head q.0 (trigrams_in lists) up) all.0)
    (ascend_push lists p (ascends_tail q.0 (trigrams_in lists) up) all.1)
  where
    above_push : (n : ℕ) (ps : List PostingList) → Above n (trigrams_in ps) → n < p.0 → Above n (trigrams_in (ps ++ p ∷ []))
    above_push n [] h less = less
    above_push n (r ∷ ps) h less = h

ascends_list : (ps : List PostingList) (g : ℕ) (ids : List ℕ) → Ascends (trigrams_in ps) → AllBelow ps g →
    Ascends (trigrams_in (ps ++ list_of g ids))
ascends_list ps g [] up all = subst (λ qs. Ascends (trigrams_in qs)) (sym (append-nil ps)) up
ascends_list ps g (id ∷ ids) up all = ascend_push ps (g, id ∷ ids) up all

pub below_ascends : (n : ℕ) (f : ℕ → List ℕ) → Ascends (trigrams_in (lists_below n f))
unfolding lists_below
below_ascends zero f = tt
below_ascends (suc n) f = ascends_list (lists_below n f) n (f n) (below_ascends n f) (all_below n f)

-- each list is that of its trigram
lists_append : (f : ℕ → List ℕ) (ps qs : List PostingList) → ps ≡ map (λ g. (g, f g)) (trigrams_in ps) →
    qs ≡ map (λ g. (g, f g)) (trigrams_in qs) → ps ++ qs ≡ map (λ g. (g, f g)) (trigrams_in (ps ++ qs))
lists_append f ps qs one two =
    (λ i. one i ++ two i) ∙ sym (map-append (λ g. (g, f g)) (trigrams_in ps) (trigrams_in qs))
    ∙ ap (map (λ g. (g, f g))) (sym (map-append (λ (p : PostingList). p.0) ps qs))

list_is : (f : ℕ → List ℕ) (g : ℕ) (ids : List ℕ) → ids ≡ f g → list_of g ids ≡ map (λ h. (h, f h)) (trigrams_in (list_of g ids))
list_is f g [] is = refl
list_is f g (id ∷ ids) is = ap (λ (l : List ℕ). (g, l) ∷ []) is

pub below_is : (n : ℕ) (f : ℕ → List ℕ) → lists_below n f ≡ map (λ g. (g, f g)) (trigrams_in (lists_below n f))
unfolding lists_below
below_is zero f = refl
below_is (suc n) f = lists_append f (lists_below n f) (list_of n (f n)) (below_is n f) (list_is f n (f n) refl)

-- a trigram has a list exactly if it has ids
abbrev pub some_ids : List ℕ → Bool
some_ids [] = false
some_ids (id ∷ ids) = true

has_list : (g h : ℕ) (ids : List ℕ) → has (trigrams_in (list_of g ids)) h ≡ (some_ids ids && eqb g h)
has_list g h [] = refl
has_list g h (id ∷ ids) = or-false (eqb g h)

pub has_below : (n : ℕ) (f : ℕ → List ℕ) (g : ℕ) → has (trigrams_in (lists_below n f)) g ≡ (ltb g n && some_ids (f g))
unfolding lists_below
has_below zero f g = sym (ap (λ b. b && some_ids (f g)) (le-ltb g 0 (omega arith)))
has_below (suc n) f g =
    ap (λ ks. has ks g) (map-append (λ (p : PostingList). p.0) (lists_below n f) (list_of n (f n)))
    ∙ has-append g (trigrams_in (lists_below n f)) (trigrams_in (list_of n (f n)))
    ∙ (λ i. has_below n f g i || has_list n g (f n) i)
    ∙ elim (cases_order g n) [
      | inl here ↦
          let at : f n ≡ f g = ap f (sym here) in
          (λ i. (le-ltb g n (omega (arith, here)) i && some_ids (f g)) || (some_ids (at i) && eq-eqb n g (sym here) i))
          ∙ and-true (some_ids (f g))
          ∙ ap (λ b. b && some_ids (f g)) (sym (lt-ltb g (suc n) (omega (arith, here))))
      | inr other ↦ elim other [
        | inl less ↦
            (λ i. (lt-ltb g n less i && some_ids (f g)) || (some_ids (f n) && ne_eqb n g (λ e. absurd (omega
            (arith, e, less))) i))
            ∙ ap (λ b. some_ids (f g) || b) (and-false (some_ids (f n))) ∙ or-false (some_ids (f g))
            ∙ ap (λ b. b && some_ids (f g)) (sym (lt-ltb g (suc n) (omega (arith, less))))
        | inr more ↦
            (λ i. (le-ltb g n (omega (arith, more)) i && some_ids (f g)) || (some_ids (f n) && ne_eqb n g (λ e. absurd (omega
            (arith, e, more))) i))
            ∙ and-false (some_ids (f n))
            ∙ ap (λ b. b && some_ids (f g)) (sym (le-ltb g (suc n) (omega (arith, more))))
      ]
    ]

-- ---- consecutive lists

pub list_some : (g : ℕ) (ids : List ℕ) → 0 < length ids → list_of g ids ≡ (g, ids) ∷ []
list_some g [] some = absurd (omega (arith, some))
list_some g (id ∷ ids) some = refl

pub listed_behind : (P : PostingList → Type 0) (g : ℕ) (ids : List ℕ) (ps : List PostingList) →
    AllByRecursion P (list_of g ids ++ ps) → AllByRecursion P ps
listed_behind P g [] ps all = all
listed_behind P g (id ∷ ids) ps all = all.1

pub each_list : (P : List ℕ → Type 0) (lists : List (List ℕ)) →
    ((k : ℕ) → k < length lists → P (get_or lists k [])) → AllByRecursion P lists
each_list P [] each = tt
each_list P (ids ∷ lists) each = (each 0 (omega arith), each_list P lists (λ k h. each (suc k) (omega (arith, h))))

pub list_each : {X : Type 0} (P : X → Type 0) (xs : List X) (i : ℕ) (d : X) → i < length xs → AllByRecursion P xs →
    P (get_or xs i d)
list_each P [] i d h all = absurd (omega (arith, h))
list_each P (x ∷ xs) zero d h all = all.0
list_each P (x ∷ xs) (suc i) d h all = list_each P xs i d (omega (arith, h)) all.1

pub listed_within : (limit n : ℕ) (lists : List (List ℕ)) →
    ((k : ℕ) → k < length lists → limit ≤ n + k → get_or lists k [] ≡ []) →
    AllByRecursion (λ (p : PostingList). p.0 < limit) (lists_from n lists)
listed_within limit n [] none = tt
listed_within limit n (ids ∷ lists) none =
    let rest = listed_within limit (n + 1) lists (λ k h past. none (suc k) (omega (arith, h)) (omega (arith, past))) in
    elim (cases_lt n limit) [
      | inl less ↦ below_append limit (list_of n ids) (lists_from (n + 1) lists) (trigrams_of_list limit n ids less) rest
      | inr past ↦ subst (λ is. AllByRecursion (λ (p : PostingList). p.0 < limit) (list_of n is ++ lists_from (n + 1) lists))
          (sym (none 0 (omega arith) (omega (arith, past)))) rest
    ]

pub below_none : (f : ℕ → List ℕ) → lists_below 0 f ≡ []
unfolding lists_below
below_none f = refl
