-- Sets of characters: the members of ranges, merging of sorted ranges, the gaps between ranges, and uniqueness of
-- canonical ranges.
use Rattle.std.proofs.Common.{◌≡◌, ℕ, zero, suc, ◌+◌, ◌-◌, ◌<◌, ◌≤◌, ◌⊎◌, inl, inr, Bool, true, false, ◌&&◌, ◌||◌, not, List, [], ◌∷◌, ◌++◌, length, take, drop, get_or, max, refl, sym, ap, ap₂, subst, true≢false, ◌∙◌, arith}
use Rattle.std.specs.Prelude.{nat_le, nat_lt, All, Some, slice_get, if◌then◌else◌}
use Rattle.std.specs.Char.{scalar_index}
use Rattle.std.proofs.Math.Bool.{and-false, and-or_distrib_left, or-false, or_assoc}
use Rattle.std.specs.List.{AllAdjacentBelow}
use Rattle.std.proofs.lemmas.List.Elements.{All-push}
use Rattle.std.specs.List.Sorted.{IsNonDecreasingBy, IsPermutation, IsPartitionedBy, IsPartitionPoint}
use Rattle.std.proofs.lemmas.Bool.Decides.{nat_tests}
use Rattle.std.proofs.lemmas.List.Folds.{list_any-append}
use Rattle.std.proofs.lemmas.List.Sorted.{list_any-IsPermutation, IsNonDecreasingBy-from_all_adjacent, IsPartitionedBy-ltb}
use Rattle.std.proofs.lemmas.Bool.{le-leb, ltb-true, cases_lt}
use Rattle.std.proofs.lemmas.Option.{slice_get_within, get_or_from_slice_get}
use Rattle.std.proofs.lemmas.List.{take_more, drop_more, drop_all, append_assoc, append-nil}
use native.Mathlib.Numerals.{unary_clauses}
use Rattle.cs_syntax.specs.Ranges.{is_in_ranges}
use Rattle.cs_syntax.specs.Characters.{is_scalar, has_char}
use Rattle.cs_syntax.specs.CharRanges.{IsCharRange, AreCanonicalFrom, AreCanonical}
use Rattle.cs_syntax.specs.ScalarIndex.{nth_scalar, scalar_ceil, scalar_floor}

-- `is_scalar` by cases
pub scalar_cases : (c : ℕ) → ((is_scalar c ≡ true) × ((c < 55296) ⊎ ((57344 ≤ c) × (c ≤ 1114111)))) ⊎
    ((is_scalar c ≡ false) × (((55296 ≤ c) × (c < 57344)) ⊎ (1114111 < c)))
scalar_cases c = grind (arith, nat_tests)

-- the number is in the range
abbrev pub is_in : ℕ × ℕ → ℕ → Bool
is_in r c = nat_le r.0 c && nat_le c r.1

pub has_char-cons : (r : ℕ × ℕ) (rs : List (ℕ × ℕ)) (c : ℕ) → has_char (r ∷ rs) c ≡ ((is_scalar c && is_in r c) || has_char rs c)
has_char-cons r rs c = and-or_distrib_left (is_scalar c) (is_in r c) (is_in_ranges rs c)

pub has_char-append : (xs ys : List (ℕ × ℕ)) (c : ℕ) → has_char (xs ++ ys) c ≡ (has_char xs c || has_char ys c)
has_char-append xs ys c =
    ap (λ b. is_scalar c && b) (list_any-append (λ r. nat_le r.0 c && nat_le c r.1) xs ys)
    ∙ and-or_distrib_left (is_scalar c) (is_in_ranges xs c) (is_in_ranges ys c)

pub has_char-push : (xs : List (ℕ × ℕ)) (r : ℕ × ℕ) (c : ℕ) → has_char (xs ++ r ∷ []) c ≡ (has_char xs c || (is_scalar c && is_in r c))
has_char-push xs r c =
    has_char-append xs (r ∷ []) c ∙ ap (λ b. has_char xs c || (is_scalar c && b)) (or-false (is_in r c))

pub has_char-more : (xs : List (ℕ × ℕ)) (i c : ℕ) → i < length xs → has_char (take (i + 1) xs) c
    ≡ (has_char (take i xs) c || (is_scalar c && is_in (get_or xs i (0, 0)) c))
has_char-more xs i c h = ap (λ l. has_char l c) (take_more xs i (0, 0) h) ∙ has_char-push (take i xs) (get_or xs i (0, 0)) c

pub has_char-IsPermutation : (xs ys : List (ℕ × ℕ)) (c : ℕ) → IsPermutation xs ys → has_char ys c ≡ has_char xs c
has_char-IsPermutation xs ys c h = ap (λ b. is_scalar c && b) (sym (list_any-IsPermutation (λ r. nat_le r.0 c && nat_le c r.1) xs ys h))

-- moving the ends of a range inwards to characters keeps its characters
pub cut_same : (low high c : ℕ) → (is_scalar c && is_in (scalar_ceil low, scalar_floor high) c) ≡ (is_scalar c && is_in (low, high) c)
cut_same low high c = grind (arith, nat_tests)

pub cut_away : (low high c : ℕ) → scalar_floor high < scalar_ceil low → (is_scalar c && is_in (low, high) c) ≡ false
cut_away low high c h = grind (arith, nat_tests)

pub cut_range : (low high : ℕ) → scalar_ceil low ≤ scalar_floor high → IsCharRange (scalar_ceil low, scalar_floor high)
cut_range low high h = (h, grind (arith, nat_tests), grind (arith, nat_tests))

-- the ranges have the characters of the given pairs
abbrev pub AreCut : List (ℕ × ℕ) → List (ℕ × ℕ) → Type 0
AreCut ranges given = All IsCharRange ranges × ((c : ℕ) → has_char ranges c ≡ has_char given c)

pub AreCut-range : (ranges more given : List (ℕ × ℕ)) (i low high : ℕ) (pair : ℕ × ℕ) → AreCut ranges (take i given) →
    i < length given → pair ≡ get_or given i (0, 0)
    → low ≡ scalar_ceil pair.0 → high ≡ scalar_floor pair.1 → low ≤ high → more ≡ ranges ++ (low, high) ∷ [] →
    AreCut more (take (i + 1) given)
AreCut-range ranges more given i low high pair cut within is low-is high-is le pushed =
    subst (λ xs. AreCut xs (take (i + 1) given)) (sym (pushed ∙ ap₂ (λ a b. ranges ++ (a, b) ∷ []) low-is high-is)) (
      All-push IsCharRange ranges _ cut.0 (cut_range pair.0 pair.1
          (subst (λ a. a ≤ scalar_floor pair.1) low-is (subst (λ b. low ≤ b) high-is le))),
      λ c.
          has_char-push ranges _ c
          ∙ ap₂ (λ a b. a || b) (cut.1 c) (cut_same pair.0 pair.1 c ∙ ap (λ r. is_scalar c && is_in r c) is)
          ∙ sym (has_char-more given i c within),
    )

pub AreCut-none : (ranges given : List (ℕ × ℕ)) (i low high : ℕ) (pair : ℕ × ℕ) → AreCut ranges (take i given) →
    i < length given → pair ≡ get_or given i (0, 0)
    → low ≡ scalar_ceil pair.0 → high ≡ scalar_floor pair.1 → high < low → AreCut ranges (take (i + 1) given)
AreCut-none ranges given i low high pair cut within is low-is high-is lt =
    let none = cut_away pair.0 pair.1 in (
      cut.0,
      λ c.
          cut.1 c
          ∙ sym (or-false (has_char (take i given) c))
          ∙ ap (λ b. has_char (take i given) c || b)
          (sym (ap (λ r. is_scalar c && is_in r c) (sym is)
          ∙ none c (subst (λ a. scalar_floor pair.1 < a) low-is (subst (λ b. b < low) high-is lt))))
          ∙ sym (has_char-more given i c within),
    )

-- the last range and those after it, with overlapping and adjacent ones merged
abbrev pub joined_to : ℕ × ℕ → List (ℕ × ℕ) → List (ℕ × ℕ)
joined_to last [] = last ∷ []
joined_to last (range ∷ ranges) =
    if nat_le (scalar_index range.0) (scalar_index last.1 + 1) then joined_to (last.0, max last.1 range.1) ranges
    else last ∷ joined_to range ranges

-- the ranges are sorted by their first character, which is at least the number
abbrev pub RiseFrom : ℕ → List (ℕ × ℕ) → Type 0
RiseFrom least [] = Unit {0}
RiseFrom least (range ∷ ranges) = (least ≤ range.0) × IsCharRange range × RiseFrom range.0 ranges

pub rises : (least : ℕ) (ranges : List (ℕ × ℕ)) → All IsCharRange ranges →
    IsNonDecreasingBy (λ (range : ℕ × ℕ). range.0) ranges → (0 < length ranges → least ≤ (get_or ranges 0 (0, 0)).0) →
    RiseFrom least ranges
rises least [] each sorted first = tt
rises least (range ∷ ranges) each sorted first = (
  first (omega arith),
  each 0 (0, 0) (omega arith),
  rises range.0 ranges (λ k d h. each (suc k) d (omega arith)) (λ i j d le h. sorted (suc i) (suc j) d (omega arith) (omega arith))
      (λ h. sorted 0 1 (0, 0) (omega arith) (omega arith)),
)

larger_range : (last range : ℕ × ℕ) → IsCharRange last → IsCharRange range → last.0 ≤ range.0 → IsCharRange (last.0, max last.1 range.1)
larger_range last range h g le = (omega (arith, h.0), h.1, grind (arith, h.2, g.2))

-- merging two ranges that overlap or are adjacent keeps their characters
meeting : (last range : ℕ × ℕ) (c : ℕ) → IsCharRange last → IsCharRange range → last.0 ≤ range.0 → scalar_index range.0
    ≤ scalar_index last.1 + 1 →
    (is_scalar c && is_in (last.0, max last.1 range.1) c) ≡ ((is_scalar c && is_in last c) || (is_scalar c && is_in range c))
meeting last range c h g le near = grind (arith, nat_tests, scalar_cases c, scalar_cases last.1, scalar_cases range.0, h.0, h.2, g.0, g.1)

joined-near : (last range : ℕ × ℕ) (ranges : List (ℕ × ℕ)) → scalar_index range.0 ≤ scalar_index last.1 + 1 →
    joined_to last (range ∷ ranges) ≡ joined_to (last.0, max last.1 range.1) ranges
joined-near last range ranges near = grind (arith, nat_tests)

joined-far : (last range : ℕ × ℕ) (ranges : List (ℕ × ℕ)) → scalar_index last.1 + 1 < scalar_index range.0 →
    joined_to last (range ∷ ranges) ≡ last ∷ joined_to range ranges
joined-far last range ranges far = grind (arith, nat_tests)

RiseFrom-lower : (low high : ℕ) (ranges : List (ℕ × ℕ)) → low ≤ high → RiseFrom high ranges → RiseFrom low ranges
RiseFrom-lower low high [] le h = tt
RiseFrom-lower low high (range ∷ ranges) le h = (omega (arith, h.0), h.1, h.2)

pub joined_are_canonical : (least : ℕ) (last : ℕ × ℕ) (ranges : List (ℕ × ℕ)) → least ≤ scalar_index last.0 →
    IsCharRange last → RiseFrom last.0 ranges → AreCanonicalFrom least (joined_to last ranges)
joined_are_canonical least last [] from is rise = (from, is, tt)
joined_are_canonical least last (range ∷ ranges) from is rise =
    let P : List (ℕ × ℕ) → Type 0 = λ xs. AreCanonicalFrom least xs in
    elim (cases_lt (scalar_index last.1 + 1) (scalar_index range.0)) [
      | inl far ↦
          subst P (sym (joined-far last range ranges far))
          (from, is, joined_are_canonical (scalar_index last.1 + 2) range ranges (omega arith) rise.1 rise.2)
      | inr near ↦
          subst P (sym (joined-near last range ranges near))
          (joined_are_canonical least (last.0, max last.1 range.1) ranges from
          (larger_range last range is rise.1 rise.0) (RiseFrom-lower last.0 range.0 ranges rise.0 rise.2))
    ]

pub joined_have : (last : ℕ × ℕ) (ranges : List (ℕ × ℕ)) (c : ℕ) → IsCharRange last → RiseFrom last.0 ranges →
    has_char (joined_to last ranges) c ≡ has_char (last ∷ ranges) c
joined_have last [] c is rise = refl
joined_have last (range ∷ ranges) c is rise =
    elim (cases_lt (scalar_index last.1 + 1) (scalar_index range.0)) [
      | inl far ↦
          ap (λ xs. has_char xs c) (joined-far last range ranges far)
          ∙ has_char-cons last (joined_to range ranges) c
          ∙ ap (λ b. (is_scalar c && is_in last c) || b) (joined_have range ranges c rise.1 rise.2)
          ∙ sym (has_char-cons last (range ∷ ranges) c)
      | inr near ↦
          ap (λ xs. has_char xs c) (joined-near last range ranges near)
          ∙ joined_have (last.0, max last.1 range.1) ranges c (larger_range last range is rise.1 rise.0)
          (RiseFrom-lower last.0 range.0 ranges rise.0 rise.2)
          ∙ has_char-cons (last.0, max last.1 range.1) ranges c
          ∙ ap (λ b. b || has_char ranges c) (meeting last range c is rise.1 rise.0 near)
          ∙ or_assoc (is_scalar c && is_in last c) (is_scalar c && is_in range c) (has_char ranges c)
          ∙ ap (λ b. (is_scalar c && is_in last c) || b) (sym (has_char-cons range ranges c))
          ∙ sym (has_char-cons last (range ∷ ranges) c)
    ]

-- the loop invariant of merging
abbrev pub Joins : List (ℕ × ℕ) → ℕ × ℕ → List (ℕ × ℕ) → List (ℕ × ℕ) → Type 0
Joins done last ranges whole = (done ++ joined_to last ranges ≡ whole) × IsCharRange last × RiseFrom last.0 ranges

pub Joins-near : (done : List (ℕ × ℕ)) (last : ℕ × ℕ) (ranges whole : List (ℕ × ℕ)) (i p q m : ℕ) (range new : ℕ × ℕ) →
    Joins done last (drop i ranges) whole →
    i < length ranges → range ≡ get_or ranges i (0, 0) → p ≡ scalar_index range.0 → q ≡ scalar_index last.1 →
    p ≤ q + 1 → m ≡ max last.1 range.1 → new ≡ (last.0, m) →
    Joins done new (drop (i + 1) ranges) whole
Joins-near done last ranges whole i p q m range new h inside is index_range index_last near most is_new =
    let e : drop i ranges ≡ range ∷ drop (i + 1) ranges = drop_more ranges i (0, 0) inside ∙ ap (λ r. r ∷ drop (i + 1) ranges) (sym is) in
    let g : Joins done last (range ∷ drop (i + 1) ranges) whole = subst (λ rest. Joins done last rest whole) e h in
    let n : (last.0, max last.1 range.1) ≡ new = ap (λ (k : ℕ). (last.0, k)) (sym most) ∙ sym is_new in
    let P : ℕ × ℕ → Type 0 = λ r. Joins done r (drop (i + 1) ranges) whole in
    subst P n (
      ap (λ rest. done ++ rest) (sym (joined-near last range (drop (i + 1) ranges) (omega arith))) ∙ g.0,
      larger_range last range g.1 g.2.1 g.2.0,
      RiseFrom-lower last.0 range.0 _ g.2.0 g.2.2,
    )

pub Joins-far : (done : List (ℕ × ℕ)) (last : ℕ × ℕ) (ranges whole : List (ℕ × ℕ)) (i p q : ℕ) (range : ℕ × ℕ)
    (more : List (ℕ × ℕ)) (new : ℕ × ℕ) → Joins done last (drop i ranges) whole →
    i < length ranges → range ≡ get_or ranges i (0, 0) → p ≡ scalar_index range.0 → q ≡ scalar_index last.1 →
    q + 1 < p → more ≡ done ++ last ∷ [] → new ≡ range →
    Joins more new (drop (i + 1) ranges) whole
Joins-far done last ranges whole i p q range more new h inside is index_range index_last far is_more is_new =
    let e : drop i ranges ≡ range ∷ drop (i + 1) ranges = drop_more ranges i (0, 0) inside ∙ ap (λ r. r ∷ drop (i + 1) ranges) (sym is) in
    let g : Joins done last (range ∷ drop (i + 1) ranges) whole = subst (λ rest. Joins done last rest whole) e h in
    let P : List (ℕ × ℕ) → Type 0 = λ xs. Joins xs new (drop (i + 1) ranges) whole in
    let Q : ℕ × ℕ → Type 0 = λ r. Joins (done ++ last ∷ []) r (drop (i + 1) ranges) whole in
    subst P (sym is_more) (subst Q (sym is_new) (
      append_assoc done (last ∷ []) (joined_to range (drop (i + 1) ranges))
          ∙ ap (λ rest. done ++ rest) (sym (joined-far last range (drop (i + 1) ranges) (omega arith))) ∙ g.0,
      g.2.1,
      g.2.2,
    ))

-- repeating the first range adds no character
pub has_char-first : (first : ℕ × ℕ) (ranges : List (ℕ × ℕ)) (c : ℕ) → 0 < length ranges → first
    ≡ get_or ranges 0 (0, 0) → has_char (first ∷ ranges) c ≡ has_char ranges c
has_char-first first [] c some is = absurd (omega arith)
has_char-first first (range ∷ ranges) c some is =
    has_char-cons first (range ∷ ranges) c
    ∙ ap (λ b. (is_scalar c && is_in first c) || b) (has_char-cons range ranges c)
    ∙ ap (λ r. (is_scalar c && is_in r c) || ((is_scalar c && is_in range c) || has_char ranges c)) is
    ∙ or_again (is_scalar c && is_in range c) (has_char ranges c)
    ∙ sym (has_char-cons range ranges c)
  where
    or_again : (x y : Bool) → (x || (x || y)) ≡ (x || y)
    or_again true y = refl
    or_again false y = refl

pub Joins-end : (done : List (ℕ × ℕ)) (last : ℕ × ℕ) (ranges whole more : List (ℕ × ℕ)) (i : ℕ) → Joins done last (drop i ranges) whole →
    length ranges ≤ i → more ≡ done ++ last ∷ [] → more ≡ whole
Joins-end done last ranges whole more i h past is =
    is ∙ ap (λ rest. done ++ joined_to last rest) (sym (drop_all i ranges past)) ∙ h.0

pub first_of : (ranges : List (ℕ × ℕ)) (first : ℕ × ℕ) → Some first ≡ slice_get ranges 0 →
    (0 < length ranges) × (first ≡ get_or ranges 0 (0, 0))
first_of ranges first e = (slice_get_within ranges 0 first (sym e), sym (get_or_from_slice_get ranges 0 first (0, 0) (sym e)))

-- merging from the first range on gives canonical ranges with the same characters
pub joined_all : (ranges : List (ℕ × ℕ)) (first : ℕ × ℕ) → Some first ≡ slice_get ranges 0 → All IsCharRange ranges →
    IsNonDecreasingBy (λ (range : ℕ × ℕ). range.0) ranges →
    IsCharRange first × RiseFrom first.0 ranges × AreCanonical (joined_to first ranges) ×
    ((c : ℕ) → has_char (joined_to first ranges) c ≡ has_char ranges c)
joined_all ranges first e each sorted =
    let f = first_of ranges first e in
    let is : IsCharRange first = subst IsCharRange (sym f.1) (each 0 (0, 0) f.0) in
    let rise = rises first.0 ranges each sorted (λ _. omega (arith, ap (λ (r : ℕ × ℕ). r.0) f.1)) in (
      is,
      rise,
      joined_are_canonical 0 first ranges (omega arith) is rise,
      λ c. joined_have first ranges c is rise
          ∙ has_char-first first ranges c f.0 f.1,
    )

-- the gaps between the ranges, from the character with the index `next` on
abbrev pub gaps_from : ℕ → List (ℕ × ℕ) → List (ℕ × ℕ)
gaps_from next [] = if nat_lt next 1112064 then (nth_scalar next, 1114111) ∷ [] else []
gaps_from next (range ∷ ranges) =
    if nat_lt next (scalar_index range.0)
    then (nth_scalar next, nth_scalar (scalar_index range.0 - 1)) ∷ gaps_from (scalar_index range.1 + 1) ranges
    else gaps_from (scalar_index range.1 + 1) ranges

gap : (next start : ℕ) → next < start → start ≤ 1112064 → IsCharRange (nth_scalar next, nth_scalar (start - 1))
gap next start h le = (grind (arith, nat_tests), grind (arith, nat_tests), grind (arith, nat_tests))

index_of_gap : (p : ℕ) → p < 1112064 → scalar_index (nth_scalar p) ≡ p
index_of_gap p h = grind (arith, nat_tests)

-- the gap between two indices has the characters between them
gap_has : (next start c : ℕ) → next < start → start ≤ 1112064 →
    (is_scalar c && is_in (nth_scalar next, nth_scalar (start - 1)) c)
    ≡ (is_scalar c && (nat_le next (scalar_index c) && nat_lt (scalar_index c) start))
gap_has next start c h le = grind (arith, nat_tests)

AreCanonicalFrom-lower : (low high : ℕ) (ranges : List (ℕ × ℕ)) → low ≤ high → AreCanonicalFrom high ranges → AreCanonicalFrom low ranges
AreCanonicalFrom-lower low high [] le h = tt
AreCanonicalFrom-lower low high (range ∷ ranges) le h = (omega (arith, h.0), h.1, h.2)

-- with the first range or without it, the ranges are canonical
chosen_canonical : (b : Bool) (least : ℕ) (range : ℕ × ℕ) (ranges : List (ℕ × ℕ)) →
    (b ≡ true → AreCanonicalFrom least (range ∷ ranges)) → AreCanonicalFrom least ranges →
    AreCanonicalFrom least (if b then range ∷ ranges else ranges)
chosen_canonical true least range ranges h g = h refl
chosen_canonical false least range ranges h g = g

gaps_are_canonical : (least next high : ℕ) (ranges : List (ℕ × ℕ)) → least ≤ next → next ≤ high →
    AreCanonicalFrom high ranges → AreCanonicalFrom least (gaps_from next ranges)
gaps_are_canonical least next high [] from le h =
    chosen_canonical (nat_lt next 1112064) least (nth_scalar next, 1114111) []
    (λ e. (grind (arith, nat_tests), gap next 1112064 (ltb-true _ _ e) (omega arith), tt)) tt
gaps_are_canonical least next high (range ∷ ranges) from le h =
    let order : scalar_index range.0 ≤ scalar_index range.1 = omega (arith, h.1.0) in
    let top : scalar_index range.0 ≤ 1112064 = grind (arith, scalar_cases range.0, h.1.1) in
    let start = scalar_index range.0 in
    chosen_canonical (nat_lt next start) least (nth_scalar next, nth_scalar (start - 1)) (gaps_from (scalar_index range.1 + 1) ranges)
    (λ e. let lt = ltb-true _ _ e in (
      omega (arith, index_of_gap next (omega (arith, lt, top))),
      gap next start lt top,
      gaps_are_canonical (scalar_index (nth_scalar (start - 1)) + 2) (scalar_index range.1 + 1) (scalar_index range.1 + 2) ranges
          (omega (arith, order, lt, index_of_gap (start - 1) (omega (arith, lt, top)))) (omega arith) h.2,
    ))
    (gaps_are_canonical least (scalar_index range.1 + 1) (scalar_index range.1 + 2) ranges
    (omega (arith, from, le, h.0, order)) (omega arith) h.2)

-- no member has an index below `least`
none_below : (least : ℕ) (ranges : List (ℕ × ℕ)) (c : ℕ) → AreCanonicalFrom least ranges → scalar_index c < least →
    is_in_ranges ranges c ≡ false
none_below least [] c h below = refl
none_below least (range ∷ ranges) c h below =
    let later = none_below (scalar_index range.1 + 2) ranges c h.2 (omega (arith, h.0, h.1.0)) in
    let out : is_in range c ≡ false = grind (arith, nat_tests, h.0) in
    ap (λ b. b || is_in_ranges ranges c) out ∙ later

-- membership in a range, by indices
range_has : (range : ℕ × ℕ) (c : ℕ) → IsCharRange range → is_scalar c ≡ true → is_in range c
    ≡ (nat_le (scalar_index range.0) (scalar_index c) && nat_le (scalar_index c) (scalar_index range.1))
range_has range c is scalar = grind (arith, nat_tests, scalar_cases c, scalar_cases range.0, scalar_cases range.1, is.1, is.2)

-- Both cases, with a gap and without one. s: c is a character; p: its index; x: a later range has it.
gap_step : (s x : Bool) (next start end p : ℕ) → next < start → start ≤ end → (x ≡ true → end + 2 ≤ p) →
    ((s && (nat_le next p && nat_lt p start)) || (s && (nat_le (end + 1) p && not x)))
    ≡ (s && (nat_le next p && not ((nat_le start p && nat_le p end) || x)))
gap_step true true next start end p lt le h = let far = h refl in grind (arith, nat_tests)
gap_step true false next start end p lt le h = grind (arith, nat_tests)
gap_step false x next start end p lt le h = refl

no_gap_step : (s x : Bool) (next start end p : ℕ) → start ≤ next → next ≤ start → start ≤ end → (x ≡ true → end + 2 ≤ p) →
    (s && (nat_le (end + 1) p && not x)) ≡ (s && (nat_le next p && not ((nat_le start p && nat_le p end) || x)))
no_gap_step true true next start end p a b le h = let far = h refl in grind (arith, nat_tests)
no_gap_step true false next start end p a b le h = grind (arith, nat_tests)
no_gap_step false x next start end p a b le h = refl

-- a condition under `is_scalar` can be replaced by one that agrees on characters
of_chars : (s x y z : Bool) (f : Bool → Bool) → (s ≡ true → x ≡ y) → (s && (z && f x)) ≡ (s && (z && f y))
of_chars true x y z f h = ap (λ b. z && f b) (h refl)
of_chars false x y z f h = refl

gaps_from-some : (next : ℕ) (range : ℕ × ℕ) (ranges : List (ℕ × ℕ)) → next < scalar_index range.0 →
    gaps_from next (range ∷ ranges) ≡ (nth_scalar next, nth_scalar (scalar_index range.0 - 1)) ∷ gaps_from (scalar_index range.1 + 1) ranges
gaps_from-some next range ranges lt = grind (arith, nat_tests)

gaps_from-none : (next : ℕ) (range : ℕ × ℕ) (ranges : List (ℕ × ℕ)) → scalar_index range.0 ≤ next →
    gaps_from next (range ∷ ranges) ≡ gaps_from (scalar_index range.1 + 1) ranges
gaps_from-none next range ranges le = grind (arith, nat_tests)

gaps_end-some : (next : ℕ) → next < 1112064 → gaps_from next [] ≡ (nth_scalar next, 1114111) ∷ []
gaps_end-some next lt = grind (arith, nat_tests)

gaps_end-none : (next : ℕ) → 1112064 ≤ next → gaps_from next [] ≡ []
gaps_end-none next le = grind (arith, nat_tests)

last_index : (c : ℕ) → is_scalar c ≡ true → scalar_index c < 1112064
last_index c h = grind (arith, scalar_cases c)

end_step : (s : Bool) (next p : ℕ) → (s ≡ true → p < 1112064) → (s && (nat_le next p && nat_lt p 1112064)) ≡ (s && (nat_le next p && true))
end_step true next p h = let in_all = h refl in grind (arith, nat_tests)
end_step false next p h = refl

none_step : (s : Bool) (next p : ℕ) → (s ≡ true → p < 1112064) → 1112064 ≤ next → (s && false) ≡ (s && (nat_le next p && true))
none_step true next p h le = let in_all = h refl in grind (arith, nat_tests)
none_step false next p h le = refl

-- the gaps have exactly the characters from the index on that are in no range
gaps_have : (next high : ℕ) (ranges : List (ℕ × ℕ)) (c : ℕ) → next ≤ high → AreCanonicalFrom high ranges →
    has_char (gaps_from next ranges) c ≡ (is_scalar c && (nat_le next (scalar_index c) && not (is_in_ranges ranges c)))
gaps_have next high [] c le h =
    elim (cases_lt next 1112064) [
      | inl lt ↦
          ap (λ xs. has_char xs c) (gaps_end-some next lt)
          ∙ ap (λ b. is_scalar c && b) (or-false (is_in (nth_scalar next, 1114111) c))
          ∙ gap_has next 1112064 c lt (omega arith)
          ∙ end_step (is_scalar c) next (scalar_index c) (last_index c)
      | inr past ↦
          ap (λ xs. has_char xs c) (gaps_end-none next past) ∙ none_step (is_scalar c) next (scalar_index c) (last_index c) past
    ]
gaps_have next high (range ∷ ranges) c le h =
    let start = scalar_index range.0 in
    let end = scalar_index range.1 in
    let order : start ≤ end = omega (arith, h.1.0) in
    let top : start ≤ 1112064 = grind (arith, scalar_cases range.0, h.1.1) in
    let later : is_in_ranges ranges c ≡ true → end + 2 ≤ scalar_index c = λ e.
    elim (cases_lt (scalar_index c) (end + 2)) [
      | inl below ↦ absurd (true≢false (sym e ∙ none_below (end + 2) ranges c h.2 below))
      | inr far ↦ far
    ] in
    let by_indices = of_chars (is_scalar c) (is_in range c)
    (nat_le start (scalar_index c) && nat_le (scalar_index c) end) (nat_le next (scalar_index c))
    (λ b. not (b || is_in_ranges ranges c)) (range_has range c h.1) in
    let rest = gaps_have (end + 1) (end + 2) ranges c (omega arith) h.2 in
    elim (cases_lt next start) [
      | inl lt ↦
          ap (λ xs. has_char xs c) (gaps_from-some next range ranges lt)
          ∙ has_char-cons (nth_scalar next, nth_scalar (start - 1)) (gaps_from (end + 1) ranges) c
          ∙ ap₂ ◌||◌ (gap_has next start c lt top) rest
          ∙ gap_step (is_scalar c) (is_in_ranges ranges c) next start end (scalar_index c) lt order later
          ∙ sym by_indices
      | inr at ↦
          ap (λ xs. has_char xs c) (gaps_from-none next range ranges at)
          ∙ rest
          ∙ no_gap_step (is_scalar c) (is_in_ranges ranges c) next start end (scalar_index c) at (omega (arith, le, h.0)) order later
          ∙ sym by_indices
    ]

others : (s x : Bool) → (s && (true && not x)) ≡ (s && not (s && x))
others true x = refl
others false x = refl

-- the gaps of canonical ranges are canonical, and have exactly the other characters
pub all_gaps : (ranges : List (ℕ × ℕ)) → AreCanonical ranges →
    AreCanonical (gaps_from 0 ranges) × ((c : ℕ) → has_char (gaps_from 0 ranges) c ≡ (is_scalar c && not (has_char ranges c)))
all_gaps ranges h = (
  gaps_are_canonical 0 0 0 ranges (omega arith) (omega arith) h,
  λ c. gaps_have 0 0 ranges c (omega arith) h
      ∙ ap (λ b. is_scalar c && (b && not (is_in_ranges ranges c))) (le-leb 0 (scalar_index c) (omega arith))
      ∙ others (is_scalar c) (is_in_ranges ranges c),
)

-- the loop invariant of the complement
abbrev pub LeavesGaps : List (ℕ × ℕ) → ℕ → List (ℕ × ℕ) → List (ℕ × ℕ) → Type 0
LeavesGaps done next ranges whole = (done ++ gaps_from next ranges ≡ whole) × AreCanonicalFrom next ranges

pub LeavesGaps-at : (done ranges whole : List (ℕ × ℕ)) (next i : ℕ) → LeavesGaps done next (drop i ranges) whole → i < length ranges →
    (next ≤ scalar_index (get_or ranges i (0, 0)).0) × (scalar_index (get_or ranges i (0, 0)).0 < 1112064) × LeavesGaps
    done next (get_or ranges i (0, 0) ∷ drop (i + 1) ranges) whole
LeavesGaps-at done ranges whole next i h inside =
    let g : LeavesGaps done next (get_or ranges i (0, 0) ∷ drop (i + 1) ranges) whole =
    subst (λ rest. LeavesGaps done next rest whole) (drop_more ranges i (0, 0) inside) h in
    (g.1.0, last_index _ g.1.1.1, g)

pub LeavesGaps-gap : (done : List (ℕ × ℕ)) (next : ℕ) (range : ℕ × ℕ) (ranges whole more : List (ℕ × ℕ))
    (start low high new : ℕ) → LeavesGaps done next (range ∷ ranges) whole →
    start ≡ scalar_index range.0 → next < start → low ≡ nth_scalar next → high ≡ nth_scalar (start - 1) →
    more ≡ done ++ (low, high) ∷ [] → new ≡ scalar_index range.1 + 1 →
    LeavesGaps more new ranges whole
LeavesGaps-gap done next range ranges whole more start low high new h is_start lt is_low is_high is_more is_new =
    let before : next < scalar_index range.0 = omega arith in
    let later : scalar_index range.1 + 1 ≤ scalar_index range.1 + 2 = omega arith in
    let ends : (low, high) ≡ (nth_scalar next, nth_scalar (scalar_index range.0 - 1)) =
    ap₂ (λ (a b : ℕ). (a, b)) is_low (is_high ∙ ap (λ (n : ℕ). nth_scalar (n - 1)) is_start) in
    let P : ℕ → Type 0 = λ n. LeavesGaps more n ranges whole in
    subst P (sym is_new) (
      ap (λ xs. xs ++ gaps_from (scalar_index range.1 + 1) ranges) is_more
          ∙ append_assoc done ((low, high) ∷ []) (gaps_from (scalar_index range.1 + 1) ranges)
          ∙ ap (λ (g : ℕ × ℕ). done ++ g ∷ gaps_from (scalar_index range.1 + 1) ranges) ends
          ∙ ap (λ rest. done ++ rest) (sym (gaps_from-some next range ranges before))
          ∙ h.0,
      AreCanonicalFrom-lower _ _ ranges later h.1.2,
    )

pub LeavesGaps-none : (done : List (ℕ × ℕ)) (next : ℕ) (range : ℕ × ℕ) (ranges whole : List (ℕ × ℕ)) (start new : ℕ) →
    LeavesGaps done next (range ∷ ranges) whole →
    start ≡ scalar_index range.0 → start ≤ next → new ≡ scalar_index range.1 + 1 → LeavesGaps done new ranges whole
LeavesGaps-none done next range ranges whole start new h is_start le is_new =
    let P : ℕ → Type 0 = λ n. LeavesGaps done n ranges whole in
    subst P (sym is_new) (
      ap (λ rest. done ++ rest) (sym (gaps_from-none next range ranges (omega arith))) ∙ h.0,
      AreCanonicalFrom-lower _ _ ranges (omega arith) h.1.2,
    )

pub LeavesGaps-end : (done : List (ℕ × ℕ)) (next : ℕ) (ranges whole more : List (ℕ × ℕ)) (i low : ℕ) →
    LeavesGaps done next (drop i ranges) whole → length ranges ≤ i →
    next < 1112064 → low ≡ nth_scalar next → more ≡ done ++ (low, 1114111) ∷ [] → more ≡ whole
LeavesGaps-end done next ranges whole more i low h past lt is_low is_more =
    is_more ∙ ap (λ (n : ℕ). done ++ (n, 1114111) ∷ []) is_low
    ∙ ap (λ rest. done ++ rest) (sym (gaps_end-some next lt))
    ∙ ap (λ rest. done ++ gaps_from next rest) (sym (drop_all i ranges past)) ∙ h.0

pub LeavesGaps-last : (done : List (ℕ × ℕ)) (next : ℕ) (ranges whole : List (ℕ × ℕ)) (i : ℕ) →
    LeavesGaps done next (drop i ranges) whole → length ranges ≤ i →
    1112064 ≤ next → done ≡ whole
LeavesGaps-last done next ranges whole i h past le =
    sym (append-nil done) ∙ ap (λ rest. done ++ rest) (sym (gaps_end-none next le))
    ∙ ap (λ rest. done ++ gaps_from next rest) (sym (drop_all i ranges past)) ∙ h.0

member_first : (range : ℕ × ℕ) (ranges : List (ℕ × ℕ)) (c : ℕ) → is_scalar c ≡ true → is_in range c ≡ true →
    has_char (range ∷ ranges) c ≡ true
member_first range ranges c scalar inside = ap₂ (λ (s b : Bool). s && (b || is_in_ranges ranges c)) scalar inside

no_member : (ranges : List (ℕ × ℕ)) (c : ℕ) → is_in_ranges ranges c ≡ false → has_char ranges c ≡ false
no_member ranges c out = ap (λ b. is_scalar c && b) out ∙ and-false (is_scalar c)

-- the next character
next_is : (c : ℕ) → is_scalar c ≡ true → scalar_index c + 1 < 1112064 →
    (is_scalar (nth_scalar (scalar_index c + 1)) ≡ true) × (c < nth_scalar (scalar_index c + 1)) ×
    ((d : ℕ) → is_scalar d ≡ true → c < d → nth_scalar (scalar_index c + 1) ≤ d)
next_is c scalar more = (
  grind (arith, nat_tests, scalar_cases c),
  grind (arith, nat_tests, scalar_cases c),
  λ d h lt. grind (arith, nat_tests, scalar_cases c, scalar_cases d),
)

-- If both lists have the same characters, `y` begins no later than `x`; if they begin together, `y` ends no later.
first_within : (x y : ℕ × ℕ) (xs ys : List (ℕ × ℕ)) (a b : ℕ) → AreCanonicalFrom a (x ∷ xs) → AreCanonicalFrom b (y ∷ ys) →
    ((c : ℕ) → has_char (x ∷ xs) c ≡ has_char (y ∷ ys) c) → (y.0 ≤ x.0) × (x.0 ≡ y.0 → y.1 ≤ x.1)
first_within x y xs ys a b hx hy same = (
  elim (cases_lt x.0 y.0) [
    | inl lt ↦
        let here : is_in x x.0 ≡ true = grind (arith, nat_tests, hx.1.0) in
        let below : scalar_index x.0 < scalar_index y.0 = grind (arith, scalar_cases x.0, scalar_cases y.0, hx.1.1, hy.1.1) in
        let out = none_below (scalar_index y.0) (y ∷ ys) x.0 (omega arith, hy.1, hy.2) below in
        absurd (true≢false (sym (member_first x xs x.0 hx.1.1 here) ∙ same x.0 ∙ no_member (y ∷ ys) x.0 out))
    | inr ge ↦ ge
  ],
  λ starts. elim (cases_lt x.1 y.1) [
    | inl lt ↦
        let top : scalar_index x.1 + 1 < 1112064 = grind (arith, scalar_cases x.1, scalar_cases y.1, hx.1.2, hy.1.2) in
        let next = next_is x.1 hx.1.2 top in
        let c = nth_scalar (scalar_index x.1 + 1) in
        let here : is_in y c ≡ true = grind (arith, nat_tests, next.0, next.1, next.2 y.1 hy.1.2 lt, starts, hx.1.0) in
        let out : is_in x c ≡ false = grind (arith, nat_tests, next.1) in
        let later = none_below (scalar_index x.1 + 2) xs c hx.2 (omega (arith, index_of_gap (scalar_index x.1 + 1) top)) in
        absurd (true≢false (sym (member_first y ys c next.0 here) ∙ sym (same c) ∙ no_member (x ∷ xs) c (ap₂ ◌||◌ out later)))
    | inr ge ↦ ge
  ],
)

same_rest : (range : ℕ × ℕ) (xs ys : List (ℕ × ℕ)) → AreCanonicalFrom (scalar_index range.1 + 2) xs →
    AreCanonicalFrom (scalar_index range.1 + 2) ys →
    ((c : ℕ) → has_char (range ∷ xs) c ≡ has_char (range ∷ ys) c) → (c : ℕ) → has_char xs c ≡ has_char ys c
same_rest range xs ys hx hy same c =
    elim (cases_lt (scalar_index c) (scalar_index range.1 + 2)) [
      | inl near ↦ no_member xs c (none_below _ xs c hx near) ∙ sym (no_member ys c (none_below _ ys c hy near))
      | inr far ↦
          let out : is_in range c ≡ false = grind (arith, nat_tests) in
          ap (λ b. is_scalar c && (b || is_in_ranges xs c)) (sym out) ∙ same c ∙ ap (λ b. is_scalar c && (b || is_in_ranges ys c)) out
    ]

same_canonical_from : (a b : ℕ) (xs ys : List (ℕ × ℕ)) → AreCanonicalFrom a xs → AreCanonicalFrom b ys →
    ((c : ℕ) → has_char xs c ≡ has_char ys c) → xs ≡ ys
same_canonical_from a b [] [] hx hy same = refl
same_canonical_from a b [] (y ∷ ys) hx hy same =
    let here : is_in y y.0 ≡ true = grind (arith, nat_tests, hy.1.0) in
    absurd (true≢false (sym (member_first y ys y.0 hy.1.1 here) ∙ sym (same y.0) ∙ no_member [] y.0 refl))
same_canonical_from a b (x ∷ xs) [] hx hy same =
    let here : is_in x x.0 ≡ true = grind (arith, nat_tests, hx.1.0) in
    absurd (true≢false (sym (member_first x xs x.0 hx.1.1 here) ∙ same x.0 ∙ no_member [] x.0 refl))
same_canonical_from a b (x ∷ xs) (y ∷ ys) hx hy same =
    let there = first_within x y xs ys a b hx hy same in
    let back = first_within y x ys xs b a hy hx (λ c. sym (same c)) in
    let starts : x.0 ≡ y.0 = omega (arith, there.0, back.0) in
    let ends : x.1 ≡ y.1 = omega (arith, there.1 starts, back.1 (sym starts)) in
    let first : x ≡ y = ap₂ (λ (m n : ℕ). (m, n)) starts ends in
    let P : ℕ × ℕ → Type 0 = λ r. AreCanonicalFrom (scalar_index r.1 + 2) xs in
    let rest = same_canonical_from (scalar_index y.1 + 2) (scalar_index y.1 + 2) xs ys (subst P first hx.2) hy.2
    (same_rest y xs ys (subst P first hx.2) hy.2 (λ c. ap (λ r. has_char (r ∷ xs) c) (sym first) ∙ same c)) in
    ap₂ (λ (r : ℕ × ℕ) (rs : List (ℕ × ℕ)). r ∷ rs) first rest

-- canonical ranges with the same characters are equal
pub same_canonical : (xs ys : List (ℕ × ℕ)) → AreCanonical xs → AreCanonical ys → ((c : ℕ) → has_char xs c ≡ has_char ys c) → xs ≡ ys
same_canonical xs ys hx hy same = same_canonical_from 0 0 xs ys hx hy same

-- each of the canonical ranges is a range
pub canonical_range_at : (least : ℕ) (ranges : List (ℕ × ℕ)) (i : ℕ) → AreCanonicalFrom least ranges →
    i < length ranges → IsCharRange (get_or ranges i (0, 0))
canonical_range_at least [] i h inside = absurd (omega arith)
canonical_range_at least (range ∷ ranges) zero h inside = h.1
canonical_range_at least (range ∷ ranges) (suc i) h inside = canonical_range_at (scalar_index range.1 + 2) ranges i h.2 (omega arith)

-- ---- the search for a character

range_ends_rise : (least : ℕ) (ranges : List (ℕ × ℕ)) → AreCanonicalFrom least ranges →
    AllAdjacentBelow (λ (x y : ℕ × ℕ). x.1 ≤ y.1) ranges (length ranges)
range_ends_rise least [] h k d inside = absurd (omega arith)
range_ends_rise least (x ∷ []) h k d inside = absurd (omega arith)
range_ends_rise least (x ∷ y ∷ ranges) h zero d inside = grind (arith, h.2.0, h.2.1.0)
range_ends_rise least (x ∷ y ∷ ranges) h (suc k) d inside =
    let later = range_ends_rise (scalar_index x.1 + 2) (y ∷ ranges) h.2 k d (omega arith) in
    simp unary_clauses (simp unary_clauses at later)

pub range_ends_are_partitioned : (ranges : List (ℕ × ℕ)) (c : ℕ) → AreCanonical ranges → IsPartitionedBy (λ r. nat_lt r.1 c) ranges
range_ends_are_partitioned ranges c h = IsPartitionedBy-ltb (λ (r : ℕ × ℕ). r.1) ranges c
    (IsNonDecreasingBy-from_all_adjacent (λ (r : ℕ × ℕ). r.1) ranges (range_ends_rise 0 ranges h))

-- only the first range that does not end before the number can have it
pub range_found : (least : ℕ) (ranges : List (ℕ × ℕ)) (c i : ℕ) → AreCanonicalFrom least ranges →
    IsPartitionPoint (λ r. nat_lt r.1 c ≡ true) (λ r. nat_lt r.1 c ≡ false) ranges i →
    is_in_ranges ranges c ≡ (nat_lt i (length ranges) && nat_le (get_or ranges i (0, 0)).0 c)
range_found least [] c i h point = grind (arith, nat_tests)
range_found least (range ∷ ranges) c zero h point =
    let here : nat_lt range.1 c ≡ false = point.1 0 (0, 0) (omega arith) (omega arith) in
    let later : is_in_ranges ranges c ≡ false = none_below (scalar_index range.1 + 2) ranges c h.2 (grind (arith, nat_tests, here)) in
    ap (λ b. is_in range c || b) later ∙ grind (arith, nat_tests, here)
range_found least (range ∷ ranges) c (suc i) h point =
    let before : nat_lt range.1 c ≡ true = point.0 0 (0, 0) (omega arith) (omega arith) in
    let out : is_in range c ≡ false = grind (arith, nat_tests, before) in
    ap (λ b. b || is_in_ranges ranges c) out
    ∙ range_found (scalar_index range.1 + 2) ranges c i h.2 (
      (λ k d le lt. point.0 (suc k) d (omega arith) (omega arith)),
      (λ k d le lt. point.1 (suc k) d (omega arith) (omega arith)),
    )
    ∙ grind (arith, nat_tests)
