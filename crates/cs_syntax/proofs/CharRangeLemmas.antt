-- The canonical ranges of a predicate, and the ranges of class items.
use Rattle.std.proofs.Common.{cond, ◌≡◌, ℕ, zero, suc, ◌+◌, ◌<◌, ◌≤◌, inl, inr, Bool, true, false, ◌&&◌, ◌||◌, not, List, [], ◌∷◌, ◌++◌, length, take, get_or, refl, sym, ap, ap₂, subst, true≢false, ◌∙◌, arith}
use Rattle.std.specs.Prelude.{nat_eq, nat_le, nat_lt, if◌then◌else◌, Result, Ok, Err, IfOk}
use mathlib.Core.Bool.{xor}
use Rattle.std.specs.Char.{scalar_index, is_ascii_alphabetic}
use Rattle.std.specs.List.{filter, range_with_len}
use Rattle.std.proofs.Math.Bool.{and-false, and-true, and-or_distrib_left, or-false, or_assoc}
use Rattle.std.proofs.lemmas.Bool.Decides.{nat_tests}
use Rattle.std.proofs.lemmas.Bool.{cases_Bool, eqb-true}
use Rattle.std.proofs.lemmas.List.Folds.{list_any-append}
use Rattle.std.proofs.lemmas.List.{take_more, take_all}
use Rattle.cs_syntax.specs.Ranges.{is_in_ranges}
use Rattle.cs_syntax.specs.ByteSet.{other_case, is_in_folded}
use Rattle.cs_syntax.specs.ClassState.{is_other_case}
use Rattle.cs_syntax.specs.Characters.{is_scalar, has_char, with_char, ranges_through, canonical_ranges}
use Rattle.cs_syntax.specs.CharRanges.{IsCharRange, AreCanonicalFrom, AreCanonical}
use Rattle.cs_syntax.specs.CharTrees.{ranges_tree, chars_tree}
use Rattle.cs_syntax.proofs.CharSetLemmas.{scalar_cases, is_in, has_char-cons, has_char-append, same_canonical}

-- ---- one more character before some ranges

canonical_lower : (least low : ℕ) (ranges : List (ℕ × ℕ)) → low ≤ least → AreCanonicalFrom least ranges → AreCanonicalFrom low ranges
canonical_lower least low [] le h = tt
canonical_lower least low (range ∷ ranges) le h = (omega (arith, h.0), h.1, h.2)

near_range : (c : ℕ) (range : ℕ × ℕ) → is_scalar c ≡ true → IsCharRange range →
    nat_eq (scalar_index c + 1) (scalar_index range.0) ≡ true → IsCharRange (c, range.1)
near_range c range scalar h near = (grind (arith, nat_tests, scalar_cases c, scalar_cases range.0, h.0, h.1, near), scalar, h.2)

with_char_canonical : (c : ℕ) (ranges : List (ℕ × ℕ)) → is_scalar c ≡ true → AreCanonicalFrom (scalar_index c + 1)
    ranges → AreCanonicalFrom (scalar_index c) (with_char c ranges)
with_char_canonical c [] scalar h = (omega arith, (omega arith, scalar, scalar), tt)
with_char_canonical c (range ∷ ranges) scalar h =
    elim (cases_Bool (nat_eq (scalar_index c + 1) (scalar_index range.0))) [
      | inl near ↦
          subst (λ (b : Bool). AreCanonicalFrom (scalar_index c) (if b then (c, range.1) ∷ ranges else (c, c) ∷ range ∷ ranges)) (sym near)
          (omega arith, near_range c range scalar h.1 near, h.2)
      | inr far ↦
          subst (λ (b : Bool). AreCanonicalFrom (scalar_index c) (if b then (c, range.1) ∷ ranges else (c, c) ∷ range ∷ ranges)) (sym far)
          (omega arith, (omega arith, scalar, scalar), (grind (arith, nat_tests, h.0, far), h.1, h.2))
    ]

near_has : (c x : ℕ) (range : ℕ × ℕ) → is_scalar x ≡ true → IsCharRange range → nat_eq (scalar_index x + 1) (scalar_index range.0) ≡ true →
    (is_scalar c && is_in (x, range.1) c) ≡ ((is_scalar c && nat_eq x c) || (is_scalar c && is_in range c))
near_has c x range scalar h near = grind (arith, nat_tests, scalar_cases c, scalar_cases x, scalar_cases range.0, h.0, h.1, near)

one_has : (c x : ℕ) → is_in (x, x) c ≡ nat_eq x c
one_has c x = grind (arith, nat_tests)

with_char_has : (c x : ℕ) (ranges : List (ℕ × ℕ)) → is_scalar x ≡ true → AreCanonicalFrom (scalar_index x + 1) ranges →
    has_char (with_char x ranges) c ≡ ((is_scalar c && nat_eq x c) || has_char ranges c)
with_char_has c x [] scalar h = has_char-cons (x, x) [] c ∙ ap (λ b. (is_scalar c && b) || has_char [] c) (one_has c x)
with_char_has c x (range ∷ ranges) scalar h =
    elim (cases_Bool (nat_eq (scalar_index x + 1) (scalar_index range.0))) [
      | inl near ↦
          ap (λ (b : Bool). has_char (if b then (x, range.1) ∷ ranges else (x, x) ∷ range ∷ ranges) c) near
          ∙ has_char-cons (x, range.1) ranges c
          ∙ ap (λ b. b || has_char ranges c) (near_has c x range scalar h.1 near)
          ∙ or_assoc (is_scalar c && nat_eq x c) (is_scalar c && is_in range c) (has_char ranges c)
          ∙ ap (λ b. (is_scalar c && nat_eq x c) || b) (sym (has_char-cons range ranges c))
      | inr far ↦
          ap (λ (b : Bool). has_char (if b then (x, range.1) ∷ ranges else (x, x) ∷ range ∷ ranges) c) far
          ∙ has_char-cons (x, x) (range ∷ ranges) c
          ∙ ap (λ b. (is_scalar c && b) || has_char (range ∷ ranges) c) (one_has c x)
    ]

-- ---- the characters from one number on

here_and_later : (s t e x : Bool) → (e ≡ true → (s && t) ≡ true) → ((s && e) || ((s && t) && x)) ≡ ((s && t) && (e || x))
here_and_later true true e x h = refl
here_and_later true false true x h = absurd (true≢false (sym (h refl)))
here_and_later true false false x h = refl
here_and_later false t true x h = absurd (true≢false (sym (h refl)))
here_and_later false t false x h = refl

only_later : (p e x : Bool) → (e ≡ true → p ≡ false) → (p && x) ≡ (p && (e || x))
only_later true true x h = absurd (true≢false (h refl))
only_later true false x h = refl
only_later false e x h = refl

module _ (test : ℕ → Bool) where
  abbrev passes : ℕ → Bool
  passes c = is_scalar c && test c

  abbrev ranges_from : ℕ → ℕ → List (ℕ × ℕ)
  ranges_from from n = ranges_through (filter passes (range_with_len from n))

  next_index : (c : ℕ) → passes c ≡ true → (is_scalar c ≡ true) × (scalar_index (c + 1) ≡ scalar_index c + 1)
  next_index c is = elim (scalar_cases c) [
    | inl is_one ↦ (is_one.0, grind (arith, is_one.1))
    | inr out ↦ absurd (true≢false (sym is ∙ ap (λ b. b && test c) out.0))
  ]

  abbrev before : Bool → ℕ → ℕ → List (ℕ × ℕ)
  before b from n = ranges_through (cond b (from ∷ filter passes (range_with_len (from + 1) n))
      (filter passes (range_with_len (from + 1) n)))

  are_before : (b : Bool) (from n : ℕ) → passes from ≡ b → AreCanonicalFrom (scalar_index (from + 1))
      (ranges_from (from + 1) n) → AreCanonicalFrom (scalar_index from) (before b from n)
  are_before true from n is later =
      let index = next_index from is in
      with_char_canonical from (ranges_from (from + 1) n) index.0 (subst (λ p. AreCanonicalFrom p (ranges_from (from + 1) n)) index.1 later)
  are_before false from n is later = canonical_lower (scalar_index (from + 1)) (scalar_index from)
      (ranges_from (from + 1) n) (omega arith) later

  from_are_canonical : (from n : ℕ) → AreCanonicalFrom (scalar_index from) (ranges_from from n)
  from_are_canonical from zero = tt
  from_are_canonical from (suc n) = are_before (passes from) from n refl (from_are_canonical (from + 1) n)

  -- c is one of the n numbers from `from` on
  abbrev is_from : ℕ → ℕ → ℕ → Bool
  is_from from n c = nat_le from c && nat_lt c (from + n)

  from_or_later : (from n c : ℕ) → is_from from (suc n) c ≡ (nat_eq from c || is_from (from + 1) n c)
  from_or_later from n c = grind (arith, nat_tests)

  none_from : (from c : ℕ) → is_from from 0 c ≡ false
  none_from from c = grind (arith, nat_tests)

  here_passes : (from c : ℕ) (b : Bool) → passes from ≡ b → nat_eq from c ≡ true → passes c ≡ b
  here_passes from c b is here = ap passes (sym (eqb-true from c here)) ∙ is

  has_before : (b : Bool) (from n c : ℕ) → passes from ≡ b → has_char (ranges_from (from + 1) n) c ≡ (passes c && is_from (from + 1) n c) →
      has_char (before b from n) c ≡ (passes c && is_from from (suc n) c)
  has_before true from n c is later =
      let index = next_index from is in
      with_char_has c from (ranges_from (from + 1) n) index.0
      (subst (λ p. AreCanonicalFrom p (ranges_from (from + 1) n)) index.1 (from_are_canonical (from + 1) n))
      ∙ ap (λ b. (is_scalar c && nat_eq from c) || b) later
      ∙ here_and_later (is_scalar c) (test c) (nat_eq from c) (is_from (from + 1) n c) (here_passes from c true is)
      ∙ ap (λ b. passes c && b) (sym (from_or_later from n c))
  has_before false from n c is later =
      later
      ∙ only_later (passes c) (nat_eq from c) (is_from (from + 1) n c) (here_passes from c false is)
      ∙ ap (λ b. passes c && b) (sym (from_or_later from n c))

  from_has : (from n c : ℕ) → has_char (ranges_from from n) c ≡ (passes c && is_from from n c)
  from_has from zero c = and-false (is_scalar c) ∙ sym (and-false (passes c)) ∙ ap (λ b. passes c && b) (sym (none_from from c))
  from_has from (suc n) c = has_before (passes from) from n c refl (from_has (from + 1) n c)

all_numbers : (s t : Bool) (c : ℕ) → is_scalar c ≡ s → ((s && t) && (nat_le 0 c && nat_lt c (0 + 1114112))) ≡ (s && t)
all_numbers false t c is = refl
all_numbers true t c is =
    let within : (nat_le 0 c && nat_lt c (0 + 1114112)) ≡ true = grind (arith, nat_tests, scalar_cases c, is) in
    ap (λ b. t && b) within ∙ and-true t

-- `canonical_ranges` is canonical, and has exactly the characters that satisfy the predicate
pub canonical_ranges_are : (test : ℕ → Bool) → AreCanonical (canonical_ranges test) ×
    ((c : ℕ) → has_char (canonical_ranges test) c ≡ (is_scalar c && test c))
unfolding canonical_ranges
canonical_ranges_are test = (from_are_canonical test 0 1114112, λ c. from_has test 0 1114112 c ∙ all_numbers (is_scalar c) (test c) c refl)

-- no other canonical ranges have these characters
pub canonical_ranges_unique : (test : ℕ → Bool) (ranges : List (ℕ × ℕ)) → AreCanonical ranges →
    ((c : ℕ) → has_char ranges c ≡ (is_scalar c && test c)) → ranges ≡ canonical_ranges test
canonical_ranges_unique test ranges are have = same_canonical ranges (canonical_ranges test) are
    (canonical_ranges_are test).0 (λ c. have c ∙ sym ((canonical_ranges_are test).1 c))

pub xor-true : (b : Bool) → xor true b ≡ not b
unfolding xor
xor-true true = refl
xor-true false = refl

pub xor-false : (b : Bool) → xor false b ≡ b
unfolding xor
xor-false true = refl
xor-false false = refl

others_pass : (s t : Bool) → (s && not (s && t)) ≡ (s && xor true t)
others_pass true t = sym (xor-true t)
others_pass false t = refl

-- the complement of the ranges of a predicate
pub others_of : {E : Type 0} (ranges set : List (ℕ × ℕ)) (r : Result (List (ℕ × ℕ)) E) → ((c : ℕ) → has_char set c ≡ has_char ranges c) →
    IfOk r (λ others. (c : ℕ) → has_char others c ≡ (is_scalar c && not (has_char set c))) → IfOk r AreCanonical →
    IfOk r (λ others. (test : ℕ → Bool) → ((c : ℕ) → has_char ranges c ≡ (is_scalar c && test c)) → others
    ≡ canonical_ranges (λ c. xor true (test c)))
others_of ranges set (Err e) same left are = tt
others_of ranges set (Ok others) same left are =
    λ test have. canonical_ranges_unique (λ c. xor true (test c)) others are
    (λ c. left c ∙ ap (λ b. is_scalar c && not b) (same c ∙ have c) ∙ others_pass (is_scalar c) (test c))

pub set_of_test : {E : Type 0} (ranges : List (ℕ × ℕ)) (negated : Bool) (r : Result (List (ℕ × ℕ)) E)
    (test holds : ℕ → Bool) → ((c : ℕ) → xor negated (test c) ≡ holds c) →
    IfOk r (λ set. (test : ℕ → Bool) → ((c : ℕ) → has_char ranges c ≡ (is_scalar c && test c)) →
    set ≡ canonical_ranges (λ c. xor negated (test c))) →
    ((c : ℕ) → has_char ranges c ≡ (is_scalar c && test c)) → IfOk r (λ set. set ≡ canonical_ranges holds)
set_of_test ranges negated (Err e) test holds same gives have = tt
set_of_test ranges negated (Ok set) test holds same gives have = gives test have ∙ ap canonical_ranges (λ i c. same c i)

pub newline_char : (c : ℕ) → has_char ((10, 10) ∷ []) c ≡ (is_scalar c && nat_eq c 10)
newline_char c = grind (arith, nat_tests)

-- ---- ranges that are added, with case folding

pub ranges_push : (xs : List (ℕ × ℕ)) (r : ℕ × ℕ) (c : ℕ) → is_in_ranges (xs ++ r ∷ []) c ≡ (is_in_ranges xs c || is_in r c)
ranges_push xs r c = list_any-append (λ r. nat_le r.0 c && nat_le c r.1) xs (r ∷ [])
    ∙ ap (λ b. is_in_ranges xs c || b) (or-false (is_in r c))

one_folded : (r : ℕ × ℕ) (c : ℕ) → is_in_folded true (r ∷ []) c ≡ ((is_in r c || is_other_case r 97 65 c) || is_other_case r 65 97 c)
one_folded r c = grind (arith, nat_tests)

one_unfolded : (r : ℕ × ℕ) (c : ℕ) → is_in_folded false (r ∷ []) c ≡ is_in r c
one_unfolded r c = or-false (is_in r c || false) ∙ or-false (is_in r c)

both_folded : (f l a b x y : Bool) → ((a || b) || (f && (l && (x || y)))) ≡ ((a || (f && (l && x))) || (b || (f && (l && y))))
both_folded false l a b x y = or-false (a || b) ∙ ap₂ ◌||◌ (sym (or-false a)) (sym (or-false b))
both_folded true false a b x y = or-false (a || b) ∙ ap₂ ◌||◌ (sym (or-false a)) (sym (or-false b))
both_folded true true true b x y = refl
both_folded true true false true true y = refl
both_folded true true false true false y = refl
both_folded true true false false x y = refl

folded_append : (fold : Bool) (xs ys : List (ℕ × ℕ)) (c : ℕ) → is_in_folded fold (xs ++ ys) c
    ≡ (is_in_folded fold xs c || is_in_folded fold ys c)
folded_append fold xs ys c =
    ap₂ (λ (p q : Bool). p || (fold && (is_ascii_alphabetic c && q)))
    (list_any-append (λ r. nat_le r.0 c && nat_le c r.1) xs ys)
    (list_any-append (λ r. nat_le r.0 (other_case c) && nat_le (other_case c) r.1) xs ys)
    ∙ both_folded fold (is_ascii_alphabetic c) (is_in_ranges xs c) (is_in_ranges ys c) (is_in_ranges xs (other_case c))
    (is_in_ranges ys (other_case c))

-- the new ranges have the numbers of the old ones and those that satisfy the predicate
abbrev pub Adds : List (ℕ × ℕ) → (ℕ → Bool) → List (ℕ × ℕ) → Type 0
Adds old test new = (c : ℕ) → is_in_ranges new c ≡ (is_in_ranges old c || test c)

pub range_unfolded : (xs new : List (ℕ × ℕ)) (r : ℕ × ℕ) → new ≡ xs ++ r ∷ [] → Adds xs (is_in_folded false (r ∷ [])) new
range_unfolded xs new r is c = ap (λ l. is_in_ranges l c) is ∙ ranges_push xs r c
    ∙ ap (λ b. is_in_ranges xs c || b) (sym (one_unfolded r c))

pub range_folded : (xs pushed some new : List (ℕ × ℕ)) (r : ℕ × ℕ) → pushed ≡ xs ++ r ∷ [] →
    Adds pushed (is_other_case r 97 65) some → Adds some (is_other_case r 65 97) new →
    Adds xs (is_in_folded true (r ∷ [])) new
range_folded xs pushed some new r is first second c =
    second c
    ∙ ap (λ b. b || is_other_case r 65 97 c)
    (first c ∙ ap (λ b. b || is_other_case r 97 65 c) (ap (λ l. is_in_ranges l c) is ∙ ranges_push xs r c)
    ∙ or_assoc (is_in_ranges xs c) (is_in r c) (is_other_case r 97 65 c))
    ∙ or_assoc (is_in_ranges xs c) (is_in r c || is_other_case r 97 65 c) (is_other_case r 65 97 c)
    ∙ ap (λ b. is_in_ranges xs c || b) (sym (one_folded r c))

pub folded_more : (fold : Bool) (old some new more : List (ℕ × ℕ)) (i : ℕ) → i < length more →
    Adds old (is_in_folded fold (take i more)) some →
    Adds some (is_in_folded fold (get_or more i (0, 0) ∷ [])) new → Adds old (is_in_folded fold (take (i + 1) more)) new
folded_more fold old some new more i lt so_far one c =
    one c
    ∙ ap (λ b. b || is_in_folded fold (get_or more i (0, 0) ∷ []) c) (so_far c)
    ∙ or_assoc (is_in_ranges old c) (is_in_folded fold (take i more) c) (is_in_folded fold (get_or more i (0, 0) ∷ []) c)
    ∙ ap (λ b. is_in_ranges old c || b) (sym (folded_append fold (take i more) (get_or more i (0, 0) ∷ []) c)
    ∙ ap (λ l. is_in_folded fold l c) (sym (take_more more i (0, 0) lt)))

pub folded_all : (fold : Bool) (old new more : List (ℕ × ℕ)) (i : ℕ) → length more ≤ i →
    Adds old (is_in_folded fold (take i more)) new → Adds old (is_in_folded fold more) new
folded_all fold old new more i le all c = all c ∙ ap (λ l. is_in_ranges old c || is_in_folded fold l c) (take_all i more le)

-- ---- the characters of class items

-- the new ranges have the characters of the old ones and those that satisfy the predicate
abbrev pub AddsChars : List (ℕ × ℕ) → (ℕ → Bool) → List (ℕ × ℕ) → Type 0
AddsChars old test new = (c : ℕ) → has_char new c ≡ (has_char old c || (is_scalar c && test c))

pub adds_same : (old new : List (ℕ × ℕ)) (test other : ℕ → Bool) → ((c : ℕ) → test c ≡ other c) →
    AddsChars old test new → AddsChars old other new
adds_same old new test other same adds c = adds c ∙ ap (λ b. has_char old c || (is_scalar c && b)) (same c)

pub chars_added : (old new : List (ℕ × ℕ)) (test : ℕ → Bool) → Adds old test new → AddsChars old test new
chars_added old new test adds c = ap (λ b. is_scalar c && b) (adds c) ∙ and-or_distrib_left (is_scalar c) (is_in_ranges old c) (test c)

pub only_added : (old new read : List (ℕ × ℕ)) (test : ℕ → Bool) → old ≡ [] → read ≡ new → AddsChars old test new →
    (c : ℕ) → has_char read c ≡ (is_scalar c && test c)
only_added old new read test none same adds c =
    ap (λ l. has_char l c) same ∙ adds c ∙ ap (λ l. has_char l c || (is_scalar c && test c)) none
    ∙ ap (λ b. b || (is_scalar c && test c)) (and-false (is_scalar c))

pub others_added : (old none own read others new : List (ℕ × ℕ)) (test : ℕ → Bool) → none ≡ [] → read ≡ own → Adds none test own →
    ((test : ℕ → Bool) → ((c : ℕ) → has_char read c ≡ (is_scalar c && test c)) → others
    ≡ canonical_ranges (λ c. xor true (test c))) → new ≡ old ++ others →
    AddsChars old (λ c. not (test c)) new
others_added old none own read others new test empty same adds holds is c =
    ap (λ l. has_char l c) (is ∙ ap (λ l. old ++ l)
    (holds test (λ x. only_added none own read test empty same (chars_added none own test adds) x)))
    ∙ has_char-append old (canonical_ranges (λ x. xor true (test x))) c
    ∙ ap (λ b. has_char old c || b) ((canonical_ranges_are (λ x. xor true (test x))).1 c)
    ∙ ap (λ b. has_char old c || (is_scalar c && b)) (xor-true (test c))

pub tree_of_canonical : (test : ℕ → Bool) (set : List (ℕ × ℕ)) → set ≡ canonical_ranges test → ranges_tree set ≡ chars_tree test
unfolding chars_tree
tree_of_canonical test set is = ap ranges_tree is

pub tree_is : (test : ℕ → Bool) (ranges : List (ℕ × ℕ)) → AreCanonical ranges →
    ((c : ℕ) → has_char ranges c ≡ (is_scalar c && test c)) → chars_tree test ≡ ranges_tree ranges
tree_is test ranges are have = sym (tree_of_canonical test ranges (canonical_ranges_unique test ranges are have))
