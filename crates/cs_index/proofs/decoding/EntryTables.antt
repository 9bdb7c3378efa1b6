-- The name index and the list index, entry by entry.
use Rattle.std.specs.Prelude.{bytes_eq}
use Rattle.std.proofs.Common.{◌≡◌, ◌≢◌, ℕ, zero, suc, ◌+◌, ◌-◌, ◌*◌, ◌/◌, ◌<◌, ◌≤◌, true, false, ◌&&◌, eqb, ltb, cond, List, [], ◌∷◌, length, map, Some, None, refl, sym, ap, subst, ◌∙◌, inl, inr, arith, slice_get}
use Rattle.std.proofs.lemmas.Option.{slice_get_past}
use Rattle.cs_index.specs.Postings.{entry_of}
use Rattle.std.proofs.lemmas.Bool.{and_parts, eq-eqb, ne_eqb, ltb-true, cases_order}
use Rattle.std.proofs.lemmas.List.{length_push}
use Rattle.cs_index.specs.Encoding.{with_nul, starts_from}
use Rattle.cs_index.specs.Opening.{number_at, trigram_at, numbers_from, entry_at, entries_from, entries_in, rises}
use Rattle.cs_index.specs.ValidSections.{has_starts}
use Rattle.std.proofs.Math.Bool.{and-false, and-true}

-- ---- offsets of names

pub offsets_wrong : (bytes : List ℕ) (at offset : ℕ) (name : List ℕ) (names : List (List ℕ)) →
    number_at bytes at ≢ offset → has_starts bytes at offset (name ∷ names) ≡ false
offsets_wrong bytes at offset name names apart =
    ap (λ b. eqb (length bytes) (at + 4 * (length (name ∷ names) + 1))
    && (b && bytes_eq (numbers_from bytes (at + 4) (length names))
    (starts_from (offset + length (with_nul name)) (map with_nul names)))) (ne_eqb (number_at bytes at) offset apart)
    ∙ and-false (eqb (length bytes) (at + 4 * (length (name ∷ names) + 1)))

pub offsets_step : (bytes : List ℕ) (at offset later : ℕ) (name : List ℕ) (names : List (List ℕ)) → number_at bytes at
    ≡ offset → later ≡ offset + (length name + 1) → has_starts bytes at offset (name ∷ names)
    ≡ has_starts bytes (at + 4) later names
offsets_step bytes at offset later name names is more =
    let next : offset + length (with_nul name) ≡ later = omega (arith, more, length_push name 0) in
    let long : at + 4 * (length (name ∷ names) + 1) ≡ at + 4 + 4 * (length names + 1) = omega arith in
    ap (λ b. eqb (length bytes) (at + 4 * (length (name ∷ names) + 1))
    && (b && bytes_eq (numbers_from bytes (at + 4) (length names))
    (starts_from (offset + length (with_nul name)) (map with_nul names)))) (eq-eqb (number_at bytes at) offset is)
    ∙ (λ i. eqb (length bytes) (long i) && bytes_eq (numbers_from bytes (at + 4) (length names))
    (starts_from (next i) (map with_nul names)))

pub offsets_end : (bytes : List ℕ) (at offset : ℕ) → at ≤ length bytes → has_starts bytes at offset [] ≡ eqb (length bytes - at) 4
offsets_end bytes at offset within =
    and-true (eqb (length bytes) (at + 4 * (0 + 1)))
    ∙ elim (cases_order (length bytes - at) 4) [
      | inl e ↦ eq-eqb (length bytes) (at + 4 * (0 + 1)) (omega (arith, e, within)) ∙ sym (eq-eqb (length bytes - at) 4 e)
      | inr other ↦ elim other [
        | inl less ↦ ne_eqb (length bytes) (at + 4 * (0 + 1)) (λ e. absurd (omega (arith, e, less)))
            ∙ sym (ne_eqb (length bytes - at) 4 (λ e. absurd (omega (arith, e, less))))
        | inr more ↦ ne_eqb (length bytes) (at + 4 * (0 + 1)) (λ e. absurd (omega (arith, e, more)))
            ∙ sym (ne_eqb (length bytes - at) 4 (λ e. absurd (omega (arith, e, more))))
      ]
    ]

-- ---- ascending trigrams

pub rise_at : (bytes : List ℕ) (at n : ℕ) (j : ℕ) → rises (entries_from bytes at n) ≡ true → j + 1 < n →
    trigram_at bytes (at + 11 * j) < trigram_at bytes (at + 11 * (j + 1))
rise_at bytes at zero j up h = absurd (omega (arith, h))
rise_at bytes at (suc zero) j up h = absurd (omega (arith, h))
rise_at bytes at (suc (suc n)) zero up h =
    let both = and_parts (ltb (trigram_at bytes at) (trigram_at bytes (at + 11))) (rises (entries_from bytes (at + 11) (suc n))) up in
    let here : at ≡ at + 11 * 0 = omega arith in
    let next : at + 11 ≡ at + 11 * (0 + 1) = omega arith in
    subst (λ k. trigram_at bytes k < trigram_at bytes (at + 11 * (0 + 1))) here
    (subst (λ k. trigram_at bytes at < trigram_at bytes k) next
    (ltb-true (trigram_at bytes at) (trigram_at bytes (at + 11)) both.0))
rise_at bytes at (suc (suc n)) (suc j) up h =
    let both = and_parts (ltb (trigram_at bytes at) (trigram_at bytes (at + 11))) (rises (entries_from bytes (at + 11) (suc n))) up in
    let rest = rise_at bytes (at + 11) (suc n) j both.1 (omega (arith, h)) in
    let here : at + 11 + 11 * j ≡ at + 11 * suc j = omega arith in
    let next : at + 11 + 11 * (j + 1) ≡ at + 11 * (suc j + 1) = omega arith in
    subst (λ k. trigram_at bytes k < trigram_at bytes (at + 11 * (suc j + 1))) here
    (subst (λ k. trigram_at bytes (at + 11 + 11 * j) < trigram_at bytes k) next rest)

rise_far : (bytes : List ℕ) (at n j more : ℕ) → rises (entries_from bytes at n) ≡ true → j + more + 1 < n →
    trigram_at bytes (at + 11 * j) < trigram_at bytes (at + 11 * (j + more + 1))
rise_far bytes at n j zero up h =
    let same = ap (λ k. trigram_at bytes (at + 11 * k)) (let z : j + 1 ≡ j + 0 + 1 = omega arith in z) in
    let next = rise_at bytes at n j up (omega (arith, h)) in
    omega (arith, next, same)
rise_far bytes at n j (suc more) up h =
    let before = rise_far bytes at n j more up (omega (arith, h)) in
    let last = rise_at bytes at n (j + more + 1) up (omega (arith, h)) in
    let same = ap (λ k. trigram_at bytes (at + 11 * k)) (let z : j + more + 1 + 1 ≡ j + suc more + 1 = omega arith in z) in
    omega (arith, before, last, same)

-- later entries have greater trigrams
pub rise_to : (bytes : List ℕ) → rises (entries_in bytes) ≡ true → (j k : ℕ) → j < k → k < length bytes / 11 →
    trigram_at bytes (11 * j) < trigram_at bytes (11 * k)
unfolding entries_in
rise_to bytes up j k less h =
    let far = rise_far bytes 0 (length bytes / 11) j (k - j - 1) up (omega (arith, less, h)) in
    let first = ap (trigram_at bytes) (let z : 0 + 11 * j ≡ 11 * j = omega arith in z) in
    let last = ap (trigram_at bytes) (let z : 0 + 11 * (j + (k - j - 1) + 1) ≡ 11 * k = omega (arith, less) in z) in
    omega (arith, far, first, last)

-- and entries with greater trigrams are later
pub later : (bytes : List ℕ) → rises (entries_in bytes) ≡ true → (j k : ℕ) → j < length bytes / 11 →
    trigram_at bytes (11 * j) < trigram_at bytes (11 * k) → j < k
later bytes up j k h less = elim (cases_order j k) [
  | inl same ↦ absurd (omega (arith, ap (λ i. trigram_at bytes (11 * i)) same, less))
  | inr order ↦ elim order [
    | inl before ↦ before
    | inr after ↦ absurd (omega (arith, rise_to bytes up k j after h, less))
  ]
]

-- ---- the entry of a trigram

found_from : (bytes : List ℕ) (g at n position : ℕ) → position < n →
    ((k : ℕ) → k < position → trigram_at bytes (at + 11 * k) ≢ g) → trigram_at bytes (at + 11 * position) ≡ g →
    entry_of (entries_from bytes at n) g ≡ Some (entry_at bytes (at + 11 * position))
found_from bytes g at zero position h below is = absurd (omega (arith, h))
found_from bytes g at (suc n) zero h below is =
    let here : at + 11 * 0 ≡ at = omega arith in
    ap (λ b. cond b (Some (entry_at bytes at)) (entry_of (entries_from bytes (at + 11) n) g))
    (eq-eqb (trigram_at bytes at) g (ap (trigram_at bytes) (sym here) ∙ is))
    ∙ ap (λ k. Some (entry_at bytes k)) (sym here)
found_from bytes g at (suc n) (suc position) h below is =
    let first : trigram_at bytes at ≢ g = subst (λ k. trigram_at bytes k ≢ g) (let z : at + 11 * 0 ≡ at = omega arith in
    z) (below 0 (omega arith)) in
    let there : at + 11 + 11 * position ≡ at + 11 * suc position = omega arith in
    ap (λ b. cond b (Some (entry_at bytes at)) (entry_of (entries_from bytes (at + 11) n) g)) (ne_eqb (trigram_at bytes at) g first)
    ∙ found_from bytes g (at + 11) n position (omega (arith, h))
    (λ k l. subst (λ m. trigram_at bytes m ≢ g) (let z : at + 11 * (k + 1) ≡ at + 11 + 11 * k = omega arith in z)
    (below (k + 1) (omega (arith, l)))) (ap (trigram_at bytes) there ∙ is)
    ∙ ap (λ k. Some (entry_at bytes k)) there

none_from : (bytes : List ℕ) (g at n : ℕ) → ((k : ℕ) → k < n → trigram_at bytes (at + 11 * k) ≢ g) →
    entry_of (entries_from bytes at n) g ≡ None
none_from bytes g at zero apart = refl
none_from bytes g at (suc n) apart =
    let first : trigram_at bytes at ≢ g = subst (λ k. trigram_at bytes k ≢ g) (let z : at + 11 * 0 ≡ at = omega arith in
    z) (apart 0 (omega arith)) in
    ap (λ b. cond b (Some (entry_at bytes at)) (entry_of (entries_from bytes (at + 11) n) g)) (ne_eqb (trigram_at bytes at) g first)
    ∙ none_from bytes g (at + 11) n (λ k l. subst (λ m. trigram_at bytes m ≢ g)
    (let z : at + 11 * (k + 1) ≡ at + 11 + 11 * k = omega arith in z) (apart (k + 1) (omega (arith, l))))

pub entry_found : (bytes : List ℕ) (g position : ℕ) → rises (entries_in bytes) ≡ true → position < length bytes / 11 →
    trigram_at bytes (11 * position) ≡ g → entry_of (entries_in bytes) g ≡ Some (entry_at bytes (11 * position))
unfolding entries_in
entry_found bytes g position up h is =
    let here : 0 + 11 * position ≡ 11 * position = omega arith in
    found_from bytes g 0 (length bytes / 11) position h
    (λ k l e. let less = rise_to bytes up k position l h in
    let same = ap (trigram_at bytes) (let z : 11 * k ≡ 0 + 11 * k = omega arith in z) in omega (arith, less, same, e, is))
    (ap (trigram_at bytes) here ∙ is) ∙ ap (λ k. Some (entry_at bytes k)) here

pub entry_none : (bytes : List ℕ) (g : ℕ) → ((k : ℕ) → k < length bytes / 11 → trigram_at bytes (11 * k) ≢ g) →
    entry_of (entries_in bytes) g ≡ None
unfolding entries_in
entry_none bytes g apart = none_from bytes g 0 (length bytes / 11)
    (λ k l. subst (λ m. trigram_at bytes m ≢ g) (let z : 11 * k ≡ 0 + 11 * k = omega arith in z) (apart k l))

length-from : (bytes : List ℕ) (at n : ℕ) → length (entries_from bytes at n) ≡ n
length-from bytes at zero = refl
length-from bytes at (suc n) = ap suc (length-from bytes (at + 11) n)

pub length-in : (bytes : List ℕ) → length (entries_in bytes) ≡ length bytes / 11
unfolding entries_in
length-in bytes = length-from bytes 0 (length bytes / 11)

get-from : (bytes : List ℕ) (at n k : ℕ) → k < n → slice_get (entries_from bytes at n) k ≡ Some (entry_at bytes (at + 11 * k))
get-from bytes at zero k h = absurd (omega (arith, h))
get-from bytes at (suc n) zero h = ap (λ j. Some (entry_at bytes j)) (let z : at ≡ at + 11 * 0 = omega arith in z)
get-from bytes at (suc n) (suc k) h = get-from bytes (at + 11) n k (omega (arith, h))
    ∙ ap (λ j. Some (entry_at bytes j)) (let z : at + 11 + 11 * k ≡ at + 11 * suc k = omega arith in z)

pub get-in : (bytes : List ℕ) (k : ℕ) → k < length bytes / 11 → slice_get (entries_in bytes) k ≡ Some (entry_at bytes (11 * k))
unfolding entries_in
get-in bytes k h = get-from bytes 0 (length bytes / 11) k h
    ∙ ap (λ j. Some (entry_at bytes j)) (let z : 0 + 11 * k ≡ 11 * k = omega arith in z)

pub none-in : (bytes : List ℕ) (k : ℕ) → length bytes / 11 ≤ k → slice_get (entries_in bytes) k ≡ None
none-in bytes k h = slice_get_past (entries_in bytes) k (let l = length-in bytes in omega (arith, l, h))
