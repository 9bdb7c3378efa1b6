-- Inverting posting lists to names, and back, gives the same lists.
use Rattle.std.proofs.Common.{◌≡◌, ℕ, zero, suc, ◌+◌, ◌<◌, ◌≤◌, true, false, cond, ◌||◌, eqb, List, [], ◌∷◌, length, map, get_or, refl, sym, ap, subst, ◌∙◌, ◌⊎◌, inl, inr, arith}
use Rattle.cs_index.specs.Gathering.{trigrams_in}
use Rattle.cs_index.specs.AscendingIds.{AscendWithin, IsPostingList, ArePostingLists}
use Rattle.cs_index.specs.PostingLists.{set_at, entries_of}
use Rattle.cs_trigram.specs.Trigram.{has, Ascends}
use Rattle.std.proofs.lemmas.Bool.{true≢false, cases_Bool, cases_lt, cond_both, eqb-true, eq-eqb, ne_eqb, or_cases, or_left, or_right, or_parts}
use Rattle.std.specs.Prelude.{flat_map, filter, ◌≢◌}
use Rattle.std.specs.List.{AllByRecursion}
use Rattle.std.specs.Cmp.{both_ways as same_tests}
use Rattle.cs_index.specs.Encoding.{Entry, ids_from, PostingList, postings_of, trigrams_of}
use Rattle.cs_index.proofs.encoding.EncodingDecodes.{ids_rise}
use Rattle.cs_index.proofs.encoding.Inversion.{id_has}
use Rattle.cs_trigram.proofs.SetLemmas.{ascends_tail, ascends_head, ascends_set, has-set_of_numbers, has-append, below_none, ascends_same}
use Rattle.cs_index.proofs.candidates.Intersection.{rise_ascends}

-- a list is among others
abbrev Among : PostingList → List PostingList → Type 0
Among p [] = ⊥
Among p (q ∷ qs) = (p ≡ q) ⊎ Among p qs

among_trigram : (p : PostingList) (qs : List PostingList) → Among p qs → has (trigrams_in qs) p.0 ≡ true
among_trigram p [] a = absurd a
among_trigram p (q ∷ qs) (inl e) = or_left (eqb q.0 p.0) _ (eq-eqb q.0 p.0 (ap (λ (r : PostingList). r.0) (sym e)))
among_trigram p (q ∷ qs) (inr a) = or_right (eqb q.0 p.0) _ (among_trigram p qs a)

-- a trigram without a list is in the set of no name
set_without : (k g : ℕ) (ps : List PostingList) → has (trigrams_in ps) g ≡ false → has (set_at k ps) g ≡ false
set_without k g [] h = refl
set_without k g (q ∷ qs) h =
    let apart : eqb q.0 g ≡ false = (or_parts _ _ h).0 in
    let rest : has (set_at k qs) g ≡ false = set_without k g qs (ap (λ t. t || has (trigrams_in qs) g) (sym apart) ∙ h) in
    cond_both (has q.1 k) (q ∷ filter (λ (p : PostingList). has p.1 k) qs) (filter (λ (p : PostingList). has p.1 k) qs)
    (λ rs. has (trigrams_in rs) g ≡ false)
    (λ _. ap (λ t. t || has (set_at k qs) g) apart ∙ rest) (λ _. rest)

-- a name has a trigram exactly if the trigram's list has the id
set_among : (k : ℕ) (p : PostingList) (ps : List PostingList) → Ascends (trigrams_in ps) → Among p ps → has (set_at k ps) p.0 ≡ has p.1 k
set_among k p [] up a = absurd a
set_among k p (q ∷ qs) up (inl e) =
    let without : has (trigrams_in qs) q.0 ≡ false =
    below_none q.0 (trigrams_in qs) (ascends_head q.0 (trigrams_in qs) up) (ascends_tail q.0 (trigrams_in qs) up) in
    ap (λ (r : PostingList). has (set_at k (q ∷ qs)) r.0) e
    ∙ elim (has q.1 k) as (λ b. has (trigrams_in
    (cond b (q ∷ filter (λ (p : PostingList). has p.1 k) qs) (filter (λ (p : PostingList). has p.1 k) qs))) q.0 ≡ b) [
      | true ↦ or_left (eqb q.0 q.0) _ (eq-eqb q.0 q.0 refl)
      | false ↦ set_without k q.0 qs without
    ]
    ∙ ap (λ (r : PostingList). has r.1 k) (sym e)
set_among k p (q ∷ qs) up (inr a) =
    let rest : has (set_at k qs) p.0 ≡ has p.1 k = set_among k p qs (ascends_tail q.0 (trigrams_in qs) up) a in
    let apart : eqb q.0 p.0 ≡ false = ne_eqb q.0 p.0
    (λ e. true≢false (sym (among_trigram p qs a) ∙ ap (has (trigrams_in qs)) (sym e)
    ∙ below_none q.0 (trigrams_in qs) (ascends_head q.0 (trigrams_in qs) up) (ascends_tail q.0 (trigrams_in qs) up))) in
    cond_both (has q.1 k) (q ∷ filter (λ (p : PostingList). has p.1 k) qs) (filter (λ (p : PostingList). has p.1 k) qs)
    (λ rs. has (trigrams_in rs) p.0 ≡ has p.1 k)
    (λ _. ap (λ t. t || has (set_at k qs) p.0) apart ∙ rest) (λ _. rest)

-- ---- ascending ids
pub rise_beyond : (name_count next k : ℕ) (ids : List ℕ) → name_count ≤ k → AscendWithin name_count next ids → has ids k ≡ false
rise_beyond name_count next k [] h up = refl
rise_beyond name_count next k (id ∷ ids) h up =
    ap (λ t. t || has ids k) (ne_eqb id k (λ e. absurd (omega (arith, e, h, up.1))))
    ∙ rise_beyond name_count (id + 1) k ids h up.2

-- ---- the names of posting lists
pub length-entries_of : (first : ℕ) (names : List (List ℕ)) (ps : List PostingList) → length (entries_of first names ps) ≡ length names
length-entries_of first [] ps = refl
length-entries_of first (n ∷ names) ps = ap suc (length-entries_of (first + 1) names ps)

set_of_name : (first k : ℕ) (names : List (List ℕ)) (ps : List PostingList) (d : Entry) → k < length names →
    (get_or (entries_of first names ps) k d).1 ≡ set_at (first + k) ps
set_of_name first k [] ps d h = absurd (omega (arith, h))
set_of_name first zero (n ∷ names) ps d h = ap (λ id. set_at id ps) (let z : first ≡ first + 0 = omega arith in z)
set_of_name first (suc k) (n ∷ names) ps d h = set_of_name (first + 1) k names ps d (omega (arith, h))
    ∙ ap (λ id. set_at id ps) (let z : first + 1 + k ≡ first + suc k = omega arith in z)

ids_past : (first g id : ℕ) (entries : List Entry) → first + length entries ≤ id → has (ids_from first g entries) id ≡ false
ids_past first g id [] h = refl
ids_past first g id (entry ∷ entries) h =
    let rest : has (ids_from (first + 1) g entries) id ≡ false = ids_past (first + 1) g id entries (omega (arith, h)) in
    let apart : eqb first id ≡ false = ne_eqb first id (λ e. absurd (omega (arith, e, h))) in
    cond_both (has entry.1 g) (first ∷ ids_from (first + 1) g entries) (ids_from (first + 1) g entries) (λ ids. has ids id ≡ false)
    (λ _. ap (λ t. t || has (ids_from (first + 1) g entries) id) apart ∙ rest) (λ _. rest)

-- the list of a trigram is recovered from the names
list_back : (names : List (List ℕ)) (p : PostingList) (ps : List PostingList) → Ascends (trigrams_in ps) →
    AscendWithin (length names) 0 p.1 → Among p ps → ids_from 0 p.0 (entries_of 0 names ps) ≡ p.1
list_back names p ps up rise a =
    ascends_same _ _ (rise_ascends (length names) 0 _
    (ids_rise (length names) 0 p.0 (entries_of 0 names ps) (let l = length-entries_of 0 names ps in omega (arith, l))))
    (rise_ascends (length names) 0 p.1 rise)
    (λ k. elim (cases_lt k (length names)) [
      | inl within ↦
          ap (has (ids_from 0 p.0 (entries_of 0 names ps))) (let z : k ≡ 0 + k = omega arith in z)
          ∙ id_has 0 p.0 k (entries_of 0 names ps) ([], []) (let l = length-entries_of 0 names ps in omega (arith, l, within))
          ∙ ap (λ T. has T p.0) (set_of_name 0 k names ps ([], []) within ∙ ap (λ id. set_at id ps) (let z : 0 + k ≡ k = omega arith in z))
          ∙ set_among k p ps up a
      | inr past ↦ ids_past 0 p.0 k (entries_of 0 names ps) (let l = length-entries_of 0 names ps in
          omega (arith, l, past)) ∙ sym (rise_beyond (length names) 0 k p.1 past rise)
    ])

-- the same for each list
lists_back : (names : List (List ℕ)) (ps qs : List PostingList) → Ascends (trigrams_in ps) →
    AllByRecursion (IsPostingList (length names)) qs → ((p : PostingList) → Among p qs → Among p ps) →
    map (λ g. (g, ids_from 0 g (entries_of 0 names ps))) (trigrams_in qs) ≡ qs
lists_back names ps [] up all a = refl
lists_back names ps (q ∷ qs) up all a =
    let here : ids_from 0 q.0 (entries_of 0 names ps) ≡ q.1 = list_back names q ps up all.0.1 (a q (inl refl)) in
    let rest = lists_back names ps qs up all.1 (λ p b. a p (inr b)) in
    λ i. (q.0, here i) ∷ rest i

-- ---- the trigrams of posting lists
flat_has : (g first k : ℕ) (names : List (List ℕ)) (ps : List PostingList) → k < length names →
    has (set_at (first + k) ps) g ≡ true → has (flat_map (λ (e : Entry). e.1) (entries_of first names ps)) g ≡ true
flat_has g first k [] ps h one = absurd (omega (arith, h))
flat_has g first zero (n ∷ names) ps h one = has-append g (set_at first ps) _
    ∙ or_left (has (set_at first ps) g) _ (ap (λ id. has (set_at id ps) g) (let z : first ≡ first + 0 = omega arith in
    z) ∙ one)
flat_has g first (suc k) (n ∷ names) ps h one =
    has-append g (set_at first ps) _ ∙ or_right (has (set_at first ps) g) _
    (flat_has g (first + 1) k names ps (omega (arith, h))
    (ap (λ id. has (set_at id ps) g) (let z : first + 1 + k ≡ first + suc k = omega arith in z) ∙ one))

has_flat : (g first : ℕ) (names : List (List ℕ)) (ps : List PostingList) →
    has (flat_map (λ (e : Entry). e.1) (entries_of first names ps)) g ≡ true → has (trigrams_in ps) g ≡ true
has_flat g first [] ps h = absurd (true≢false (sym h))
has_flat g first (n ∷ names) ps h =
    elim (or_cases (has (set_at first ps) g) _ (sym (has-append g (set_at first ps) _) ∙ h)) [
      | inl here ↦ elim (cases_Bool (has (trigrams_in ps) g))
          [ inl known ↦ known | inr lacks ↦ absurd (true≢false (sym here ∙ set_without first g ps lacks)) ]
      | inr there ↦ has_flat g (first + 1) names ps there
    ]

-- each trigram has a list, and the list has an id
trigram_among : (g : ℕ) (ps : List PostingList) → has (trigrams_in ps) g ≡ true → (p : PostingList) × Among p ps × (p.0 ≡ g)
trigram_among g [] h = absurd (true≢false (sym h))
trigram_among g (q ∷ qs) h =
    elim (or_cases (eqb q.0 g) (has (trigrams_in qs) g) h) [
      | inl here ↦ (q, inl refl, eqb-true q.0 g here)
      | inr there ↦ let found = trigram_among g qs there in (found.0, inr found.1, found.2)
    ]

each_among : (name_count : ℕ) (p : PostingList) (ps : List PostingList) → AllByRecursion (IsPostingList name_count) ps →
    Among p ps → IsPostingList name_count p
each_among name_count p [] all a = absurd a
each_among name_count p (q ∷ qs) all (inl e) = subst (IsPostingList name_count) (sym e) all.0
each_among name_count p (q ∷ qs) all (inr a) = each_among name_count p qs all.1 a

first_id : (name_count : ℕ) (ids : List ℕ) → ids ≢ [] → AscendWithin name_count 0 ids → (k : ℕ) × (k < name_count) × (has ids k ≡ true)
first_id name_count [] some up = absurd (some refl)
first_id name_count (id ∷ ids) some up = (id, up.1, or_left (eqb id id) _ (eq-eqb id id refl))

pub trigrams_flat : (g : ℕ) (names : List (List ℕ)) (ps : List PostingList) → ArePostingLists (length names) ps →
    has (trigrams_in ps) g ≡ true → has (flat_map (λ (e : Entry). e.1) (entries_of 0 names ps)) g ≡ true
trigrams_flat g names ps are h =
    let found = trigram_among g ps h in
    let is = each_among (length names) found.0 ps are.each found.1 in
    let id = first_id (length names) found.0.1 is.0 is.1 in
    flat_has g 0 id.0 names ps id.1 (ap (λ k. has (set_at k ps) g) (let z : 0 + id.0 ≡ id.0 = omega arith in z)
    ∙ ap (has (set_at id.0 ps)) (sym found.2) ∙ set_among id.0 found.0 ps are.ascend found.1 ∙ id.2)

-- posting lists are the lists of the names that they invert to
pub postings_gathered : (names : List (List ℕ)) (ps : List PostingList) → ArePostingLists (length names) ps →
    postings_of (entries_of 0 names ps) ≡ ps
postings_gathered names ps are =
    let entries : List Entry = entries_of 0 names ps in
    let trigrams : trigrams_of entries ≡ trigrams_in ps =
    ascends_same _ _ (ascends_set (flat_map (λ (e : Entry). e.1) entries)) are.ascend (λ g.
    has-set_of_numbers g (flat_map (λ (e : Entry). e.1) entries) ∙ same_tests _ _ (has_flat g 0 names ps) (trigrams_flat g names ps are)) in
    ap (map (λ g. (g, ids_from 0 g entries))) trigrams ∙ lists_back names ps ps are.ascend are.each (λ p a. a)
