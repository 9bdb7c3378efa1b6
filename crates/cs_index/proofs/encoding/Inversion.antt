-- Inversion: from names with trigrams to trigrams with ids, and back.
use Rattle.std.proofs.Common.{◌≡◌, ℕ, zero, suc, ◌+◌, ◌<◌, Bool, true, false, cond, ◌&&◌, ◌||◌, eqb, List, [], ◌∷◌, length, map, get_or, refl, sym, ap, ◌∙◌, inl, inr, arith}
use Rattle.std.proofs.Math.Bool.{and-false}
use Rattle.cs_index.specs.PostingLists.{set_at}
use Rattle.cs_trigram.specs.Trigram.{has, Ascends}
use Rattle.std.proofs.lemmas.Bool.{cases_Bool, cond_both, eqb-true, eq-eqb, ne_eqb, or_left, or_right}
use Rattle.std.specs.Prelude.{flat_map, filter}
use Rattle.cs_index.specs.Encoding.{Entry, ids_from, PostingList, postings_of, trigrams_of}
use Rattle.cs_trigram.proofs.SetLemmas.{Above, ascends_cons, ascends_tail, ascends_head, ascends_set, has-set_of_numbers, has-append, ascends_same}

pub id_below : (first g id : ℕ) (entries : List Entry) → id < first → has (ids_from first g entries) id ≡ false
id_below first g id [] h = refl
id_below first g id (entry ∷ entries) h =
    let rest : has (ids_from (first + 1) g entries) id ≡ false = id_below (first + 1) g id entries (omega (arith, h)) in
    let apart : eqb first id ≡ false = ne_eqb first id (λ e. absurd (omega (arith, e, h))) in
    cond_both (has entry.1 g) (first ∷ ids_from (first + 1) g entries) (ids_from (first + 1) g entries) (λ ids. has ids id ≡ false)
    (λ _. ap (λ t. t || has (ids_from (first + 1) g entries) id) apart ∙ rest) (λ _. rest)

-- the list of a trigram has an id exactly if the name has the trigram
pub id_has : (first g k : ℕ) (entries : List Entry) (d : Entry) → k < length entries →
    has (ids_from first g entries) (first + k) ≡ has (get_or entries k d).1 g
id_has first g k [] d h = absurd (omega (arith, h))
id_has first g zero (entry ∷ entries) d h =
    let at : first + 0 ≡ first = omega arith in
    ap (has (ids_from first g (entry ∷ entries))) at
    ∙ elim (has entry.1 g) as (λ b. has (cond b (first ∷ ids_from (first + 1) g entries) (ids_from (first + 1) g entries)) first ≡ b) [
      | true ↦ or_left (eqb first first) _ (eq-eqb first first refl)
      | false ↦ id_below (first + 1) g first entries (omega arith)
    ]
id_has first g (suc k) (entry ∷ entries) d h =
    let rest : has (ids_from (first + 1) g entries) (first + 1 + k) ≡ has (get_or entries k d).1 g =
    id_has (first + 1) g k entries d (omega (arith, h)) in
    let at : first + suc k ≡ first + 1 + k = omega arith in
    let apart : eqb first (first + 1 + k) ≡ false = ne_eqb first (first + 1 + k) (λ e. absurd (omega (arith, e))) in
    ap (has (ids_from first g (entry ∷ entries))) at
    ∙ cond_both (has entry.1 g) (first ∷ ids_from (first + 1) g entries) (ids_from (first + 1) g entries)
    (λ ids. has ids (first + 1 + k) ≡ has (get_or entries k d).1 g)
    (λ _. ap (λ t. t || has (ids_from (first + 1) g entries) (first + 1 + k)) apart ∙ rest) (λ _. rest)

-- the trigrams whose lists have an id
pub has-set_at : (f : ℕ → List ℕ) (g id : ℕ) (gs : List ℕ) → has (set_at id (map (λ h. (h, f h)) gs)) g ≡ (has gs g && has (f g) id)
has-set_at f g id [] = refl
has-set_at f g id (h ∷ hs) =
    let rest = has-set_at f g id hs in
    elim (cases_Bool (eqb h g)) [
      | inl here ↦
          let is : h ≡ g = eqb-true h g here in
          ap (λ k. has (set_at id (map (λ h. (h, f h)) (k ∷ hs))) g) is
          ∙ elim (has (f g) id) as (λ b. has (set_at id (map (λ h. (h, f h)) hs)) g ≡ (has hs g && b) →
          has (map (λ (p : PostingList). p.0) (cond b
          ((g, f g) ∷ filter (λ (p : PostingList). has p.1 id) (map (λ h. (h, f h)) hs))
          (filter (λ (p : PostingList). has p.1 id) (map (λ h. (h, f h)) hs)))) g ≡ b) [
            | true ↦ λ _. or_left (eqb g g) _ (eq-eqb g g refl)
            | false ↦ λ r. r ∙ and-false (has hs g)
          ] rest
          ∙ sym (ap (λ t. (t || has hs g) && has (f g) id) here)
      | inr apart ↦
          cond_both (has (f h) id) ((h, f h) ∷ filter (λ (p : PostingList). has p.1 id) (map (λ h. (h, f h)) hs))
          (filter (λ (p : PostingList). has p.1 id) (map (λ h. (h, f h)) hs))
          (λ ps. has (map (λ (p : PostingList). p.0) ps) g ≡ (has hs g && has (f g) id))
          (λ _. ap (λ t. t || has (set_at id (map (λ h. (h, f h)) hs)) g) apart ∙ rest) (λ _. rest)
          ∙ sym (ap (λ t. (t || has hs g) && has (f g) id) apart)
    ]

-- a trigram of one name is a trigram of the index
some_set : (g k : ℕ) (entries : List Entry) (d : Entry) → k < length entries → has (get_or entries k d).1 g ≡ true →
    has (flat_map (λ (entry : Entry). entry.1) entries) g ≡ true
some_set g k [] d h one = absurd (omega (arith, h))
some_set g zero (entry ∷ entries) d h one = has-append g entry.1 _ ∙ or_left (has entry.1 g) _ one
some_set g (suc k) (entry ∷ entries) d h one = has-append g entry.1 _
    ∙ or_right (has entry.1 g) _ (some_set g k entries d (omega (arith, h)) one)

above_set_at : (f : ℕ → List ℕ) (n id : ℕ) (gs : List ℕ) → Above n gs → Ascends gs → Above n (set_at id (map (λ h. (h, f h)) gs))
above_set_at f n id [] h up = tt
above_set_at f n id (g ∷ gs) h up =
    cond_both (has (f g) id) ((g, f g) ∷ filter (λ (p : PostingList). has p.1 id) (map (λ h. (h, f h)) gs))
    (filter (λ (p : PostingList). has p.1 id) (map (λ h. (h, f h)) gs))
    (λ ps. Above n (map (λ (p : PostingList). p.0) ps))
    (λ _. h) (λ _. above_set_at f n id gs (further gs (ascends_head g gs up)) (ascends_tail g gs up))
  where
    further : (ks : List ℕ) → Above g ks → Above n ks
    further [] a = tt
    further (k ∷ ks) a = omega (arith, h, a)

pub ascends_set_at : (f : ℕ → List ℕ) (id : ℕ) (gs : List ℕ) → Ascends gs → Ascends (set_at id (map (λ h. (h, f h)) gs))
ascends_set_at f id [] up = tt
ascends_set_at f id (g ∷ gs) up =
    let rest = ascends_set_at f id gs (ascends_tail g gs up) in
    cond_both (has (f g) id) ((g, f g) ∷ filter (λ (p : PostingList). has p.1 id) (map (λ h. (h, f h)) gs))
    (filter (λ (p : PostingList). has p.1 id) (map (λ h. (h, f h)) gs))
    (λ ps. Ascends (map (λ (p : PostingList). p.0) ps))
    (λ _. ascends_cons g _ (above_set_at f g id gs (ascends_head g gs up) (ascends_tail g gs up)) rest) (λ _. rest)

-- the set of a name is read back from the lists
pub set_back : (entries : List Entry) (k : ℕ) (d : Entry) → k < length entries → Ascends (get_or entries k d).1 →
    set_at k (postings_of entries) ≡ (get_or entries k d).1
set_back entries k d h up =
    ascends_same _ _ (ascends_set_at (λ h. ids_from 0 h entries) k (trigrams_of entries)
    (ascends_set (flat_map (λ (entry : Entry). entry.1) entries))) up (λ g.
    has-set_at (λ h. ids_from 0 h entries) g k (trigrams_of entries)
    ∙ ap (λ t. t && has (ids_from 0 g entries) k) (has-set_of_numbers g (flat_map (λ (entry : Entry). entry.1) entries))
    ∙ ap (λ t. has (flat_map (λ (entry : Entry). entry.1) entries) g && t)
    (ap (has (ids_from 0 g entries)) (let z : k ≡ 0 + k = omega arith in z) ∙ id_has 0 g k entries d h)
    ∙ both g (has (get_or entries k d).1 g) refl)
  where
    both : (g : ℕ) (b : Bool) → has (get_or entries k d).1 g ≡ b → (has (flat_map (λ (entry : Entry). entry.1) entries) g && b) ≡ b
    both g true e = ap (λ t. t && true) (some_set g k entries d h e)
    both g false e = elim (has (flat_map (λ (entry : Entry). entry.1) entries) g) as (λ t. (t && false) ≡ false)
        [ true ↦ refl | false ↦ refl ]
