-- ExactSet sets of sequences, alternations and repeats.
use Rattle.std.proofs.Math.Bool.{and-true}
use Rattle.std.proofs.Math.Dec.{eqb-suc-zero}
use Rattle.std.proofs.Math.Seq.{take-suc}
use Rattle.std.proofs.Common.{get_or, take, reverse, ◌≡◌, ℕ, zero, suc, ◌+◌, ◌-◌, ◌<◌, ◌≤◌, ◌&&◌, ◌⊎◌, inl, inr, true, map, List, [], ◌∷◌, length, refl, sym, ◌∙◌, ap, subst, arith, Vec, Global, ◌++◌}
use Rattle.std.proofs.lemmas.List.{reverse-append, append_cancel_left, append_cancel_right, length-map}
use Rattle.cs_tree.specs.Cover.{is_among}
use Rattle.std.proofs.lemmas.Bool.{and_from, le-leb, both_ways}
use Rattle.std.specs.Prelude.{Some, nat_le, nat_eq}
use Rattle.cs_syntax.specs.Matching.{Tree, Trees, cat, alt, rep, empty, none, more}
use Rattle.cs_trigram.specs.MayMatch.{IsRepeated, MayMatch, MayMatchBranch}
use Rattle.cs_trigram.specs.ExactStrings.{HaveFewExactStrings, is_finite, are_finite}
use Rattle.cs_trigram.specs.Analysis.{IsEnumeration, EnumeratesTree}
use Rattle.cs_trigram.specs.ExactSet.{HasMany, HasNoString, HasAString, TellsEmpty, IsExactSetOf, AreExactSetsOf, AreExactSetsReversed}
use Rattle.cs_trigram.specs.declared.exact_set.ExactSet.{ExactSet}
use Rattle.cs_trigram.specs.declared.exact_set.ExactSet.TheVariants.{Strings, Many, Infinite}
use Rattle.cs_trigram.proofs.MemberLemmas.{first_member, no_member, different_within, different_map, member_map}
use Rattle.cs_trigram.proofs.EnumerationLemmas.{enumeration_same}
use Rattle.cs_trigram.specs.declared.exact_set.ExactString.{ExactString}
use Rattle.cs_trigram.proofs.RepeatLemmas.{longer_iterations, iterations_longer}
use Rattle.cs_trigram.proofs.LeadingRunLemmas.{concatenates_one, exact_of_one, tree_not_finite}

abbrev pub pair : Tree → Tree → Trees
pair t u = more t (more u none)

pub pair_finite : (t u : Tree) → is_finite t ≡ true → is_finite u ≡ true → are_finite (pair t u) ≡ true
pair_finite t u f g = and_from (is_finite t) (is_finite u && true) f (and_from (is_finite u) true g refl)

-- the same strings, for another tree
pub enumerates_as : (ws : List (List ℕ)) (t u : Tree) → EnumeratesTree ws t → is_finite u ≡ true →
    ((w : List ℕ) → MayMatch true t w → MayMatch true u w) → ((w : List ℕ) → MayMatch true u w → MayMatch true t w)
    → EnumeratesTree ws u
enumerates_as ws t u s f to from = (f, enumeration_same ws (MayMatch true t) (MayMatch true u) s.1 to from)

pub many_as : (P R : List ℕ → Type 0) → HasMany P → ((w : List ℕ) → P w → R w) → HasMany R
many_as P R many to = (many.0, many.1, many.2, λ w m. to w (many.3 w m))

pub exact_set_as : (c : ExactSet) (t u : Tree) → IsExactSetOf c t → is_finite t ≡ is_finite u →
    ((w : List ℕ) → MayMatch true t w → MayMatch true u w) → ((w : List ℕ) → MayMatch true u w → MayMatch true t w)
    → IsExactSetOf c u
exact_set_as (Strings strings) t u h e to from = (h.0, enumerates_as strings.items t u h.1 (sym e ∙ h.1.0) to from)
exact_set_as Many t u h e to from = (sym e ∙ h.0, many_as (MayMatch true t) (MayMatch true u) h.1 to)
exact_set_as Infinite t u h e to from = sym e ∙ h

pub exact_set_one : (c : ExactSet) (t : Tree) → IsExactSetOf c t → IsExactSetOf c (cat (more t none))
exact_set_one c t h = exact_set_as c t (cat (more t none)) h (sym (and-true (is_finite t))) (concatenates_one t) (exact_of_one t)

one_of_many : (P : List ℕ → Type 0) → HasMany P → (w : List ℕ) × P w
one_of_many P many = by many.0 many.1 many.3
  where
    by : (ws : List (List ℕ)) → 20 < length ws → ((w : List ℕ) → is_among ws w ≡ true → P w) → (w : List ℕ) × P w
    by [] lt right = absurd (omega arith)
    by (w ∷ ws) lt right = (w, right w (first_member w w ws refl))

many_by : (P R : List ℕ → Type 0) (f : List ℕ → List ℕ) → HasMany P → ((u v : List ℕ) → f u ≡ f v → u ≡ v) →
    ((w : List ℕ) → P w → R (f w)) → HasMany R
many_by P R f many once to = (
  map f many.0,
  rw (length-map many.0 f) many.1,
  different_map f once many.0 many.2,
  λ w m. let r = member_map f w many.0 m in subst R (sym r.2) (to r.0 (many.3 r.0 r.1)),
)

-- a tree that has more than twenty strings does not have few
many_not_few : (t : Tree) → HasMany (MayMatch true t) → HaveFewExactStrings (more t none) → ⊥
many_not_few t many few =
    let fits = different_within many.0 few.1.1.0 many.2 (λ w m. few.1.1.2 w (concatenates_one t w (many.3 w m))) in
    absurd (omega (arith, fits, many.1, few.1.1.1))

-- the strings of the set, where it has them
pub exact_set_has : (c : ExactSet) (t : Tree) → IsExactSetOf c t → is_finite t ≡ true →
    ((strings : Vec ExactString Global) → c ≡ Strings strings → ⊥) → HasMany (MayMatch true t)
exact_set_has (Strings strings) t h f other = absurd (other strings refl)
exact_set_has Many t h f other = h.1
exact_set_has Infinite t h f other = absurd (both_ways (is_finite t) h f)

no_string_of : (ws : List (List ℕ)) (t : Tree) → EnumeratesTree ws t → length ws ≡ 0 → HasNoString t
no_string_of [] t s e = λ w h. no_member w (s.1.whole (omega arith) w h)
no_string_of (x ∷ ws) t s e = absurd (omega arith)

a_string_of : (ws : List (List ℕ)) (t : Tree) → EnumeratesTree ws t → 0 < length ws → HasAString t
a_string_of [] t s lt = absurd (omega arith)
a_string_of (w ∷ ws) t s lt = (w, s.1.right w (first_member w w ws refl))

pub tells_empty : (ws : List (List ℕ)) (t : Tree) (n : ℕ) → EnumeratesTree ws t → n ≡ length ws → TellsEmpty (nat_eq n 0) t
tells_empty ws t zero s e = no_string_of ws t s (sym e)
tells_empty ws t (suc n) s e = subst (λ b. TellsEmpty b t) (sym (eqb-suc-zero n)) (a_string_of ws t s (omega (arith, e)))

pub a_string_of_many : (t : Tree) → HasMany (MayMatch true t) → HasAString t
a_string_of_many t many = one_of_many (MayMatch true t) many

-- the concatenations of no string, and of more than twenty
pub no_concatenation : (ws : List (List ℕ)) (t : Tree) (ts : Trees) → ws ≡ [] → is_finite t ≡ true → are_finite ts
    ≡ true → HasNoString t ⊎ HasNoString (cat ts) → EnumeratesTree ws (cat (more t ts))
no_concatenation ws t ts e f g bare =
    let enumeration : IsEnumeration [] (MayMatch true (cat (more t ts))) = record {
      right = λ w m. absurd (no_member w m);
      different = refl;
      whole = λ le w j. absurd (elim bare [ inl a ↦ a j.0 j.2 | inr b ↦ b j.1 j.3 ]);
    } in (
      and_from (is_finite t) (are_finite ts) f g,
      subst (λ (xs : List (List ℕ)). IsEnumeration xs (MayMatch true (cat (more t ts)))) (sym e) enumeration,
    )

pub many_prefixes : (t : Tree) (ts : Trees) → HasMany (MayMatch true t) → HasAString (cat ts) → HasMany (MayMatch true (cat (more t ts)))
many_prefixes t ts many one =
    many_by (MayMatch true t) (MayMatch true (cat (more t ts))) (λ w. w ++ one.0) many
    (λ a b e. append_cancel_right a b one.0 e) (λ w h. (w, one.0, h, one.1, refl))

pub many_suffixes : (t : Tree) (ts : Trees) → HasAString t → HasMany (MayMatch true (cat ts)) → HasMany (MayMatch true (cat (more t ts)))
many_suffixes t ts one many =
    many_by (MayMatch true (cat ts)) (MayMatch true (cat (more t ts))) (λ w. one.0 ++ w) many
    (λ a b e. append_cancel_left one.0 a b e) (λ w h. (one.0, w, one.1, h, refl))

-- one more iteration
pub rep_finite : (t : Tree) (n m : ℕ) → is_finite t ≡ true → n ≤ m → is_finite (rep t n (Some m)) ≡ true
rep_finite t n m f le = and_from (nat_le n m) (is_finite t) (le-leb n m le) f

pub exact_set_iteration : (c : ExactSet) (t : Tree) (n m : ℕ) → is_finite t ≡ true → n ≤ m →
    IsExactSetOf c (cat (pair t (rep t n (Some m)))) → IsExactSetOf c (rep t (n + 1) (Some (m + 1)))
exact_set_iteration c t n m f le h =
    exact_set_as c (cat (pair t (rep t n (Some m)))) (rep t (n + 1) (Some (m + 1))) h
    (pair_finite t (rep t n (Some m)) f (rep_finite t n m f le) ∙ sym (rep_finite t (n + 1) (m + 1) f (omega arith)))
    (λ w j. longer_iterations (MayMatch true t) n m w (j.0, j.1, j.2, exact_of_one (rep t n (Some m)) j.1 j.3, j.4))
    (λ w r. let l = iterations_longer (MayMatch true t) n m w r.0 r.1 r.2 r.3 in
    (l.0, l.1, l.2, concatenates_one (rep t n (Some m)) l.1 l.3, l.4))

pub exact_set_iterations : (c : ExactSet) (t : Tree) (k : ℕ) → is_finite t ≡ true →
    IsExactSetOf c (alt (pair (cat (pair t (rep t 0 (Some k)))) empty)) → IsExactSetOf c (rep t 0 (Some (k + 1)))
exact_set_iterations c t k f h =
    let r = rep t 0 (Some k) in
    exact_set_as c (alt (pair (cat (pair t r)) empty)) (rep t 0 (Some (k + 1))) h
    (pair_finite (cat (pair t r)) empty (pair_finite t r f (rep_finite t 0 k f (omega arith))) refl
    ∙ sym (rep_finite t 0 (k + 1) f (omega arith)))
    (λ w j. elim j [
      | inl a ↦
          let l = longer_iterations (MayMatch true t) 0 k w (a.0, a.1, a.2, exact_of_one r a.1 a.3, a.4) in
          (l.0, omega arith, l.2, l.3)
      | inr b ↦ elim b [ inl e ↦ (0, omega arith, omega arith, e) | inr n ↦ absurd n ]
    ])
    (λ w q. by w q.0 q.2 q.3)
  where
    by : (w : List ℕ) (n : ℕ) → n ≤ k + 1 → IsRepeated (MayMatch true t) n w →
        MayMatchBranch true (pair (cat (pair t (rep t 0 (Some k)))) empty) w
    by w zero le q = inr (inl q)
    by w (suc n) le q =
        let l = iterations_longer (MayMatch true t) 0 k w (suc n) (omega arith) le q in
        inl (l.0, l.1, l.2, concatenates_one (rep t 0 (Some k)) l.1 l.3, l.4)

-- one more of i iterations, at most o of them optional
pub required_iteration : (c : ExactSet) (t : Tree) (i o : ℕ) → is_finite t ≡ true → o ≤ i →
    IsExactSetOf c (cat (pair t (rep t (i - o) (Some i)))) → IsExactSetOf c (rep t (i + 1 - o) (Some (i + 1)))
required_iteration c t i o f le h =
    let next : i - o + 1 ≡ i + 1 - o = omega arith in
    subst (λ n. IsExactSetOf c (rep t n (Some (i + 1)))) next (exact_set_iteration c t (i - o) i f (omega arith) h)

pub optional_iteration : (c : ExactSet) (t : Tree) (i o : ℕ) → is_finite t ≡ true → i < o →
    IsExactSetOf c (alt (pair (cat (pair t (rep t (i - o) (Some i)))) empty)) →
    IsExactSetOf c (rep t (i + 1 - o) (Some (i + 1)))
optional_iteration c t i o f lt h =
    let before : i - o ≡ 0 = omega arith in
    let after : 0 ≡ i + 1 - o = omega arith in
    subst (λ n. IsExactSetOf c (rep t n (Some (i + 1)))) after
    (exact_set_iterations c t i f (subst (λ n. IsExactSetOf c (alt (pair (cat (pair t (rep t n (Some i)))) empty)))
    before h))

-- an exact set that does not have few strings
pub exact_set_not_few : (c : ExactSet) (t : Tree) → IsExactSetOf c t →
    ((strings : Vec ExactString Global) → c ≡ Strings strings → length strings.items ≡ 0) →
    HaveFewExactStrings (more t none) → ⊥
exact_set_not_few (Strings strings) t h bare few =
    no_string_of strings.items t h.1 (bare strings refl) few.1.0.0 (exact_of_one t few.1.0.0 few.1.0.1)
exact_set_not_few Many t h bare few = many_not_few t h.1 few
exact_set_not_few Infinite t h bare few = tree_not_finite t h few

pub exact_set_first : (counts : List ExactSet) (n : ℕ) (c : ExactSet) (ts : Trees) → n < length counts →
    c ≡ get_or counts n c → AreExactSetsReversed (take (n + 1) counts) ts →
    (t : Tree) × (rest : Trees) × (ts ≡ more t rest) × IsExactSetOf c t × AreExactSetsReversed (take n counts) rest
exact_set_first counts n c ts lt is h =
    let next : n + 1 ≡ suc n = omega arith in
    let same : reverse (take (n + 1) counts) ≡ c ∷ reverse (take n counts) =
    ap (λ k. reverse (take k counts)) next ∙ ap reverse (take-suc counts n c lt)
    ∙ reverse-append (take n counts) (get_or counts n c ∷ [])
    ∙ ap (λ (x : ExactSet). x ∷ reverse (take n counts)) (sym is) in
    by ts (subst (λ (cs : List ExactSet). AreExactSetsOf cs ts) same h)
  where
    by : (us : Trees) → AreExactSetsOf (c ∷ reverse (take n counts)) us →
        (t : Tree) × (rest : Trees) × (us ≡ more t rest) × IsExactSetOf c t × AreExactSetsReversed (take n counts) rest
    by none k = absurd k
    by (more t rest) k = (t, rest, refl, k.0, k.1)
