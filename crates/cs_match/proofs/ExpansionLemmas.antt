-- The expansion matches the same spans, and is expanded.
use Rattle.std.proofs.Common.{◌≡◌, ℕ, zero, suc, ◌+◌, ◌-◌, ◌≤◌, ◌⊎◌, inl, inr, Bool, true, false, List, refl, sym, ◌∙◌, subst, arith}
use Rattle.std.specs.Prelude.{Option, Some, None, IfSome, nat_le, slice_index, ◌↔◌, if◌then◌else◌}
use Rattle.std.specs.Option.{option_map_or}
use Rattle.std.proofs.lemmas.Bool.{le-leb, leb-true, or_cases, or_left, or_right}
use Rattle.cs_syntax.specs.Matching.{Tree, Trees, empty, one_of, one_char, cat, alt, rep, line_start, line_end, word_edge, not_word_edge, none, more, Chain, MatchesSpan, MatchesSequence, MatchesBranch, HasMatch, member}
use Rattle.cs_syntax.specs.ByteSet.{union}
use Rattle.cs_syntax.proofs.ByteSetLemmas.{member_union}
use Rattle.cs_match.specs.Glushkov.{IsExpanded, AreExpanded}
use Rattle.cs_match.specs.Expansion.{copies, optional, never, repeat_expansion, union_with, union_of, alternation, expansion, expansions}

chain_map : (R S : ℕ → ℕ → Type 0) → ((i j : ℕ) → R i j → S i j) → (k i j : ℕ) → Chain R k i j → Chain S k i j
chain_map R S f zero i j h = h
chain_map R S f (suc k) i j h = (h.0, f i h.0 h.1, chain_map R S f k h.0 j h.2)

chain_split : (R : ℕ → ℕ → Type 0) (n d k i j : ℕ) → k ≡ n + d → Chain R k i j → (l : ℕ) × Chain R n i l × Chain R d l j
chain_split R zero d k i j e h =
    let same : k ≡ d = omega arith in
    let P : ℕ → Type 0 = λ x. Chain R x i j in
    (i, refl, subst P same h)
chain_split R (suc n) d zero i j e h = absurd (omega arith)
chain_split R (suc n) d (suc k) i j e h =
    let r = chain_split R n d k h.0 j (omega arith) h.2 in (r.0, (h.0, h.1, r.1), r.2)

chain_join : (R : ℕ → ℕ → Type 0) (n d k i l j : ℕ) → k ≡ n + d → Chain R n i l → Chain R d l j → Chain R k i j
chain_join R zero d k i l j e h r =
    let same : d ≡ k = omega arith in
    let P : ℕ → Type 0 = λ x. Chain R x i j in
    let Q : ℕ → Type 0 = λ x. Chain R d x j in
    subst P same (subst Q (sym h) r)
chain_join R (suc n) d zero i l j e h r = absurd (omega arith)
chain_join R (suc n) d (suc k) i l j e h r = (h.0, h.1, chain_join R n d k h.0 l j (omega arith) h.2 r)

if_some : {A : Type 0} {P Q : A → Type 0} (o : Option A) → ((x : A) → P x → Q x) → IfSome o P → IfSome o Q
if_some None f h = tt
if_some (Some x) f h = f x h

module _ (s : List ℕ) where
  copies_in : (x : Tree) (rest : Trees) (n i l j : ℕ) → Chain (MatchesSpan s x) n i l → MatchesSequence s rest l j →
      MatchesSequence s (copies n x rest) i j
  copies_in x rest zero i l j h r = let P : ℕ → Type 0 = λ y. MatchesSequence s rest y j in subst P (sym h) r
  copies_in x rest (suc n) i l j h r = (h.0, h.1, copies_in x rest n h.0 l j h.2 r)

  copies_out : (x : Tree) (rest : Trees) (n i j : ℕ) → MatchesSequence s (copies n x rest) i j →
      (l : ℕ) × Chain (MatchesSpan s x) n i l × MatchesSequence s rest l j
  copies_out x rest zero i j h = (i, refl, h)
  copies_out x rest (suc n) i j h = let r = copies_out x rest n h.0 j h.2 in (r.0, (h.0, h.1, r.1), r.2)

  optional_in : (x : Tree) (d k i j : ℕ) → k ≤ d → Chain (MatchesSpan s x) k i j → MatchesSequence s (copies d (optional x) none) i j
  optional_in x zero zero i j le h = h
  optional_in x zero (suc k) i j le h = absurd (omega arith)
  optional_in x (suc d) zero i j le h = (i, inr (inl refl), optional_in x d zero i j (omega arith) h)
  optional_in x (suc d) (suc k) i j le h = (h.0, inl h.1, optional_in x d k h.0 j (omega arith) h.2)

  optional_out : (x : Tree) (d i j : ℕ) → MatchesSequence s (copies d (optional x) none) i j →
      (k : ℕ) × (k ≤ d) × Chain (MatchesSpan s x) k i j
  optional_out x zero i j h = (0, omega arith, h)
  optional_out x (suc d) i j h =
      let r = optional_out x d h.0 j h.2 in
      elim h.1 [
        | inl first ↦ (suc r.0, omega (arith, r.1), (h.0, first, r.2))
        | inr other ↦
            elim other [
              | inl same ↦ let P : ℕ → Type 0 = λ y. Chain (MatchesSpan s x) r.0 y j in (r.0, omega (arith, r.1), subst P (sym same) r.2)
              | inr nothing ↦ absurd nothing
            ]
      ]

  counted_in : (x : Tree) (n : ℕ) (m : Option ℕ) (i j : ℕ) → MatchesSpan s (rep x n m) i j → MatchesSpan s (repeat_expansion x n m) i j
  counted_in x zero None i j h = h
  counted_in x (suc n) None i j h =
      let r = chain_split (MatchesSpan s x) n (h.0 - n) h.0 i j (omega (arith, h.1)) h.3 in
      copies_in x (more (rep x 1 None) none) n i r.0 j r.1 (j, (h.0 - n, omega (arith, h.1), tt, r.2), refl)
  counted_in x n (Some m) i j h =
      let le : n ≤ m = omega (arith, h.1, h.2) in
      let r = chain_split (MatchesSpan s x) n (h.0 - n) h.0 i j (omega (arith, h.1)) h.3 in
      rw (le-leb n m le) (copies_in x (copies (m - n) (optional x) none) n i r.0 j r.1
      (optional_in x (m - n) (h.0 - n) r.0 j (omega (arith, h.1, h.2)) r.2))

  chosen_out : (x : Tree) (n m : ℕ) (b : Bool) (i j : ℕ) → nat_le n m ≡ b →
      MatchesSpan s (if b then cat (copies n x (copies (m - n) (optional x) none)) else never) i j → MatchesSpan s (rep x n (Some m)) i j
  chosen_out x n m true i j e h =
      let le : n ≤ m = leb-true n m e in
      let r = copies_out x (copies (m - n) (optional x) none) n i j h in
      let t = optional_out x (m - n) r.0 j r.2 in
      (n + t.0, omega arith, omega (arith, t.1), chain_join (MatchesSpan s x) n t.0 (n + t.0) i r.0 j refl r.1 t.2)
  chosen_out x n m false i j e h = absurd h

  counted_out : (x : Tree) (n : ℕ) (m : Option ℕ) (i j : ℕ) → MatchesSpan s (repeat_expansion x n m) i j → MatchesSpan s (rep x n m) i j
  counted_out x zero None i j h = h
  counted_out x (suc n) None i j h =
      let r = copies_out x (more (rep x 1 None) none) n i j h in
      let loop = r.2.1 in
      let P : ℕ → Type 0 = λ y. Chain (MatchesSpan s x) loop.0 r.0 y in
      (n + loop.0, omega (arith, loop.1), tt, chain_join (MatchesSpan s x) n loop.0 (n + loop.0) i r.0 j refl r.1 (subst P r.2.2 loop.3))
  counted_out x n (Some m) i j h = chosen_out x n m (nat_le n m) i j refl h

  in_union : (set other : List Bool) (i j : ℕ) → MatchesSpan s (one_of set) i j ⊎ MatchesSpan s (one_of other) i j →
      MatchesSpan s (one_of (union set other)) i j
  in_union set other i j h =
      let b = slice_index s i in
      elim h [
        | inl p ↦ (p.0, member_union set other b ∙ or_left (member set b) (member other b) p.1, p.2)
        | inr p ↦ (p.0, member_union set other b ∙ or_right (member set b) (member other b) p.1, p.2)
      ]

  of_union : (set other : List Bool) (i j : ℕ) → MatchesSpan s (one_of (union set other)) i j →
      MatchesSpan s (one_of set) i j ⊎ MatchesSpan s (one_of other) i j
  of_union set other i j h =
      let b = slice_index s i in
      elim (or_cases (member set b) (member other b) (sym (member_union set other b) ∙ h.1)) [
        | inl p ↦ inl (h.0, p, h.2)
        | inr p ↦ inr (h.0, p, h.2)
      ]

  union_matches : (set : List Bool) (ts : Trees) (i j : ℕ) →
      IfSome (union_with set ts) (λ all. MatchesSpan s (one_of all) i j ↔ (MatchesSpan s (one_of set) i j ⊎ MatchesBranch s ts i j))
  union_matches set none i j = (λ h. inl h, λ h. elim h [ inl p ↦ p | inr p ↦ absurd p ])
  union_matches set (more (one_of other) ts) i j =
      if_some (union_with (union set other) ts) (λ all h. (
        λ m. elim (h.0 m) [
          | inl p ↦ elim (of_union set other i j p) [ inl q ↦ inl q | inr q ↦ inr (inl q) ]
          | inr p ↦ inr (inr p)
        ],
        λ m. h.1 (elim m [
          | inl p ↦ inl (in_union set other i j (inl p))
          | inr p ↦ elim p [ inl q ↦ inl (in_union set other i j (inr q)) | inr q ↦ inr q ]
        ]),
      )) (union_matches (union set other) ts i j)
  union_matches set (more t ts) i j = tt

  chosen_matches : (o : Option (List Bool)) (t : Tree) (R : Type 0) (i j : ℕ) → IfSome o (λ all. MatchesSpan s (one_of all) i j ↔ R) →
      (MatchesSpan s t i j ↔ R) → MatchesSpan s (option_map_or one_of o t) i j ↔ R
  chosen_matches None t R i j h other = other
  chosen_matches (Some all) t R i j h other = h

  alternation_matches : (ts : Trees) (i j : ℕ) → MatchesSpan s (alternation ts) i j ↔ MatchesBranch s ts i j
  alternation_matches (more (one_of set) ts) i j =
      chosen_matches (union_with set ts) (alt (more (one_of set) ts)) _ i j (union_matches set ts i j) (λ h. h, λ h. h)
  alternation_matches ts i j = (λ h. h, λ h. h)

  mutual
    pub matches_expansion : (t : Tree) (i j : ℕ) → MatchesSpan s t i j → MatchesSpan s (expansion t) i j
    matches_expansion empty i j h = h
    matches_expansion (one_of set) i j h = h
    matches_expansion (one_char ranges) i j h = h
    matches_expansion (cat ts) i j h = matches_all_expansions ts i j h
    matches_expansion (alt ts) i j h = (alternation_matches (expansions ts) i j).1 (matches_some_expansions ts i j h)
    matches_expansion (rep x n m) i j h =
        counted_in (expansion x) n m i j (
          h.0,
          h.1,
          h.2,
          chain_map (MatchesSpan s x) (MatchesSpan s (expansion x))
              (matches_expansion x) h.0 i j h.3,
        )
    matches_expansion line_start i j h = h
    matches_expansion line_end i j h = h
    matches_expansion word_edge i j h = h
    matches_expansion not_word_edge i j h = h

    pub matches_all_expansions : (ts : Trees) (i j : ℕ) → MatchesSequence s ts i j → MatchesSequence s (expansions ts) i j
    matches_all_expansions none i j h = h
    matches_all_expansions (more t ts) i j h = (h.0, matches_expansion t i h.0 h.1, matches_all_expansions ts h.0 j h.2)

    pub matches_some_expansions : (ts : Trees) (i j : ℕ) → MatchesBranch s ts i j → MatchesBranch s (expansions ts) i j
    matches_some_expansions none i j h = h
    matches_some_expansions (more t ts) i j h =
        elim h [ inl p ↦ inl (matches_expansion t i j p) | inr p ↦ inr (matches_some_expansions ts i j p) ]

  mutual
    pub matches_as_read : (t : Tree) (i j : ℕ) → MatchesSpan s (expansion t) i j → MatchesSpan s t i j
    matches_as_read empty i j h = h
    matches_as_read (one_of set) i j h = h
    matches_as_read (one_char ranges) i j h = h
    matches_as_read (cat ts) i j h = matches_all_as_read ts i j h
    matches_as_read (alt ts) i j h = matches_some_as_read ts i j ((alternation_matches (expansions ts) i j).0 h)
    matches_as_read (rep x n m) i j h =
        let r = counted_out (expansion x) n m i j h in
        (r.0, r.1, r.2, chain_map (MatchesSpan s (expansion x)) (MatchesSpan s x) (matches_as_read x) r.0 i j r.3)
    matches_as_read line_start i j h = h
    matches_as_read line_end i j h = h
    matches_as_read word_edge i j h = h
    matches_as_read not_word_edge i j h = h

    pub matches_all_as_read : (ts : Trees) (i j : ℕ) → MatchesSequence s (expansions ts) i j → MatchesSequence s ts i j
    matches_all_as_read none i j h = h
    matches_all_as_read (more t ts) i j h = (h.0, matches_as_read t i h.0 h.1, matches_all_as_read ts h.0 j h.2)

    pub matches_some_as_read : (ts : Trees) (i j : ℕ) → MatchesBranch s (expansions ts) i j → MatchesBranch s ts i j
    matches_some_as_read none i j h = h
    matches_some_as_read (more t ts) i j h = elim h [ inl p ↦ inl (matches_as_read t i j p) | inr p ↦ inr (matches_some_as_read ts i j p) ]

pub expansion_matches : (t : Tree) (s : List ℕ) → HasMatch (expansion t) s ↔ HasMatch t s
expansion_matches t s =
    (λ f. (f.0, f.1, f.2, f.3, matches_as_read s t f.0 f.1 f.4), λ f. (f.0, f.1, f.2, f.3, matches_expansion s t f.0 f.1 f.4))

copies_expanded : (t : Tree) (n : ℕ) (rest : Trees) → IsExpanded t → AreExpanded rest → AreExpanded (copies n t rest)
copies_expanded t zero rest h r = r
copies_expanded t (suc n) rest h r = (h, copies_expanded t n rest h r)

chosen_expanded : (b : Bool) (ts : Trees) → AreExpanded ts → IsExpanded (if b then cat ts else never)
chosen_expanded true ts h = h
chosen_expanded false ts h = tt

repeat_expanded : (t : Tree) (n : ℕ) (m : Option ℕ) → IsExpanded t → IsExpanded (repeat_expansion t n m)
repeat_expanded t zero None h = (omega arith, refl, h)
repeat_expanded t (suc n) None h = copies_expanded t n (more (rep t 1 None) none) h ((omega arith, refl, h), tt)
repeat_expanded t n (Some m) h =
    chosen_expanded (nat_le n m) _
    (copies_expanded t n (copies (m - n) (optional t) none) h (copies_expanded (optional t) (m - n) none (h, (tt, tt)) tt))

-- what is so for the alternation and for each set
pub alternation_is : (P : Tree → Type 0) (ts : Trees) → P (alt ts) → ((set : List Bool) → P (one_of set)) → P (alternation ts)
alternation_is P ts other h = chosen (union_of ts)
  where
    chosen : (o : Option (List Bool)) → P (option_map_or one_of o (alt ts))
    chosen None = other
    chosen (Some set) = h set

mutual
  pub is_expanded : (t : Tree) → IsExpanded (expansion t)
  is_expanded (cat ts) = are_expanded ts
  is_expanded (alt ts) = alternation_is IsExpanded (expansions ts) (are_expanded ts) (λ set. tt)
  is_expanded (rep x n m) = repeat_expanded (expansion x) n m (is_expanded x)
  is_expanded leaf = tt

  pub are_expanded : (ts : Trees) → AreExpanded (expansions ts)
  are_expanded none = tt
  are_expanded (more t ts) = (is_expanded t, are_expanded ts)
