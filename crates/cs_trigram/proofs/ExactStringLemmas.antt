-- A finite tree matches exactly the spans that are its exact strings, and an exact string has its exact runs.
use Rattle.std.proofs.Common.{◌≡◌, ℕ, zero, suc, ◌+◌, ◌-◌, ◌<◌, ◌≤◌, inl, inr, Bool, true, List, [], ◌∷◌, ◌++◌, take, drop, length, refl, sym, ◌∙◌, ap, subst, arith, append_assoc, drop-cons}
use Rattle.cs_syntax.specs.TreeList.{append}
use Rattle.std.specs.Prelude.{slice_index, nat_le, Some, None, slice_range}
use Rattle.std.proofs.Math.Seq.{take-add}
use Rattle.std.proofs.lemmas.Bool.{and_parts}
use Rattle.std.proofs.lemmas.List.{drop-drop}
use Rattle.cs_syntax.specs.Matching.{Tree, Trees, empty, one_of, one_char, cat, alt, rep, line_start, line_end, word_edge, not_word_edge, none, more, Chain, MatchesSpan, MatchesSequence, MatchesBranch}
use Rattle.cs_trigram.specs.Query.{HasTrigrams}
use Rattle.cs_trigram.specs.ExactRuns.{HasEachRun, HasEachCross, HasWhole, HasRunsWithin, AllHaveRunsWithin, HasExactRuns, SomeHasExactRuns}
use Rattle.cs_trigram.specs.MayMatch.{IsRepeated, MayMatch, MayMatchSequence, MayMatchBranch}
use Rattle.cs_trigram.specs.ExactStrings.{is_finite, are_finite}
use Rattle.cs_trigram.proofs.LeadingRunLemmas.{concatenates_one, concatenates_split}
use Rattle.cs_trigram.proofs.SubstringTrigramLemmas.{has_prefix, has_suffix}
use Rattle.cs_trigram.proofs.CrossLemmas.{ends_within, all_crosses}

pub part_empty : (s : List ℕ) (i : ℕ) → slice_range s i i ≡ []
part_empty s i = let none_left : i - i ≡ 0 = omega arith in ap (λ n. take n (drop i s)) none_left

pub part_split : (s : List ℕ) (i l j : ℕ) → i ≤ l → l ≤ j → slice_range s i j ≡ slice_range s i l ++ slice_range s l j
part_split s i l j a b =
    let sum : j - i ≡ (l - i) + (j - l) = omega arith in
    let position : i + (l - i) ≡ l = omega arith in
    ap (λ n. take n (drop i s)) sum ∙ take-add (l - i) (j - l) (drop i s)
    ∙ ap (λ (x : List ℕ). take (l - i) (drop i s) ++ take (j - l) x) (drop-drop (l - i) i s ∙ ap (λ n. drop n s) position)

part_one : (s : List ℕ) (i : ℕ) → i < length s → slice_range s i (suc i) ≡ slice_index s i ∷ []
part_one s i lt =
    let one : suc i - i ≡ 1 = omega arith in
    ap (λ n. take n (drop i s)) one ∙ ap (take 1) (drop-cons s i 0 lt)

-- the first of some iterations
first_iteration : (P : List ℕ → Type 0) (n k : ℕ) (w : List ℕ) → suc n ≤ k → IsRepeated P k w → (u v : List ℕ) × P u × (w ≡ u ++ v)
first_iteration P n zero w le r = absurd (omega arith)
first_iteration P n (suc k) w le r = (r.0, r.1, r.2, r.4)

module _ (s : List ℕ) where
  at_assertion : (i j : ℕ) → i ≡ j → (i ≤ j) × (slice_range s i j ≡ [])
  at_assertion i j e = let same : i ≤ j = omega (arith, e) in (same, ap (slice_range s i) (sym e) ∙ part_empty s i)

  iterations : (P : List ℕ → Type 0) (R : ℕ → ℕ → Type 0) → ((i j : ℕ) → R i j → (i ≤ j) × P (slice_range s i j)) →
      (k i j : ℕ) → Chain R k i j → (i ≤ j) × IsRepeated P k (slice_range s i j)
  iterations P R each zero i j c = at_assertion i j c
  iterations P R each (suc k) i j c =
      let a = each i c.0 c.1 in
      let b = iterations P R each k c.0 j c.2 in
      let long : i ≤ j = omega (arith, a.0, b.0) in
      (long, (slice_range s i c.0, slice_range s c.0 j, a.1, b.1, part_split s i c.0 j a.0 b.0))

  mutual
    pub match_is_exact : (t : Tree) (i j : ℕ) → is_finite t ≡ true → MatchesSpan s t i j → (i ≤ j) × MayMatch true t (slice_range s i j)
    match_is_exact empty i j p h =
        let same : i ≤ j = omega (arith, h) in (same, ap (slice_range s i) (sym h) ∙ part_empty s i)
    match_is_exact (one_of set) i j p h =
        let long : i ≤ j = omega (arith, h.2) in
        (long, (slice_index s i, h.1, ap (slice_range s i) h.2 ∙ part_one s i h.0))
    match_is_exact (one_char runs) i j p h = (omega (arith, h.2.0), (h.0, h.1, h.2.1))
    match_is_exact (cat ts) i j p h = match_of_all_is_exact ts i j p h
    match_is_exact (alt ts) i j p h = match_of_some_is_exact ts i j p h
    match_is_exact (rep x n None) i j p h = (cc)
    match_is_exact (rep x n (Some m)) i j p h =
        let q = and_parts (nat_le n m) (is_finite x) p in
        let r = iterations (MayMatch true x) (MatchesSpan s x) (λ a b k. match_is_exact x a b q.1 k) h.0 i j h.3 in
        (r.0, (h.0, h.1, h.2, r.1))
    match_is_exact line_start i j p h = at_assertion i j (h.0 ∙ sym h.1)
    match_is_exact line_end i j p h = at_assertion i j (h.0 ∙ sym h.1)
    match_is_exact word_edge i j p h = at_assertion i j h.0
    match_is_exact not_word_edge i j p h = at_assertion i j h.0

    pub match_of_all_is_exact : (ts : Trees) (i j : ℕ) → are_finite ts ≡ true → MatchesSequence s ts i j →
        (i ≤ j) × MayMatchSequence true ts (slice_range s i j)
    match_of_all_is_exact none i j p h =
        let same : i ≤ j = omega (arith, h) in (same, ap (slice_range s i) (sym h) ∙ part_empty s i)
    match_of_all_is_exact (more t ts) i j p h =
        let q = and_parts (is_finite t) (are_finite ts) p in
        let a = match_is_exact t i h.0 q.0 h.1 in
        let b = match_of_all_is_exact ts h.0 j q.1 h.2 in
        let long : i ≤ j = omega (arith, a.0, b.0) in
        (long, (slice_range s i h.0, slice_range s h.0 j, a.1, b.1, part_split s i h.0 j a.0 b.0))

    pub match_of_some_is_exact : (ts : Trees) (i j : ℕ) → are_finite ts ≡ true → MatchesBranch s ts i j →
        (i ≤ j) × MayMatchBranch true ts (slice_range s i j)
    match_of_some_is_exact none i j p h = absurd h
    match_of_some_is_exact (more t ts) i j p h =
        let q = and_parts (is_finite t) (are_finite ts) p in
        elim h [
          | inl a ↦ let r = match_is_exact t i j q.0 a in (r.0, inl r.1)
          | inr b ↦ let r = match_of_some_is_exact ts i j q.1 b in (r.0, inr r.1)
        ]

-- the first parts of a sequence match a prefix of the span
pub matches_prefix : (s : List ℕ) (a b : Trees) (i j : ℕ) → MatchesSequence s (append a b) i j → (l : ℕ) × MatchesSequence s a i l
matches_prefix s none b i j h = (i, refl)
matches_prefix s (more t a) b i j h = let r = matches_prefix s a b h.0 j h.2 in (r.0, (h.0, h.1, r.1))

module _ (set : ℕ → Bool) where
  runs_found : (ts : Trees) (w : List ℕ) → MayMatchSequence true ts w → HasTrigrams set w → HasEachRun set ts
  runs_found ts w j h before run after e few =
      let first = concatenates_split before (append run after) w (subst (λ (x : Trees). MayMatchSequence true x w) e j) in
      let second = concatenates_split run after first.1 first.3 in
      let rest = has_suffix set first.0 first.1 (subst (HasTrigrams set) first.4 h) in
      (second.0, second.2, has_prefix set second.0 second.1 (subst (HasTrigrams set) second.4 rest))

  crosses_found : (ts : Trees) (w : List ℕ) → MayMatchSequence true ts w → HasTrigrams set w → HasEachCross set ts
  crosses_found ts w j h before t after e =
      let first = concatenates_split before (more t after) w (subst (λ (x : Trees). MayMatchSequence true x w) e j) in
      let part = first.3 in
      let rest = subst (HasTrigrams set) part.4 (has_suffix set first.0 first.1 (subst (HasTrigrams set) first.4 h)) in
      all_crosses set t after
      (λ run behind a b m n is few small strings runs long.
      let second = concatenates_split run behind part.1 (subst (λ (x : Trees). MayMatchSequence true x part.1) is part.3) in
      let both = subst (HasTrigrams set) (ap (λ (x : List ℕ). part.0 ++ x) second.4 ∙ sym (append_assoc part.0 second.0 second.1)) rest in
      (part.0, second.0, part.2, second.2, ends_within set m n part.0 second.0 (has_prefix set (part.0 ++ second.0) second.1 both)))

  exact_has_whole : (t : Tree) (w : List ℕ) → MayMatch true t w → HasTrigrams set w → HasWhole set t
  exact_has_whole t w s h few = (w, concatenates_one t w s, h)

  mutual
    pub exact_match_has_runs_within : (t : Tree) (w : List ℕ) → MayMatch true t w → HasTrigrams set w → HasRunsWithin set t
    exact_match_has_runs_within (cat ts) w s h = (runs_found ts w s h, crosses_found ts w s h, concatenated_within ts w s h)
    exact_match_has_runs_within (alt ts) w s h = some_exact_runs ts w s h
    exact_match_has_runs_within (rep x zero m) w s h = tt
    exact_match_has_runs_within (rep x (suc n) m) w s h =
        let r = first_iteration (MayMatch true x) n s.0 w s.1 s.3 in
        let has = has_prefix set r.0 r.1 (subst (HasTrigrams set) r.3 h) in
        (exact_has_whole x r.0 r.2 has, exact_match_has_runs_within x r.0 r.2 has)
    exact_match_has_runs_within leaf w s h = tt

    concatenated_within : (ts : Trees) (w : List ℕ) → MayMatchSequence true ts w → HasTrigrams set w → AllHaveRunsWithin set ts
    concatenated_within none w s h = tt
    concatenated_within (more t ts) w s h =
        let parts = subst (HasTrigrams set) s.4 h in (
          exact_match_has_runs_within t s.0 s.2 (has_prefix set s.0 s.1 parts),
          concatenated_within ts s.1 s.3
              (has_suffix set s.0 s.1 parts),
        )

    some_exact_runs : (ts : Trees) (w : List ℕ) → MayMatchBranch true ts w → HasTrigrams set w → SomeHasExactRuns set ts
    some_exact_runs none w s h = absurd s
    some_exact_runs (more t ts) w s h =
        elim s [ inl a ↦ inl (exact_has_whole t w a h, exact_match_has_runs_within t w a h) | inr b ↦ inr (some_exact_runs ts w b h) ]

  pub exact_match_has_runs : (t : Tree) (w : List ℕ) → MayMatch true t w → HasTrigrams set w → HasExactRuns set t
  exact_match_has_runs t w s h = (exact_has_whole t w s h, exact_match_has_runs_within t w s h)
