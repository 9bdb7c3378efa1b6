-- The query of a sequence is small: each part pays for the strings of few runs.
use Rattle.std.proofs.Common.{◌≡◌, ℕ, zero, suc, ◌+◌, ◌-◌, ◌*◌, ◌<◌, ◌≤◌, inl, inr, true, List, [], ◌∷◌, ◌++◌, length, map, take, refl, sym, ◌∙◌, ap, subst, arith, length-append}
use Rattle.std.specs.List.{sum_by}
use Rattle.std.proofs.Math.Seq.{take-append_seam}
use Rattle.std.proofs.lemmas.Bool.{cases_lt}
use Rattle.std.proofs.lemmas.List.{append_cancel_left, length-map}
use Rattle.cs_tree.specs.Cover.{is_among}
use Rattle.cs_tree.specs.Folders.{are_distinct}
use Rattle.cs_syntax.specs.TreeList.{append}
use Rattle.cs_syntax.specs.Matching.{Tree, Trees, cat, none, more}
use Rattle.cs_syntax.specs.Weight.{weight, weights}
use Rattle.cs_trigram.specs.Query.{query_size}
use Rattle.cs_trigram.specs.MayMatch.{MayMatch, MayMatchSequence}
use Rattle.cs_trigram.specs.ExactStrings.{HaveFewExactStrings}
use Rattle.cs_trigram.specs.Analysis.{cross_size, with_strings, concatenations, AreExactStrings, IsLongestLeadingRun}
use Rattle.cs_trigram.specs.SequenceQuery.{sum_to, HaveAtMost, AreSmall}
use Rattle.cs_trigram.specs.declared.queries.Query.{Query}
use Rattle.cs_trigram.proofs.MemberLemmas.{first_member, later_member, member_cases, only_member, member_map, different_within, different_map, distinct_more, distinct_head}
use Rattle.cs_trigram.proofs.EnumerationLemmas.{enumeration_of, some_member}
use Rattle.cs_trigram.proofs.LeadingRunLemmas.{few_prefix, few_suffix}
use Rattle.cs_trigram.proofs.SizeLemmas.{weight_pos, strings_short, few_short}

-- ---- one more part with a string, or with two, before a run

same_prefix : (u v a b : List ℕ) → length u ≡ length v → u ++ a ≡ v ++ b → u ≡ v
same_prefix u v a b long e =
    sym (take-append_seam u a) ∙ ap (take (length u)) e ∙ ap (λ n. take n (v ++ b)) long ∙ take-append_seam v b

longest_of : (strings : List (List ℕ)) → 0 < length strings →
    (w : List ℕ) × (is_among strings w ≡ true) × ((v : List ℕ) → is_among strings v ≡ true → length v ≤ length w)
longest_of [] some = absurd (omega arith)
longest_of (w ∷ []) some = (w, first_member w w [] refl, λ v m. omega (arith, ap length (only_member v w m)))
longest_of (w ∷ x ∷ rest) some =
    let r = longest_of (x ∷ rest) (omega arith) in
    elim (cases_lt (length w) (length r.0)) [
      | inl lt ↦ (
        r.0,
        later_member r.0 w (x ∷ rest) r.1,
        λ v m.
            elim (member_cases v w (x ∷ rest) m) [ inl e ↦ omega (arith, ap length e, lt) | inr n ↦ r.2 v n ],
      )
      | inr ge ↦ (
        w,
        first_member w w (x ∷ rest) refl,
        λ v m.
            elim (member_cases v w (x ∷ rest) m) [ inl e ↦ omega (arith, ap length e) | inr n ↦ omega (arith, r.2 v n, ge) ],
      )
    ]

module _ (n : ℕ) (t : Tree) (run : Trees) where
  after_one : (u : List ℕ) → MayMatch true t u → HaveAtMost n (more t run) → HaveAtMost n run
  after_one u has most strings distinct are =
      let longer = most (map (λ w. u ++ w) strings) (different_map (λ w. u ++ w) (λ a b e. append_cancel_left u a b e) strings distinct)
      (λ w m. let r = member_map (λ z. u ++ z) w strings m in (u, r.0, has, are r.0 r.1, r.2)) in
      omega (arith, longer, length-map strings (λ (w : List ℕ). u ++ w))

  -- the longest string after the longer of two is not one after the other
  after_longer : (u v : List ℕ) → MayMatch true t u → MayMatch true t v → length v ≤ length u → (u ≡ v → ⊥) →
      HaveAtMost (suc n) (more t run) → HaveAtMost n run
  after_longer u v has_u has_v le other most [] distinct are = omega arith
  after_longer u v has_u has_v le other most (x ∷ xs) distinct are =
      let strings = x ∷ xs in
      let d = longest_of strings (omega arith) in
      let rest = map (λ w. v ++ w) strings in
      let fresh : is_among rest (u ++ d.0) ≡ true → ⊥ = λ m.
      let r = member_map (λ w. v ++ w) (u ++ d.0) strings m in
      other (same_prefix u v d.0 r.0 (omega (arith, ap length r.2, length-append u d.0, length-append v r.0, d.2 r.0 r.1, le)) r.2) in
      let all = most ((u ++ d.0) ∷ rest)
      (distinct_more (u ++ d.0) rest fresh (different_map (λ w. v ++ w) (λ a b e. append_cancel_left v a b e) strings distinct))
      (λ w m. elim (member_cases w (u ++ d.0) rest m) [
        | inl e ↦ (u, d.0, has_u, are d.0 d.1, e)
        | inr k ↦ let r = member_map (λ z. v ++ z) w strings k in (v, r.0, has_v, are r.0 r.1, r.2)
      ]) in
      omega (arith, all, length-map strings (λ (w : List ℕ). v ++ w))

  after_two : (u v : List ℕ) → MayMatch true t u → MayMatch true t v → (u ≡ v → ⊥) → HaveAtMost (suc n) (more t run) →
      HaveAtMost n run
  after_two u v has_u has_v other most =
      elim (cases_lt (length u) (length v)) [
        | inl lt ↦ after_longer v u has_v has_u (omega arith) (λ e. other (sym e)) most
        | inr ge ↦ after_longer u v has_u has_v ge other most
      ]

-- a part with one string does not make few strings many
pub two_strings : (us vs : List (List ℕ)) → are_distinct us ≡ true → length vs ≤ 20 → 20 < length (with_strings [] (concatenations us vs)) →
    (u v : List ℕ) × (is_among us u ≡ true) × (is_among us v ≡ true) × (u ≡ v → ⊥)
two_strings us vs distinct few many = by us distinct (omega (arith, within, many))
  where
    within : length (with_strings [] (concatenations us vs)) ≤ length (concatenations us vs)
    within =
        let all = enumeration_of (concatenations us vs) in
        different_within (with_strings [] (concatenations us vs)) (concatenations us vs) all.different all.right

    by : (us : List (List ℕ)) → are_distinct us ≡ true → 20 < length (concatenations us vs) →
        (u v : List ℕ) × (is_among us u ≡ true) × (is_among us v ≡ true) × (u ≡ v → ⊥)
    by [] d lt = absurd (omega (arith, lt))
    by (u ∷ []) d lt =
        absurd (omega (arith, lt, few, length-append (map (λ w. u ++ w) vs) [], length-map vs (λ (w : List ℕ). u ++ w)))
    by (u ∷ v ∷ us) d lt = (
      u,
      v,
      first_member u u (v ∷ us) refl,
      later_member v u (v ∷ us) (first_member v v us refl),
      λ e. distinct_head u (v ∷ us) d (first_member u v us e),
    )

-- ---- sums of bounds

-- the bounds after one more part with several strings
abbrev shifted : ℕ → (ℕ → ℕ) → ℕ → ℕ
shifted w heaviest zero = w
shifted w heaviest (suc n) = w + heaviest n

sum_of_none : (k : ℕ) → sum_to (λ n. 0) k ≡ 0
sum_of_none zero = refl
sum_of_none (suc k) = omega (arith, sum_of_none k)

sum_of_more : (w : ℕ) (heaviest : ℕ → ℕ) (k : ℕ) → sum_to (λ n. w + heaviest n) k ≡ suc k * w + sum_to heaviest k
sum_of_more w heaviest zero = omega arith
sum_of_more w heaviest (suc k) = omega (arith, sum_of_more w heaviest k)

sum_of_shifted : (w : ℕ) (heaviest : ℕ → ℕ) (k : ℕ) → sum_to (shifted w heaviest) k + heaviest k ≡ suc k * w + sum_to heaviest k
sum_of_shifted w heaviest zero = omega arith
sum_of_shifted w heaviest (suc k) = omega (arith, sum_of_shifted w heaviest k)

pub last_in_sum : (heaviest : ℕ → ℕ) (k : ℕ) → heaviest k ≤ sum_to heaviest k
last_in_sum heaviest zero = omega arith
last_in_sum heaviest (suc k) = omega arith

-- ---- sequences

-- the strings of the longest leading run
few_run : (leading : List (List ℕ)) (run : Trees) → AreExactStrings leading (cat run) → HaveFewExactStrings run
few_run leading run exact =
    let w = some_member leading exact.some in
    (exact.are.0, ((w.0, exact.are.1.right w.0 w.1), (leading, exact.few, exact.are.1.whole exact.few)))

module _ (room : ℕ) (queries : List Query) (ts : Trees) (small : AreSmall room queries ts) where
  pub leading_small : (leading : List (List ℕ)) → IsLongestLeadingRun ts leading →
      sum_by (λ string. length string - 1) leading ≤ 80 * small.heaviest 19
  leading_small leading f =
      let exact = f.exact in
      let twenty : HaveAtMost 20 f.run = λ strings distinct are.
      let fits = different_within strings leading distinct (λ w m. exact.are.1.whole exact.few w (are w m)) in
      omega (arith, fits, exact.few) in
      let weight_of_run = small.runs 19 f.run f.after f.is (few_run leading f.run exact) twenty in
      let cost = few_short leading (4 * weights f.run) exact.few
      (λ w m. strings_short f.run w exact.are.0 (exact.are.1.right w m)) in
      omega (arith, cost, weight_of_run)

  -- one more query
  pub small_after_query : (later : List Query) → sum_by query_size later ≤ sum_by query_size queries + room → AreSmall 0 later ts
  small_after_query later le = record { heaviest = small.heaviest; runs = small.runs; within = omega (arith, small.within, le) }

pub small_none : (queries : List Query) → queries ≡ [] → AreSmall 0 queries none
small_none queries e = record {
  heaviest = λ n. 0;
  runs = λ n run after is few most. empty run after is;
  within = omega (arith, ap (sum_by query_size) e, sum_of_none 19);
}
  where
    empty : (run after : Trees) → none ≡ append run after → weights run ≤ 0
    empty none after e = omega arith
    empty (more t run) after e = (cc)

module _ (queries : List Query) (t : Tree) (ts : Trees) (old : AreSmall 0 queries ts) where
  -- the leading runs of one more part
  longer_runs : (n bound : ℕ) → ((run after : Trees) → ts ≡ append run after → HaveFewExactStrings (more t run) →
      HaveAtMost (suc n) (more t run) → weight t + weights run ≤ bound) → (run after : Trees) → more t ts ≡ append run after →
      HaveFewExactStrings run → HaveAtMost (suc n) run → weights run ≤ bound
  longer_runs n bound each none after e few most = omega arith
  longer_runs n bound each (more u run) after e few most =
      let same : u ≡ t = (cc) in
      let tail : ts ≡ append run after = (cc) in
      subst (λ (x : Tree). weight x + weights run ≤ bound) (sym same)
      (each run after tail (subst (λ (x : Tree). HaveFewExactStrings (more x run)) same few)
      (subst (λ (x : Tree). HaveAtMost (suc n) (more x run)) same most))

  -- a part with few strings extends the leading run
  pub small_past_few : (us : List (List ℕ)) → AreExactStrings us t → AreSmall cross_size queries (more t ts)
  small_past_few us strings =
      let u = some_member us strings.some in
      record {
        heaviest = λ n. weight t + old.heaviest n;
        runs = λ n. longer_runs n (weight t + old.heaviest n) (λ run after e few most.
            let rest = old.runs n run after e (few_suffix (more t none) run few)
            (after_one (suc n) t run u.0 (strings.are.1.right u.0 u.1) most) in
            omega (arith, rest));
        within = omega (arith, old.within, sum_of_more (weight t) old.heaviest 19, weight_pos t);
      }

  -- a part with several strings ends the leading run
  pub small_past_run : (later : List Query) (u v : List ℕ) → MayMatch true t u → MayMatch true t v → (u ≡ v → ⊥) →
      sum_by query_size later ≤ sum_by query_size queries + (1 + 80 * old.heaviest 19) → AreSmall cross_size later (more t ts)
  small_past_run later u v has_u has_v other le = record {
    heaviest = shifted (weight t) old.heaviest;
    runs = λ n. longer_runs n (shifted (weight t) old.heaviest n) (several n);
    within = omega (arith, old.within, le, sum_of_shifted (weight t) old.heaviest 19, weight_pos t);
  }
    where
      several : (n : ℕ) (run after : Trees) → ts ≡ append run after → HaveFewExactStrings (more t run) →
          HaveAtMost (suc n) (more t run) → weight t + weights run ≤ shifted (weight t) old.heaviest n
      several zero run after e few most =
          let one = (few_suffix (more t none) run few).1.0 in
          let no_string = after_two 0 t run u v has_u has_v other most (one.0 ∷ []) refl
          (λ w m. subst (MayMatchSequence true run) (sym (only_member w one.0 m)) one.1) in
          absurd (omega (arith, no_string))
      several (suc n) run after e few most =
          let rest = old.runs n run after e (few_suffix (more t none) run few) (after_two (suc n) t run u v has_u has_v other most) in
          omega (arith, rest)

  -- a part without few strings, which has a query of its own
  pub small_past_cut : (later : List Query) (size : ℕ) → (HaveFewExactStrings (more t none) → ⊥) → size + cross_size + 1 ≤ 3000 * weight t →
      sum_by query_size later ≤ sum_by query_size queries + (1 + 80 * old.heaviest 19) + size → AreSmall cross_size later (more t ts)
  small_past_cut later size no_few part le = record {
    heaviest = λ n. 0;
    runs = λ n. longer_runs n 0 (λ run after e few most. absurd (no_few (few_prefix (more t none) run few)));
    within = omega (arith, old.within, le, part, last_in_sum old.heaviest 19, sum_of_none 19);
  }
