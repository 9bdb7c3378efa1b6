-- The query of a sequence, part by part from the last to the first.
use Rattle.std.proofs.Common.{◌≡◌, ℕ, ◌-◌, ◌≤◌, ◌&&◌, inl, inr, Bool, true, List, [], ◌∷◌, length, refl, sym, ◌∙◌, ap, subst}
use Rattle.cs_syntax.specs.TreeList.{append}
use Rattle.cs_tree.specs.Cover.{is_among}
use Rattle.cs_trigram.proofs.MemberLemmas.{no_member, first_member, later_member, member_cases}
use Rattle.std.proofs.lemmas.Bool.{and_parts, and_from, or_cases, or_left, or_right}
use Rattle.cs_syntax.specs.Matching.{Tree, Trees, cat, none, more, MatchesSpan, MatchesSequence}
use Rattle.std.specs.Prelude.{slice_range}
use Rattle.cs_trigram.specs.Query.{HasTrigrams}
use Rattle.cs_trigram.specs.Analysis.{has_trigrams, with_strings, concatenations, IsBlocked, IsLongestLeadingRun, AreExactStrings, has_any, IsQueryBeyondRun}
use Rattle.cs_trigram.specs.ExactRuns.{HasRun, HasEachRun, HasCrosses, HasRunsWithin, HasExactRuns}
use Rattle.cs_trigram.specs.ExactStrings.{is_finite, HaveFewExactStrings}
use Rattle.cs_trigram.proofs.EnumerationLemmas.{some_member, some_concatenation}
use Rattle.cs_trigram.proofs.LeadingRunLemmas.{empty_run_strings, few_prefix, few_suffix, run_begins, run_step, concatenates_one, exact_of_one}
use Rattle.cs_trigram.proofs.SubstringTrigramLemmas.{has_part, has_prefix, has_suffix}
use Rattle.cs_trigram.proofs.CrossLemmas.{crosses_more, no_crosses}
use Rattle.cs_trigram.proofs.ExactStringLemmas.{match_of_all_is_exact, matches_prefix, exact_match_has_runs_within}

module _ (set : ℕ → Bool) where
  pub any_run_found : (ws : List (List ℕ)) → has_any set ws ≡ true → (w : List ℕ) × (is_among ws w ≡ true) × HasTrigrams set w
  any_run_found [] h = (cc)
  any_run_found (w ∷ ws) h =
      elim (or_cases (has_trigrams set w) (has_any set ws) h) [
        | inl a ↦ (w, first_member w w ws refl, a)
        | inr b ↦ let r = any_run_found ws b in (r.0, later_member r.0 w ws r.1, r.2)
      ]

  pub found_any_run : (ws : List (List ℕ)) (w : List ℕ) → is_among ws w ≡ true → HasTrigrams set w → has_any set ws ≡ true
  found_any_run [] w m h = absurd (no_member w m)
  found_any_run (x ∷ ws) w m h =
      elim (member_cases w x ws m) [
        | inl e ↦ or_left (has_trigrams set x) (has_any set ws) (subst (HasTrigrams set) e h)
        | inr n ↦ or_right (has_trigrams set x) (has_any set ws) (found_any_run ws w n h)
      ]

  -- a matching line has a string of the leading run
  run_matches : (ts : Trees) (ws : List (List ℕ)) → IsLongestLeadingRun ts ws → (s : List ℕ) (i j : ℕ) →
      MatchesSequence s ts i j → HasTrigrams set s → has_any set ws ≡ true
  run_matches ts ws f s i j h has =
      let r = matches_prefix s f.run f.after i j (subst (λ (x : Trees). MatchesSequence s x i j) f.is h) in
      let string = match_of_all_is_exact s f.run i r.0 f.exact.are.0 r.1 in
      found_any_run ws (slice_range s i r.0) (f.exact.are.1.whole f.exact.few (slice_range s i r.0) string.1)
      (has_part set (r.0 - i) i s has)

  runs_more : (t : Tree) (ts : Trees) → HasEachRun set ts →
      ((run after : Trees) → more t ts ≡ append run after → HaveFewExactStrings run → HasRun set run) →
      HasEachRun set (more t ts)
  runs_more t ts old new none run after e few = new run after e few
  runs_more t ts old new (more b before) run after e few = let tail : ts ≡ append before (append run after) = (cc) in
      old before run after tail few

  -- a set that has a string of the longest leading run has each leading run that has few strings
  run_found : (ts : Trees) (ws : List (List ℕ)) → IsLongestLeadingRun ts ws → has_any set ws ≡ true →
      (run after : Trees) → ts ≡ append run after → HaveFewExactStrings run → HasRun set run
  run_found ts ws f h run after e few =
      let w = any_run_found ws h in
      let r = run_begins ts ws f w.0 w.1 run after e few in
      (r.0, r.2, has_prefix set r.0 r.1 (subst (HasTrigrams set) r.3 w.2))

pub empty_run : (t : Tree) (ts : Trees) → (HaveFewExactStrings (more t none) → ⊥) → IsLongestLeadingRun (more t ts) ([] ∷ [])
empty_run t ts no_few = record { run = none; after = more t ts; is = refl; exact = empty_run_strings; blocked = no_few }

pub query_of_none : (conjuncts : (ℕ → Bool) → Bool) → ((set : ℕ → Bool) → conjuncts set ≡ true) → IsQueryBeyondRun ([] ∷ []) conjuncts none none
query_of_none conjuncts all = record {
  run = record { run = none; after = none; is = refl; exact = empty_run_strings; blocked = tt };
  matching = λ s set i j h has. all set;
  selective = λ set n h. (
    λ before run after e few. let parts = none_appended before (append run after) e in let inner =
        none_appended run after parts.1 in subst (HasRun set) (sym inner.0) ([], refl, refl),
    no_crosses set,
    tt,
  );
}
  where
    none_appended : (a b : Trees) → none ≡ append a b → (a ≡ none) × (none ≡ b)
    none_appended none b e = (refl, e)
    none_appended (more t a) b e = (cc)

module _ (leading : List (List ℕ)) (conjuncts later : (ℕ → Bool) → Bool) (t : Tree) (ts : Trees)
    (sequence_query : IsQueryBeyondRun leading conjuncts ts ts) where
  -- a part with exact strings that are not few
  pub query_past_cut : (match_query : (ℕ → Bool) → Bool) → (HaveFewExactStrings (more t none) → ⊥) →
      ((s : List ℕ) (set : ℕ → Bool) (i j : ℕ) → MatchesSpan s t i j → HasTrigrams set s → match_query set ≡ true) →
      ((set : ℕ → Bool) → match_query set ≡ true → HasExactRuns set t) →
      ((set : ℕ → Bool) → later set ≡ ((conjuncts set && has_any set leading) && match_query set)) →
      IsQueryBeyondRun ([] ∷ []) later (more t ts) ts
  query_past_cut match_query no_few matching selective is = record {
    run = empty_run t ts no_few;
    matching = λ s set i j h has.
        is set ∙ and_from (conjuncts set && has_any set leading) (match_query set)
        (and_from (conjuncts set) (has_any set leading) (sequence_query.matching s set h.0 j h.2 has)
        (run_matches set ts leading sequence_query.run s h.0 j h.2 has))
        (matching s set i h.0 h.1 has);
    selective = λ set n h.
        let both = and_parts (conjuncts set && has_any set leading) (match_query set) (sym (is set) ∙ n) in
        let old = and_parts (conjuncts set) (has_any set leading) both.0 in
        let runs = sequence_query.selective set old.0 old.1 in
        (runs_more set t ts runs.0 (short set), runs.1, ((selective set both.1).1, runs.2));
  }
    where
      short : (set : ℕ → Bool) (run after : Trees) → more t ts ≡ append run after → HaveFewExactStrings run → HasRun set run
      short set none after e few = ([], refl, refl)
      short set (more u run) after e few =
          let same : u ≡ t = (cc) in
          absurd (no_few (subst (λ (x : Tree). HaveFewExactStrings (more x none)) same (few_prefix (more u none) run few)))

  -- a part that extends the leading run
  pub query_past_few : (us : List (List ℕ)) → AreExactStrings us t → length (with_strings [] (concatenations us leading)) ≤ 20 →
      IsQueryBeyondRun (with_strings [] (concatenations us leading)) conjuncts (more t ts) ts
  query_past_few us strings le =
      let old = sequence_query.run in
      let ws = with_strings [] (concatenations us leading) in
      let enumeration = run_step t old.run us leading strings.are old.exact.are in
      let f : IsLongestLeadingRun (more t ts) ws = record {
        run = more t old.run;
        after = old.after;
        is = ap (more t) old.is;
        exact = record { are = enumeration; some = some_concatenation us leading strings.some old.exact.some; few = le };
        blocked = blocked_before old.run old.after old.blocked;
      } in
      record {
        run = f;
        matching = λ s set i j h has. sequence_query.matching s set h.0 j h.2 has;
        selective = λ set n h.
            let w = any_run_found set ws h in
            let parts = enumeration.1.right w.0 w.1 in
            let has = subst (HasTrigrams set) parts.4 w.2 in
            let prefix_string = found_any_run set leading parts.1 (old.exact.are.1.whole old.exact.few parts.1 parts.3)
            (has_suffix set parts.0 parts.1 has) in
            let runs = sequence_query.selective set n prefix_string in (
              runs_more set t ts runs.0 (run_found set (more t ts) ws f h),
              runs.1,
              (exact_match_has_runs_within set t parts.0 parts.2 (has_prefix set parts.0 parts.1 has), runs.2),
            );
      }
    where
      blocked_before : (run after : Trees) → IsBlocked run after → IsBlocked (more t run) after
      blocked_before run none b = tt
      blocked_before run (more u rest) b = λ few. b (few_suffix (more t none) (append run (more u none)) few)

  -- a part that does not extend the leading run, and begins another one
  pub query_past_run : (ws : List (List ℕ)) → IsLongestLeadingRun (more t ts) ws → HaveFewExactStrings (more t none) →
      ((set : ℕ → Bool) → later set ≡ (conjuncts set && has_any set leading)) →
      IsQueryBeyondRun ws later (more t ts) ts
  query_past_run ws f few is = record {
    run = f;
    matching = λ s set i j h has.
        is set ∙ and_from (conjuncts set) (has_any set leading) (sequence_query.matching s set h.0 j h.2 has)
        (run_matches set ts leading sequence_query.run s h.0 j h.2 has);
    selective = λ set n h.
        let old = and_parts (conjuncts set) (has_any set leading) (sym (is set) ∙ n) in
        let runs = sequence_query.selective set old.0 old.1 in
        let one = run_found set (more t ts) ws f h (more t none) ts refl few in (
          runs_more set t ts runs.0 (run_found set (more t ts) ws f h),
          runs.1,
          (exact_match_has_runs_within set t one.0 (exact_of_one t one.0 one.1) one.2, runs.2),
        );
  }

-- the whole sequence
pub query_of_whole : (leading : List (List ℕ)) (conjuncts whole : (ℕ → Bool) → Bool) (ts : Trees) → IsQueryBeyondRun leading conjuncts ts ts →
    ((set : ℕ → Bool) → whole set ≡ (conjuncts set && has_any set leading)) →
    ((s : List ℕ) (set : ℕ → Bool) (i j : ℕ) → MatchesSequence s ts i j → HasTrigrams set s → whole set ≡ true)
    × ((set : ℕ → Bool) → whole set ≡ true → HasRunsWithin set (cat ts))
query_of_whole leading conjuncts whole ts sequence_query is = (
  λ s set i j h has. is set ∙ and_from (conjuncts set) (has_any set leading) (sequence_query.matching s set i j h has)
      (run_matches set ts leading sequence_query.run s i j h has),
  λ set w. let p = and_parts (conjuncts set) (has_any set leading) (sym (is set) ∙ w) in sequence_query.selective set p.0 p.1,
)

-- the exact strings of a tree, if they are few
pub few_tree : (us : List (List ℕ)) (t : Tree) → AreExactStrings us t → HaveFewExactStrings (more t none)
few_tree us t strings =
    let w = some_member us strings.some in (
      and_from (is_finite t) true strings.are.0 refl,
      (
        (w.0, concatenates_one t w.0 (strings.are.1.right w.0 w.1)),
        (us, strings.few, λ v j. strings.are.1.whole strings.few v (exact_of_one t v j)),
      ),
    )

-- one more conjunct, which each matching line satisfies, and which requires the crosses of the first part
pub query_of_more : (leading : List (List ℕ)) (conjuncts query later : (ℕ → Bool) → Bool) (t : Tree) (ts : Trees) →
    IsQueryBeyondRun leading conjuncts (more t ts) ts →
    ((s : List ℕ) (set : ℕ → Bool) (i j : ℕ) → MatchesSequence s (more t ts) i j → HasTrigrams set s → query set ≡ true) →
    ((set : ℕ → Bool) → query set ≡ true → HasCrosses set t ts) →
    ((set : ℕ → Bool) → later set ≡ (conjuncts set && query set)) → IsQueryBeyondRun leading later (more t ts) (more t ts)
query_of_more leading conjuncts query later t ts sequence_query cross_matches crosses is = record {
  run = sequence_query.run;
  matching = λ s set i j h has. is set ∙ and_from (conjuncts set) (query set) (sequence_query.matching s set i j h has)
      (cross_matches s set i j h has);
  selective = λ set n h.
      let both = and_parts (conjuncts set) (query set) (sym (is set) ∙ n) in
      let runs = sequence_query.selective set both.0 h in
      (runs.0, crosses_more set t ts runs.1 (crosses set both.1), runs.2);
}

-- a leading run with the crosses of the first part
pub query_with_crosses : (leading : List (List ℕ)) (conjuncts : (ℕ → Bool) → Bool) (t : Tree) (ts : Trees) →
    IsQueryBeyondRun leading conjuncts (more t ts) ts → ((set : ℕ → Bool) → has_any set leading ≡ true → HasCrosses set t ts) →
    IsQueryBeyondRun leading conjuncts (more t ts) (more t ts)
query_with_crosses leading conjuncts t ts sequence_query crosses = record {
  run = sequence_query.run;
  matching = sequence_query.matching;
  selective = λ set n h.
      let runs = sequence_query.selective set n h in
      (runs.0, crosses_more set t ts runs.1 (crosses set h), runs.2);
}
