-- The crosses of the first part of a sequence: a query asks for them, or the leading run has them.
use Rattle.std.proofs.Common.{◌≡◌, ℕ, ◌+◌, ◌*◌, ◌<◌, ◌≤◌, inl, inr, Bool, true, List, [], ◌∷◌, ◌++◌, length, map, reverse, take, sym, ◌∙◌, ap, subst, arith, append_assoc, length-append}
use Rattle.std.specs.Prelude.{Contains, bytes_eq, nat_lt}
use Rattle.std.specs.List.{list_all}
use Rattle.std.proofs.lemmas.Bool.{and_parts, leb-true, ltb-true}
use Rattle.std.proofs.lemmas.Nat.{mul-le}
use Rattle.std.proofs.lemmas.List.{length-map, length-reverse, length-take, take-append-le, take-take}
use Rattle.std.proofs.lemmas.Map.Views.{Contains-from_any}
use Rattle.std.proofs.lemmas.Slice.Eq.{bytes_eq-Decides}
use Rattle.cs_syntax.specs.TreeList.{append}
use Rattle.cs_syntax.specs.Matching.{Tree, Trees, none, more}
use Rattle.cs_tree.specs.Cover.{is_among}
use Rattle.cs_trigram.specs.Query.{HasTrigrams}
use Rattle.cs_trigram.specs.MayMatch.{MayMatch, MayMatchSequence}
use Rattle.cs_trigram.specs.ExactStrings.{HaveExactStrings, HaveLongStrings}
use Rattle.cs_trigram.specs.ExactRuns.{HasCross, HasCrosses}
use Rattle.cs_trigram.specs.Analysis.{IsLongestLeadingRun, has_any}
use Rattle.cs_trigram.specs.EndStrings.{backward, read, truncated, whole_end, all_truncated}
use Rattle.cs_trigram.specs.SequenceQuery.{AreExactEnds, BeginRuns, HasPair, HasPairs, goes_two_past}
use Rattle.cs_trigram.specs.declared.end_strings.EndString.{EndString}
use Rattle.cs_trigram.proofs.MemberLemmas.{no_member, member_cases, map_member, different_within}
use Rattle.cs_trigram.proofs.MayMatchLemmas.{sequence_of_both}
use Rattle.cs_trigram.proofs.LeadingRunLemmas.{concatenates_one, exact_of_one, concatenates_split, prefixes_compare, strings_within}
use Rattle.cs_trigram.proofs.TruncationLemmas.{contained_cases, none_contained, contained_map, contained_in_map, not_more, truncated_not_more, coarser_with}
use Rattle.cs_trigram.proofs.SequenceQueryLemmas.{any_run_found}
use Rattle.cs_trigram.proofs.SubstringTrigramLemmas.{has_prefix}
use Rattle.cs_trigram.proofs.CrossLemmas.{ends_within, all_crosses}
use Rattle.cs_trigram.proofs.RunPrefixLemmas.{few_end_strings, end_of_exact}

-- a test of each item holds of one
each_passes : {A : Type 0} (test : A → Bool) (xs : List A) (x : A) → list_all test xs ≡ true → Contains xs x → test x ≡ true
each_passes test [] x all m = absurd (none_contained x m)
each_passes {A} test (y ∷ xs) x all m =
    let both = and_parts (test y) (list_all test xs) all in
    elim (contained_cases y xs x m) [
      | inl same ↦ subst (λ (z : A). test z ≡ true) same both.0
      | inr later ↦ each_passes test xs x both.1 later
    ]

each_string_passes : (test : List ℕ → Bool) (ws : List (List ℕ)) (w : List ℕ) → list_all test ws ≡ true → is_among ws w ≡ true → test w ≡ true
each_string_passes test [] w all m = absurd (no_member w m)
each_string_passes test (v ∷ ws) w all m =
    let both = and_parts (test v) (list_all test ws) all in
    elim (member_cases w v ws m) [
      | inl same ↦ subst (λ (z : List ℕ). test z ≡ true) (sym same) both.0
      | inr later ↦ each_string_passes test ws w both.1 later
    ]

module _ (set : ℕ → Bool) (t : Tree) (ts : Trees) (suffixes prefixes : List EndString) (exact : AreExactEnds backward suffixes t) where
  -- the suffixes, cut to two bytes, are as few as the exact strings
  few_suffixes : (a : ℕ) → a ≤ 20 → HaveExactStrings a (more t none) → length (all_truncated 2 suffixes) ≤ a
  few_suffixes a few strings =
      let texts = exact (strings_within a 20 (more t none) few strings) in
      let ends : List ℕ → EndString = λ text. whole_end (read backward text) in
      let known = different_within texts.0 strings.1.1.0 texts.1.are.1.different
      (λ w m. strings.1.1.2 w (concatenates_one t w (texts.1.are.1.right w m))) in
      omega (
        arith,
        truncated_not_more 2 suffixes,
        ap length texts.2,
        not_more (map ends texts.0),
        length-map texts.0 ends,
        known,
        strings.1.1.1,
      )

  -- so are the prefixes, each as a whole text and as the beginning of others
  few_prefixes : BeginRuns prefixes ts → (run after : Trees) (b : ℕ) → ts ≡ append run after → b ≤ 10 → HaveExactStrings b run →
      HaveLongStrings 2 run → length (all_truncated 2 prefixes) ≤ b + b
  few_prefixes begin run after b is few strings long =
      let known = map (take 2) strings.1.1.0 in
      let le = few_end_strings (map (truncated 2) prefixes) known
      (λ x m.
      let y = contained_in_map (truncated 2) prefixes x m in
      let w = begin run after 2 b is (omega arith) few strings long y.0 y.1 in
      subst (λ (z : EndString). is_among known z.string ≡ true) y.2
      (subst (λ (z : List ℕ). is_among known z ≡ true) (sym w.2) (map_member (take 2) w.0 strings.1.1.0 (strings.1.1.2 w.0 w.1)))) in
      omega (arith, le, length-map strings.1.1.0 (take 2), strings.1.1.1)

  -- a pair of a suffix and a prefix is a cross
  cross_of_pair : BeginRuns prefixes ts → (run after : Trees) (a b m n : ℕ) → ts ≡ append run after → a ≤ 20 → b ≤ 10 →
      HaveExactStrings a (more t none) → HaveExactStrings b run → HaveLongStrings 2 run → m ≤ 2 → n ≤ 2 →
      HasPair set m n suffixes prefixes → HasCross set m n t run
  cross_of_pair begin run after a b m n is few_a few_b strings runs long small_m small_n pair =
      let texts = exact (strings_within a 20 (more t none) few_a strings) in
      let u = end_of_exact backward texts.0 t suffixes texts.1 texts.2 pair.0 pair.2 in
      let v = begin run after 2 b is (omega arith) few_b runs long pair.1 pair.3 in
      let last : take m pair.0.string ≡ take m (reverse u.0) =
      ap (λ (z : EndString). take m z.string) (sym u.2) ∙ take-take m 3 (reverse u.0) (omega (arith, small_m)) in
      let first : take n pair.1.string ≡ take n v.0 =
      sym (take-take n 2 pair.1.string small_n) ∙ ap (take n) v.2 ∙ take-take n 2 v.0 small_n in (
        u.0,
        v.0,
        u.1,
        v.1,
        subst (λ (z : List ℕ). HasTrigrams set (reverse (take m (reverse u.0)) ++ z)) first
            (subst (λ (z : List ℕ). HasTrigrams set (reverse z ++ take n pair.1.string)) last pair.4),
      )

  -- a set has the crosses if it has the pairs
  pub crosses_of_pairs : BeginRuns prefixes ts → HasPairs set suffixes prefixes → HasCrosses set t ts
  crosses_of_pairs begin pairs run after a b is few_a few_b strings runs long =
      let product = mul-le (length (all_truncated 2 suffixes)) (length (all_truncated 2 prefixes)) a (b + b)
      (few_suffixes a few_a strings) (few_prefixes begin run after b is few_b runs long) in
      let twice : a * (b + b) ≡ a * b + a * b = omega arith in
      let cross : (m n : ℕ) → m ≤ 2 → n ≤ 2 → HasPair set m n suffixes prefixes → HasCross set m n t run =
      λ m n. cross_of_pair begin run after a b m n is few_a few_b strings runs long in (
        λ le. cross 2 2 (omega arith) (omega arith) (pairs.0 (omega (arith, product, twice, le))),
        λ le.
            let both = pairs.1 (omega (arith, product, twice, le)) in
            (cross 2 1 (omega arith) (omega arith) both.0, cross 1 2 (omega arith) (omega arith) both.1),
      )

  -- ---- the leading run

  module _ (leading : List (List ℕ)) (past : list_all (goes_two_past leading) suffixes ≡ true) (few : HaveExactStrings 20 (more t none))
    where
      -- a string of the leading run goes two bytes past each string of the first part
      goes_past : (u w : List ℕ) → MayMatch true t u → is_among leading w ≡ true → length u + 1 < length w
      goes_past u w is there =
          let ends : List ℕ → EndString = λ text. whole_end (read backward text) in
          let texts = exact few in
          let member = Contains-from_any {eq = λ x y. bytes_eq y x} (λ x y same. sym ((bytes_eq-Decides y x).0 same)) u texts.0
          (texts.1.are.1.whole texts.1.few u is) in
          let x = (coarser_with [] (map ends texts.0)).all (ends u) (contained_map ends texts.0 u member) in
          let passes = each_passes (goes_two_past leading) suffixes x.0 past
          (subst (λ (es : List EndString). Contains es x.0) (sym texts.2) x.1) in
          let both = and_parts x.0.whole (list_all (λ string. nat_lt (length x.0.string + 1) (length string)) leading) passes in
          let whole = x.2.2 both.0 in
          let past_suffix = ltb-true (length x.0.string + 1) (length w)
          (each_string_passes (λ string. nat_lt (length x.0.string + 1) (length string)) leading w both.1 there) in
          omega (
            arith,
            past_suffix,
            ap length x.2.1,
            length-take 3 (reverse u),
            length-append x.0.string x.2.0,
            ap length whole.0,
            leb-true (length (reverse u)) 3 whole.1,
            length-reverse u,
          )

      cross_in_string : (w : List ℕ) → is_among leading w ≡ true → HasTrigrams set w → (leading_run rest run after : Trees) (b m n : ℕ) →
          more t ts ≡ append leading_run rest → MayMatchSequence true leading_run w → ts ≡ append run after → n ≤ 2 →
          HaveExactStrings b run → HasCross set m n t run
      cross_in_string w there has none rest run after b m n whole j is small strings =
          let past_first = goes_past few.1.0.0 w (exact_of_one t few.1.0.0 few.1.0.1) there in
          absurd (omega (arith, past_first, ap length j))
      cross_in_string w there has (more q leading_run) rest run after b m n whole j is small strings =
          let tree : t ≡ q = (cc) in
          let behind : ts ≡ append leading_run rest = (cc) in
          let u = j.0 in
          let v = j.1 in
          let first = subst (λ (z : Tree). MayMatch true z u) (sym tree) j.2 in
          let both = subst (HasTrigrams set) j.4 has in
          elim (prefixes_compare leading_run rest run after (sym behind ∙ is)) [
            | inl shorter ↦
                let split = concatenates_split run shorter.0 v (subst (λ (z : Trees). MayMatchSequence true z v) shorter.1 j.3) in
                let within = subst (HasTrigrams set) (ap (λ (x : List ℕ). u ++ x) split.4 ∙ sym (append_assoc u split.0 split.1)) both in
                (u, split.0, first, split.2, ends_within set m n u split.0 (has_prefix set (u ++ split.0) split.1 within))
            | inr longer ↦
                let behind_run = more longer.0 longer.1 in
                let split = concatenates_split leading_run behind_run strings.1.0.0
                (subst (λ (z : Trees). MayMatchSequence true z strings.1.0.0) longer.2 strings.1.0.1) in
                let two : 2 ≤ length v = omega (arith, goes_past u w first there, ap length j.4, length-append u v) in (
                  u,
                  v ++ split.1,
                  first,
                  subst (λ (z : Trees). MayMatchSequence true z (v ++ split.1)) (sym longer.2)
                      (sequence_of_both true leading_run behind_run v split.1 j.3 split.3),
                  subst (λ (z : List ℕ). HasTrigrams set (reverse (take m (reverse u)) ++ z))
                      (sym (take-append-le n v split.1 (omega (arith, two, small)))) (ends_within set m n u v both),
                )
          ]

  -- a set has the crosses if it has a string of a leading run that goes two bytes past each suffix
  pub crosses_of_leading : (leading : List (List ℕ)) → list_all (goes_two_past leading) suffixes ≡ true →
      IsLongestLeadingRun (more t ts) leading → has_any set leading ≡ true → HasCrosses set t ts
  crosses_of_leading leading past longest has =
      let w = any_run_found set leading has in
      all_crosses set t ts
      (λ run after a b m n is few_a small strings runs long.
      cross_in_string leading past (strings_within a 20 (more t none) few_a strings) w.0 w.1 w.2 longest.run longest.after run after
      b m n longest.is (longest.exact.are.1.right w.0 w.1) is small runs)
