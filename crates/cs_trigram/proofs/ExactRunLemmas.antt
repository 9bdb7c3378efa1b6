-- A set with the trigrams of a matching line has the exact runs of the tree.
use Rattle.std.proofs.Common.{ℕ, zero, suc, ◌-◌, ◌≤◌, inl, inr, Bool, true, List, refl, subst, arith}
use Rattle.std.proofs.lemmas.Bool.{and_parts}
use Rattle.cs_syntax.specs.TreeList.{append}
use Rattle.cs_syntax.specs.Matching.{Tree, Trees, cat, alt, rep, none, more, Chain, MatchesSpan, MatchesSequence, MatchesBranch}
use Rattle.cs_trigram.specs.Query.{HasTrigrams}
use Rattle.std.specs.Prelude.{slice_range}
use Rattle.cs_trigram.specs.ExactStrings.{is_finite}
use Rattle.cs_trigram.specs.ExactRuns.{HasEachRun, HasEachCross, HasWhole, HasRunsWithin, AllHaveRunsWithin, HasExactRuns, SomeHasExactRuns}
use Rattle.cs_trigram.proofs.SubstringTrigramLemmas.{has_part}
use Rattle.cs_trigram.proofs.ExactStringLemmas.{part_split, match_is_exact, match_of_all_is_exact}
use Rattle.cs_trigram.proofs.CrossLemmas.{ends_within, all_crosses}

-- a match of a sequence, split in two
matches_both : (s : List ℕ) (a b : Trees) (i j : ℕ) → MatchesSequence s (append a b) i j →
    (l : ℕ) × MatchesSequence s a i l × MatchesSequence s b l j
matches_both s none b i j h = (i, refl, h)
matches_both s (more t a) b i j h = let r = matches_both s a b h.0 j h.2 in (r.0, (h.0, h.1, r.1), r.2)

-- the first link of a chain
first_part : (R : ℕ → ℕ → Type 0) (n k i j : ℕ) → suc n ≤ k → Chain R k i j → (l : ℕ) × R i l
first_part R n zero i j le c = absurd (omega (arith, le))
first_part R n (suc k) i j le c = (c.0, c.1)

module _ (s : List ℕ) (set : ℕ → Bool) (known : HasTrigrams set s) where
  -- a run matches a span of the line, which is one of its exact strings
  runs_matched : (ts : Trees) (i j : ℕ) → MatchesSequence s ts i j → HasEachRun set ts
  runs_matched ts i j h before run after e few =
      let first = matches_both s before (append run after) i j (subst (λ (x : Trees). MatchesSequence s x i j) e h) in
      let second = matches_both s run after first.0 j first.2 in
      let string = match_of_all_is_exact s run first.0 second.0 few.0 second.1 in
      (slice_range s first.0 second.0, string.1, has_part set (second.0 - first.0) first.0 s known)

  crosses_matched : (ts : Trees) (i j : ℕ) → MatchesSequence s ts i j → HasEachCross set ts
  crosses_matched ts i j h before t after e =
      let first = matches_both s before (more t after) i j (subst (λ (x : Trees). MatchesSequence s x i j) e h) in
      let start = first.0 in
      let part = first.2 in
      let middle = part.0 in
      all_crosses set t after
      (λ run behind a b m n is few small strings runs long.
      let second = matches_both s run behind middle j (subst (λ (x : Trees). MatchesSequence s x middle j) is part.2) in
      let string = match_is_exact s t start middle (and_parts (is_finite t) true strings.0).0 part.1 in
      let run_string = match_of_all_is_exact s run middle second.0 runs.0 second.1 in
      let u = slice_range s start middle in
      let v = slice_range s middle second.0 in (
        u,
        v,
        string.1,
        run_string.1,
        ends_within set m n u v
            (subst (HasTrigrams set) (part_split s start middle second.0 string.0 run_string.0) (has_part set (second.0 - start) start s known)),
      ))

  match_has_whole : (t : Tree) (i j : ℕ) → MatchesSpan s t i j → HasWhole set t
  match_has_whole t i j h few =
      let string = match_of_all_is_exact s (more t none) i j few.0 (j, h, refl) in
      (slice_range s i j, string.1, has_part set (j - i) i s known)

  mutual
    match_has_runs_within : (t : Tree) (i j : ℕ) → MatchesSpan s t i j → HasRunsWithin set t
    match_has_runs_within (cat ts) i j h = (runs_matched ts i j h, crosses_matched ts i j h, all_within ts i j h)
    match_has_runs_within (alt ts) i j h = branch_exact_runs ts i j h
    match_has_runs_within (rep x zero m) i j h = tt
    match_has_runs_within (rep x (suc n) m) i j h =
        let first = first_part (MatchesSpan s x) n h.0 i j h.1 h.3 in
        (match_has_whole x i first.0 first.1, match_has_runs_within x i first.0 first.1)
    match_has_runs_within leaf i j h = tt

    all_within : (ts : Trees) (i j : ℕ) → MatchesSequence s ts i j → AllHaveRunsWithin set ts
    all_within none i j h = tt
    all_within (more t ts) i j h = (match_has_runs_within t i h.0 h.1, all_within ts h.0 j h.2)

    branch_exact_runs : (ts : Trees) (i j : ℕ) → MatchesBranch s ts i j → SomeHasExactRuns set ts
    branch_exact_runs none i j h = absurd h
    branch_exact_runs (more t ts) i j h =
        elim h [ inl a ↦ inl (match_has_whole t i j a, match_has_runs_within t i j a) | inr b ↦ inr (branch_exact_runs ts i j b) ]

  pub match_has_exact_runs : (t : Tree) (i j : ℕ) → MatchesSpan s t i j → HasExactRuns set t
  match_has_exact_runs t i j h = (match_has_whole t i j h, match_has_runs_within t i j h)
