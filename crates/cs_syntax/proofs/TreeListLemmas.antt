-- Concatenation of lists of trees, and the spans that their alternation matches.
use Rattle.std.proofs.Common.{◌≡◌, ℕ, List, ◌⊎◌, inl, inr, refl, ap}
use Rattle.std.specs.Prelude.{◌↔◌}
use Rattle.cs_syntax.specs.Matching.{Tree, Trees, none, more, MatchesSpan, MatchesBranch}
use Rattle.cs_syntax.specs.TreeList.{append}
use Rattle.cs_syntax.specs.PartialGroups.{with_last}
use Rattle.cs_syntax.specs.Parsing.{alternation}

pub append_assoc_trees : (ts us vs : Trees) → append (append ts us) vs ≡ append ts (append us vs)
append_assoc_trees none us vs = refl
append_assoc_trees (more t ts) us vs = ap (more t) (append_assoc_trees ts us vs)

pub append_none : (ts : Trees) → append ts none ≡ ts
append_none none = refl
append_none (more t ts) = ap (more t) (append_none ts)

-- the last tree of a list can be moved to the start of the next list
pub append_last : (ts us : Trees) (t : Tree) → append (with_last ts t) us ≡ append ts (more t us)
append_last ts us t = append_assoc_trees ts (more t none) us

-- the spans that an alternation matches
pub matches_alternation : (line : List ℕ) (i j : ℕ) (t : Tree) (ts : Trees) → MatchesSpan line (alternation t ts) i j ↔
    MatchesBranch line (more t ts) i j
matches_alternation line i j t none = (inl, λ h. elim h [ inl k ↦ k | inr k ↦ absurd k ])
matches_alternation line i j t (more u us) = (λ h. h, λ h. h)

pub matches_append : (line : List ℕ) (i j : ℕ) (ts us : Trees) → MatchesBranch line (append ts us) i j ↔
    (MatchesBranch line ts i j ⊎ MatchesBranch line us i j)
matches_append line i j none us = (inr, λ h. elim h [ inl k ↦ absurd k | inr k ↦ k ])
matches_append line i j (more t ts) us =
    let later = matches_append line i j ts us in (
      λ h. elim h [ inl k ↦ inl (inl k) | inr k ↦ elim (later.0 k) [ inl l ↦ inl (inr l) | inr l ↦ inr l ] ],
      λ h. elim h [ inl k ↦ elim k [ inl l ↦ inl l | inr l ↦ inr (later.1 (inl l)) ] | inr k ↦ inr (later.1 (inr k)) ],
    )
