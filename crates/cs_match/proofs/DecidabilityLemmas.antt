-- From acceptance at each offset to a match in the line.
use Rattle.std.proofs.Common.{◌≡◌, ℕ, zero, suc, ◌<◌, ◌≤◌, ◌||◌, inl, inr, List, Bool, true, false, length, sym, ◌∙◌, ap, arith}
use Rattle.std.specs.Prelude.{IsTrue, ◌↔◌}
use Rattle.std.proofs.lemmas.Bool.{both_ways, cases_lt, or_cases, or_left, or_right}
use Rattle.cs_syntax.specs.Matching.{Tree, HasMatch}
use Rattle.cs_match.specs.Decidability.{MatchingIsDecidable}
use Rattle.cs_match.specs.Glushkov.{accepts_in, IsExpanded}
use Rattle.cs_match.specs.Expansion.{expansion}
use Rattle.cs_match.proofs.GlushkovLemmas.{match_where_accepted}
use Rattle.cs_match.proofs.ExpansionLemmas.{expansion_matches, is_expanded}

module _ (t : Tree) (s : List ℕ) (expanded : IsExpanded t) where
  pub found_at : (i : ℕ) → i ≤ length s → accepts_in s t i ≡ true → HasMatch t s
  found_at i le h = (match_where_accepted t s expanded).1 (i, le, h)

  pub found_last : (b : Bool) → b ≡ accepts_in s t (length s) →
      ((k : ℕ) → k < length s → accepts_in s t k ≡ false) → IsTrue b ↔ HasMatch t s
  found_last b is before = (
    λ h. found_at (length s) (omega arith) (sym is ∙ h),
    λ f. let w = (match_where_accepted t s expanded).0 f in
        elim (cases_lt w.0 (length s)) [
          | inl lt ↦ absurd (both_ways (accepts_in s t w.0) (before w.0 lt) w.2)
          | inr ge ↦
              let e : w.0 ≡ length s = omega (arith, w.1) in
              is ∙ ap (accepts_in s t) (sym e) ∙ w.2
        ],
  )

-- the tree accepts at an offset up to n
abbrev accepted_by : List ℕ → Tree → ℕ → Bool
accepted_by s t zero = accepts_in s t 0
accepted_by s t (suc n) = accepts_in s t (suc n) || accepted_by s t n

accepted_somewhere : (s : List ℕ) (t : Tree) (n : ℕ) → accepted_by s t n ≡ true → (i : ℕ) × (i ≤ n) × (accepts_in s t i ≡ true)
accepted_somewhere s t zero h = (0, omega arith, h)
accepted_somewhere s t (suc n) h =
    elim (or_cases (accepts_in s t (suc n)) (accepted_by s t n) h) [
      | inl here ↦ (suc n, omega arith, here)
      | inr below ↦ let w = accepted_somewhere s t n below in (w.0, omega (arith, w.1), w.2)
    ]

accepted_anywhere : (s : List ℕ) (t : Tree) (n i : ℕ) → i ≤ n → accepts_in s t i ≡ true → accepted_by s t n ≡ true
accepted_anywhere s t zero i le h =
    let e : i ≡ 0 = omega arith in ap (accepts_in s t) (sym e) ∙ h
accepted_anywhere s t (suc n) i le h =
    elim (cases_lt i (suc n)) [
      | inl lt ↦ or_right (accepts_in s t (suc n)) (accepted_by s t n) (accepted_anywhere s t n i (omega arith) h)
      | inr ge ↦
          let e : i ≡ suc n = omega arith in
          or_left (accepts_in s t (suc n)) (accepted_by s t n) (ap (accepts_in s t) (sym e) ∙ h)
    ]

pub matching_is_decidable : MatchingIsDecidable
matching_is_decidable tree =
    let t = expansion tree in (
      λ line. accepted_by line t (length line),
      λ line.
          let same = expansion_matches tree line in
          let position_count = match_where_accepted t line (is_expanded tree) in (
            λ h. same.0 (position_count.1 (accepted_somewhere line t (length line) h)),
            λ f. let w = position_count.0 (same.1 f) in accepted_anywhere line t (length line) w.0 w.1 w.2,
          ),
    )
