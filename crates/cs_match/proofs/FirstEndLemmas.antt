-- The first of a list of matching ends, and an empty list.
use Rattle.std.proofs.Common.{◌≡◌, ℕ, zero, suc, ◌+◌, ◌-◌, ◌<◌, ◌≤◌, Bool, true, false, cond, List, [], ◌∷◌, length, take, drop, refl, sym, ap, ◌∙◌, arith}
use Rattle.std.specs.List.{filter, range_with_len, count_by}
use Rattle.std.proofs.lemmas.List.Elements.{All-nil, All-cons}
use Rattle.std.proofs.lemmas.List.Sums.{sum_by-cons}
use Rattle.cs_match.specs.Lines.{terminated_lines}
use Rattle.cs_match.specs.Skipping.{NoneMatch}
use Rattle.cs_match.specs.MatchingEnds.{is_matching_end, matching_ends}
use Rattle.cs_match.proofs.MatchingEndLemmas.{length-matching_ends}

-- the first number of a range that passes a test
abbrev IsFirst : (ℕ → Bool) → ℕ → ℕ → ℕ → Type 0
IsFirst p a n e = (p e ≡ true) × (a ≤ e) × (e < a + n) × (filter p (range_with_len a (e - a)) ≡ [])

head : (e a : ℕ) (xs rest : List ℕ) → ◌≡◌ {A = List ℕ} (a ∷ xs) (e ∷ rest) → a ≡ e
head e a xs rest same = (cc)

first-step : (p : ℕ → Bool) (a n e : ℕ) (rest : List ℕ) (t : Bool) → p a ≡ t →
    (filter p (range_with_len (a + 1) n) ≡ e ∷ rest → IsFirst p (a + 1) n e) →
    cond t (a ∷ filter p (range_with_len (a + 1) n)) (filter p (range_with_len (a + 1) n)) ≡ e ∷ rest → IsFirst p a (suc n) e
first-step p a n e rest true is later same =
    let here = head e a (filter p (range_with_len (a + 1) n)) rest same in
    let none : e - a ≡ 0 = omega (arith, here) in
    (ap p (sym here) ∙ is, omega (arith, here), omega (arith, here), ap (λ k. filter p (range_with_len a k)) none)
first-step p a n e rest false is later same =
    let h = later same in
    let size : e - a ≡ suc (e - (a + 1)) = omega (arith, h.1) in (
      h.0,
      omega (arith, h.1),
      omega (arith, h.2),
      ap (λ k. filter p (range_with_len a k)) size
          ∙ ap (λ t. cond t (a ∷ filter p (range_with_len (a + 1) (e - (a + 1)))) (filter p (range_with_len (a + 1) (e - (a + 1))))) is ∙ h.3,
    )

first-of : (p : ℕ → Bool) (a n e : ℕ) (rest : List ℕ) → filter p (range_with_len a n) ≡ e ∷ rest → IsFirst p a n e
first-of p a zero e rest same = cc
first-of p a (suc n) e rest same = first-step p a n e rest (p a) refl (first-of p (a + 1) n e rest) same

-- none of the lines matches if no end is counted
none-cons : (has_match : List ℕ → Bool) (line : List ℕ) (lines : List (List ℕ)) (t : Bool) → has_match line ≡ t →
    count_by has_match (line ∷ lines) ≡ 0 → (t ≡ false) × (count_by has_match lines ≡ 0)
none-cons has_match line lines true is e =
    let one = sum_by-cons (λ line. cond (has_match line) 1 0) line lines ∙ ap (λ t. cond t 1 0 + count_by has_match lines) is in
    let no : ⊥ = omega (arith, one, e) in absurd no
none-cons has_match line lines false is e =
    let none = sum_by-cons (λ line. cond (has_match line) 1 0) line lines ∙ ap (λ t. cond t 1 0 + count_by has_match lines) is in
    (refl, omega (arith, none, e))

none-counted : (has_match : List ℕ → Bool) (lines : List (List ℕ)) → count_by has_match lines ≡ 0 → NoneMatch has_match lines
none-counted has_match [] e = All-nil (λ line. has_match line ≡ false)
none-counted has_match (line ∷ lines) e =
    let h = none-cons has_match line lines (has_match line) refl e in
    All-cons (λ line. has_match line ≡ false) line lines h.0 (none-counted has_match lines h.1)

module _ (has_match : List ℕ → Bool) (block : List ℕ) (from to : ℕ) (high : to ≤ length block) where
  pub none-listed : from ≤ to → matching_ends has_match block from to ≡ [] →
      NoneMatch has_match (terminated_lines (take (to - from) (drop from block)))
  none-listed low e = none-counted has_match (terminated_lines (take (to - from) (drop from block)))
      (sym (length-matching_ends has_match block from to low high) ∙ ap (λ (xs : List ℕ). length xs) e)

  -- a matching line ends at the first of the list, and none before it
  pub first-listed : (end : ℕ) (rest : List ℕ) → matching_ends has_match block from to ≡ end ∷ rest →
      (is_matching_end has_match block from end ≡ true) × (from ≤ end) × (end < from + (to - from)) × (matching_ends has_match block from end ≡ [])
  unfolding matching_ends
  first-listed end rest e = first-of (is_matching_end has_match block from) from (to - from) end rest e
