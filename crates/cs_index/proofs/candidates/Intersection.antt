-- Filtered ids, ranges of ids and ascending ids.
use Rattle.std.proofs.Common.{◌≡◌, ℕ, zero, suc, ◌+◌, ◌-◌, ◌<◌, ◌≤◌, true, ◌&&◌, ◌||◌, eqb, ltb, List, [], ◌∷◌, sym, ap, subst, ◌∙◌, inl, inr, arith, Option, Some, None}
use Rattle.cs_index.specs.AscendingIds.{AscendWithin}
use Rattle.cs_index.specs.PostingLists.{read_varint, Ids, damage, onto, read_ids}
use Rattle.cs_trigram.specs.Trigram.{has, Ascends}
use Rattle.std.proofs.lemmas.Bool.{true≢false, and_parts, ltb-true, cases_Bool, cond_both, cases_order, eqb-true, eq-eqb, ne_eqb, or_left}
use Rattle.std.specs.List.{AllByRecursion, range_with_len}
use Rattle.cs_trigram.proofs.SetLemmas.{Above, ascends_cons}
use Rattle.cs_index.proofs.encoding.VarintRoundtrip.{after_delta}

-- ---- ranges

has_from : (a n k : ℕ) → a ≤ k → k < a + n → has (range_with_len a n) k ≡ true
has_from a zero k h g = absurd (omega (arith, h, g))
has_from a (suc n) k h g = elim (cases_order a k) [
  | inl e ↦ or_left (eqb a k) (has (range_with_len (a + 1) n) k) (eq-eqb a k e)
  | inr other ↦ elim other [
    | inl less ↦ ap (λ b. b || has (range_with_len (a + 1) n) k) (ne_eqb a k (λ e. absurd (omega (arith, e, less))))
        ∙ has_from (a + 1) n k (omega (arith, less)) (omega (arith, g))
    | inr more ↦ absurd (omega (arith, h, more))
  ]
]

pub has_range : (n k : ℕ) → k < n → has (range_with_len 0 n) k ≡ true
has_range n k h = has_from 0 n k (omega arith) (omega (arith, h))

pub range_step : (a n : ℕ) → 0 < n → range_with_len a n ≡ a ∷ range_with_len (a + 1) (n - 1)
range_step a zero h = absurd (omega (arith, h))
range_step a (suc n) h = ap (λ m. a ∷ range_with_len (a + 1) m) (let z : n ≡ suc n - 1 = omega arith in z)

-- ---- ascending ids

pub rise_ascends : (name_count next : ℕ) (ids : List ℕ) → AscendWithin name_count next ids → Ascends ids
rise_ascends name_count next [] up = tt
rise_ascends name_count next (id ∷ ids) up = ascends_cons id ids (first name_count (id + 1) ids up.2 (omega arith))
    (rise_ascends name_count (id + 1) ids up.2)
  where
    first : (m k : ℕ) (is : List ℕ) → AscendWithin m k is → id < k → Above id is
    first m k [] u h = tt
    first m k (i ∷ is) u h = omega (arith, u.0, h)

pub read_rise : (name_count count next : ℕ) (bytes : List ℕ) → AscendWithin name_count next (read_ids name_count count next bytes).ids
read_rise name_count zero next bytes = tt
read_rise name_count (suc count) next bytes = rise_after (λ delta rest. read_rise name_count count (next + delta) rest) (read_varint bytes)
  where
    rise_after : ((delta : ℕ) (rest : List ℕ) → AscendWithin name_count (next + delta)
        (read_ids name_count count (next + delta) rest).ids) → (found : Option (ℕ × List ℕ)) →
        AscendWithin name_count next (after_delta name_count next (read_ids name_count count) found).ids
    rise_after more None = tt
    rise_after more (Some (delta, rest)) =
        cond_both (ltb 0 delta && ltb (next + delta) (name_count + 1))
        (onto (next + delta - 1) (read_ids name_count count (next + delta) rest)) damage
        (λ (r : Ids). AscendWithin name_count next r.ids)
        (λ t.
        let both = and_parts (ltb 0 delta) (ltb (next + delta) (name_count + 1)) t in
        let above = ltb-true 0 delta both.0 in
        let below = ltb-true (next + delta) (name_count + 1) both.1 in
        let after : next + delta ≡ next + delta - 1 + 1 = omega (arith, above) in (
          omega (arith, above),
          omega (arith, above, below),
          subst (λ k. AscendWithin name_count k (read_ids name_count count (next + delta) rest).ids) after
              (more delta rest),
        ))
        (λ _. tt)

-- a member of bounded ids is bounded
pub has_below : (n : ℕ) (ids : List ℕ) (k : ℕ) → AllByRecursion (λ id. id < n) ids → has ids k ≡ true → k < n
has_below n [] k all h = absurd (true≢false (sym h))
has_below n (id ∷ ids) k all h = elim (cases_Bool (eqb id k)) [
  | inl here ↦ subst (λ m. m < n) (eqb-true id k here) all.0
  | inr apart ↦ has_below n ids k all.1 (sym (ap (λ b. b || has ids k) apart) ∙ h)
]
