-- Matching ends: one more byte, and whole lines in two parts.
use Rattle.std.proofs.Common.{◌≡◌, ℕ, zero, suc, ◌+◌, ◌-◌, ◌<◌, ◌≤◌, Bool, true, false, cond, ◌&&◌, nat_eq, List, [], ◌∷◌, ◌++◌, length, take, drop, get_or, refl, sym, ap, ap₂, subst, ◌∙◌, arith, drop-cons, length-append, zero-add}
use Rattle.std.specs.List.{filter, range_with_len, count_by}
use Rattle.std.proofs.lemmas.List.Elements.{filter-append}
use Rattle.std.proofs.lemmas.List.Sums.{sum_by-append, sum_by_push}
use Rattle.std.proofs.lemmas.Bool.{eqb-true}
use Rattle.cs_match.specs.Lines.{newline, terminated_lines}
use Rattle.cs_match.specs.LastPart.{last_part}
use Rattle.cs_match.specs.Skipping.{AreWholeLines}
use Rattle.cs_match.specs.MatchingEnds.{is_matching_end, matching_ends, newlines_between}
use Rattle.cs_match.proofs.LinesLemmas.{terminated_lines-append, terminated_lines-line, terminated_lines-part, last_part-append, HasNoNewline-last_part, HasNoNewline-append}
use Rattle.cs_match.proofs.WholeLineLemmas.{between_by, whole_is_terminated}

-- consecutive numbers
range-append : (a m n : ℕ) → range_with_len a (m + n) ≡ range_with_len a m ++ range_with_len (a + m) n
range-append a zero n =
    let none : zero + n ≡ n = omega arith in
    let here : a ≡ a + zero = omega arith in
    ap (range_with_len a) none ∙ ap (λ b. range_with_len b n) here
range-append a (suc m) n =
    let more : suc m + n ≡ suc (m + n) = omega arith in
    let here : a + 1 + m ≡ a + suc m = omega arith in
    ap (range_with_len a) more
    ∙ ap (λ (xs : List ℕ). a ∷ xs) (range-append (a + 1) m n ∙ ap (λ b. range_with_len (a + 1) m ++ range_with_len b n) here)

pub filter-same : (p q : ℕ → Bool) (a n : ℕ) → ((k : ℕ) → a ≤ k → k < a + n → p k ≡ q k) → filter p (range_with_len a n) ≡ filter q (range_with_len a n)
filter-same p q a zero same = refl
filter-same p q a (suc n) same =
    ap₂ (λ b (xs : List ℕ). cond b (a ∷ xs) xs) (same a (omega arith) (omega arith))
    (filter-same p q (a + 1) n (λ k low high. same k (omega arith) (omega arith)))

-- the bytes of a block up to an offset, and the byte there
module _ (block : List ℕ) (from at : ℕ) (low : from ≤ at) (high : at < length block) where
  pub slice-more : take (at + 1 - from) (drop from block) ≡ take (at - from) (drop from block) ++ get_or block at 0 ∷ []
  slice-more =
      let one : at + 1 - at ≡ 1 = omega arith in
      between_by block from at (at + 1) low (omega arith)
      ∙ ap (λ n. take (at - from) (drop from block) ++ take n (drop at block)) one
      ∙ ap (λ rest. take (at - from) (drop from block) ++ take 1 rest) (drop-cons block at 0 high)

  pub newlines-more : newlines_between block from (at + 1) ≡ newlines_between block from at + cond (nat_eq (get_or block at 0) newline) 1 0
  newlines-more = ap (count_by (λ b. nat_eq b newline)) slice-more
      ∙ sum_by_push (λ b. cond (nat_eq b newline) 1 0) (take (at - from) (drop from block)) (get_or block at 0)

pub newlines-append : (block : List ℕ) (from middle to : ℕ) → from ≤ middle → middle ≤ to →
    newlines_between block from to ≡ newlines_between block from middle + newlines_between block middle to
newlines-append block from middle to low high =
    ap (count_by (λ b. nat_eq b newline)) (between_by block from middle to low high)
    ∙ sum_by-append (λ b. cond (nat_eq b newline) 1 0) (take (middle - from) (drop from block)) (take (to - middle) (drop middle block))

pub newlines-rise : (block : List ℕ) (from middle to : ℕ) → from ≤ middle → middle ≤ to →
    newlines_between block from middle ≤ newlines_between block from to
newlines-rise block from middle to low high = omega (arith, newlines-append block from middle to low high)

module _ (has_match : List ℕ → Bool) (block : List ℕ) (from : ℕ) where
  pub ends-none : matching_ends has_match block from from ≡ []
  unfolding matching_ends
  ends-none =
      let none : from - from ≡ 0 = omega arith in
      ap (λ n. filter (is_matching_end has_match block from) (range_with_len from n)) none

  pub ends-more : (at : ℕ) → from ≤ at → matching_ends has_match block from (at + 1) ≡ matching_ends has_match block from at
      ++ cond (is_matching_end has_match block from at) (at ∷ []) []
  unfolding matching_ends
  ends-more at low =
      let p = is_matching_end has_match block from in
      let more : at + 1 - from ≡ at - from + 1 = omega arith in
      let here : from + (at - from) ≡ at = omega arith in
      ap (λ n. filter p (range_with_len from n)) more
      ∙ ap (filter p) (range-append from (at - from) 1)
      ∙ filter-append p (range_with_len from (at - from)) (range_with_len (from + (at - from)) 1)
      ∙ ap (λ k. filter p (range_with_len from (at - from)) ++ filter p (range_with_len k 1)) here

  -- a line that begins after whole lines is the same from there on
  end-after : (middle k : ℕ) → from ≤ middle → AreWholeLines (take (middle - from) (drop from block)) → middle ≤ k →
      is_matching_end has_match block from k ≡ is_matching_end has_match block middle k
  end-after middle k low whole high =
      let a = take (middle - from) (drop from block) in
      let b = take (k - middle) (drop middle block) in
      ap (λ line. nat_eq (get_or block k 0) newline && has_match line)
      (ap last_part (between_by block from middle k low high) ∙ last_part-append a b
      ∙ ap (λ part. last_part (part ++ b)) ((whole_is_terminated a).0 whole))

  pub ends-append : (middle to : ℕ) → from ≤ middle → middle ≤ to → AreWholeLines (take (middle - from) (drop from block)) →
      matching_ends has_match block from to ≡ matching_ends has_match block from middle ++ matching_ends has_match block middle to
  unfolding matching_ends
  ends-append middle to low high whole =
      let p = is_matching_end has_match block from in
      let size : to - from ≡ middle - from + (to - middle) = omega arith in
      let at : from + (middle - from) ≡ middle = omega arith in
      ap (λ n. filter p (range_with_len from n)) size
      ∙ ap (filter p) (range-append from (middle - from) (to - middle))
      ∙ filter-append p (range_with_len from (middle - from)) (range_with_len (from + (middle - from)) (to - middle))
      ∙ ap (λ k. filter p (range_with_len from (middle - from)) ++ filter p (range_with_len k (to - middle))) at
      ∙ ap (λ xs. filter p (range_with_len from (middle - from)) ++ xs)
      (filter-same p (is_matching_end has_match block middle) middle (to - middle) (λ k within _. end-after middle k low whole within))

  -- there are as many as matching lines
  module _ (n : ℕ) (within : from + n < length block) where
    abbrev b : ℕ
    b = get_or block (from + n) 0

    abbrev seen : List ℕ
    seen = take (from + n - from) (drop from block)

    one_line : (t : Bool) → nat_eq b newline ≡ t → count_by has_match (terminated_lines (last_part seen ++ b ∷ []))
        ≡ cond (t && has_match (last_part seen)) 1 0
    unfolding terminated_lines
    one_line true e =
        ap (λ c. count_by has_match (terminated_lines (last_part seen ++ c ∷ []))) (eqb-true b newline e)
        ∙ ap (count_by has_match) (terminated_lines-line (last_part seen) [] (HasNoNewline-last_part seen))
        ∙ sum_by_push (λ line. cond (has_match line) 1 0) [] (last_part seen) ∙ zero-add (cond (has_match (last_part seen)) 1 0)
    one_line false e = ap (count_by has_match) (terminated_lines-part (last_part seen ++ b ∷ [])
        (HasNoNewline-append (last_part seen) (b ∷ []) (HasNoNewline-last_part seen) (e, tt)))

    one_end : (f : Bool) → length (cond f ((from + n) ∷ []) []) ≡ cond f 1 0
    one_end true = refl
    one_end false = refl

    count-more : length (matching_ends has_match block from (from + n)) ≡ count_by has_match (terminated_lines seen) →
        length (matching_ends has_match block from (from + n + 1))
        ≡ count_by has_match (terminated_lines (take (from + n + 1 - from) (drop from block)))
    count-more h =
        let low : from ≤ from + n = omega arith in
        ap (λ (xs : List ℕ). length xs) (ends-more (from + n) low)
        ∙ length-append (matching_ends has_match block from (from + n)) (cond (is_matching_end has_match block from (from + n)) ((from + n) ∷ []) [])
        ∙ ap₂ (λ x y. x + y) h (one_end (is_matching_end has_match block from (from + n)) ∙ sym (one_line (nat_eq b newline) refl))
        ∙ sym (ap (λ text. count_by has_match (terminated_lines text)) (slice-more block from (from + n) low within)
        ∙ ap (count_by has_match) (terminated_lines-append seen (b ∷ []))
        ∙ sum_by-append (λ line. cond (has_match line) 1 0) (terminated_lines seen) (terminated_lines (last_part seen ++ b ∷ [])))

  count-by : (n : ℕ) → from + n ≤ length block → length (matching_ends has_match block from (from + n))
      ≡ count_by has_match (terminated_lines (take (from + n - from) (drop from block)))
  unfolding terminated_lines
  count-by zero high =
      let here : from ≡ from + zero = omega arith in
      let none : 0 ≡ from + zero - from = omega arith in
      ap (λ (xs : List ℕ). length xs) (ap (matching_ends has_match block from) (sym here) ∙ ends-none)
      ∙ ap (λ k. count_by has_match (terminated_lines (take k (drop from block)))) none
  count-by (suc n) high =
      let next : from + n + 1 ≡ from + suc n = omega arith in
      subst (λ to. length (matching_ends has_match block from to)
      ≡ count_by has_match (terminated_lines (take (to - from) (drop from block)))) next
      (count-more n (omega arith) (count-by n (omega arith)))

  pub length-matching_ends : (to : ℕ) → from ≤ to → to ≤ length block → length (matching_ends has_match block from to)
      ≡ count_by has_match (terminated_lines (take (to - from) (drop from block)))
  length-matching_ends to low high =
      let at : from + (to - from) ≡ to = omega arith in
      subst (λ to. length (matching_ends has_match block from to)
      ≡ count_by has_match (terminated_lines (take (to - from) (drop from block)))) at (count-by (to - from) (omega arith))
