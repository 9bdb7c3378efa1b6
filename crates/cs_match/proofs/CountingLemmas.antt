-- The number of matching lines up to an offset.
use Rattle.std.proofs.Common.{◌≡◌, ℕ, ◌+◌, ◌-◌, ◌≤◌, Bool, false, cond, List, [], ◌∷◌, take, drop, count_by, refl, ap, ◌∙◌, arith}
use Rattle.std.proofs.lemmas.List.Sums.{sum_by-cons, sum_by-append}
use Rattle.std.specs.List.{AllByRecursion}
use Rattle.cs_match.specs.Lines.{terminated_lines}
use Rattle.cs_match.specs.Skipping.{AreWholeLines}
use Rattle.cs_match.proofs.WholeLineLemmas.{between_by, terminated_lines-whole}

module _ (has_match : List ℕ → Bool) where
  pub count_cons : (line : List ℕ) (lines : List (List ℕ)) (t : Bool) → has_match line ≡ t →
      count_by has_match (line ∷ lines) ≡ cond t 1 0 + count_by has_match lines
  count_cons line lines t e = sum_by-cons (λ l. cond (has_match l) 1 0) line lines ∙ ap (λ b. cond b 1 0 + count_by has_match lines) e

  pub none_counted : (lines : List (List ℕ)) → AllByRecursion (λ line. has_match line ≡ false) lines → count_by has_match lines ≡ 0
  none_counted [] none = refl
  none_counted (l ∷ lines) none = omega (arith, count_cons l lines false none.0, none_counted lines none.1)

  module _ (block : List ℕ) where
    -- the matching lines between two offsets
    abbrev pub count_between : ℕ → ℕ → ℕ
    count_between from to = count_by has_match (terminated_lines (take (to - from) (drop from block)))

    pub count_none : 0 ≡ count_between 0 0
    unfolding terminated_lines
    count_none = refl

    pub count_on : (middle to : ℕ) → middle ≤ to → AreWholeLines (take (middle - 0) (drop 0 block)) → count_between 0 to
        ≡ count_between 0 middle + count_between middle to
    count_on middle to low whole =
        let a = take (middle - 0) (drop 0 block) in
        let b = take (to - middle) (drop middle block) in
        ap (λ text. count_by has_match (terminated_lines text)) (between_by block 0 middle to (omega arith) low)
        ∙ ap (count_by has_match) (terminated_lines-whole b a whole)
        ∙ sum_by-append (λ l. cond (has_match l) 1 0) (terminated_lines a) (terminated_lines b)
