use Rattle.std.proofs.Common.{◌≡◌, ◌∙◌, ℕ, suc, false, inl, inr, get_or, subst, arith}
use Rattle.std.proofs.lemmas.Bool.{cases_lt}
use Rattle.std.proofs.lemmas.List.{get_or_default}
use Rattle.cs_match.specs.ByteClasses.{begins_at}
use Rattle.cs_match.specs.Digits.{IsNoDigit}
use Rattle.cs_match.proofs.DigitLemmas.{digits_alike}
use Rattle.cs_match.proofs.byte_classes.mark_digits.Goals as goal

pub loop-cut-preserved : goal.loop-cut-preserved
loop-cut-preserved c =
    let i = c.loop-cut.invariant in
    let index = c.loop-cut.cut-index in
    let cuts = c.args.cuts.now in
    let ones = c.mark_digit.ensures in
    let middle = c.mark_digit-in-loop-cut.ensures in
    let high = c.mark_digit-in-loop-cut-2.ensures in
    record {
      bytes = high.bytes ∙ middle.bytes ∙ ones.bytes ∙ i.bytes;
      kept = λ b e. i.kept b (ones.kept b (middle.kept b (high.kept b e)));
      first = λ e. i.first (ones.kept 128 (middle.kept 128 (high.kept 128 e)));
      none = λ b lt e k less.
          let at_middle = high.kept (suc b) e in
          let at_ones = middle.kept (suc b) at_middle in
          elim (cases_lt k index) [
            | inl before ↦ i.none b lt (ones.kept (suc b) at_ones) k before
            | inr ge ↦
                let same : index ≡ k = omega (arith, ge, less) in
                subst (λ (n : ℕ). IsNoDigit (get_or cuts n 0) 1 (suc b) × IsNoDigit (get_or cuts n 0) 64 (suc b) ×
                IsNoDigit (get_or cuts n 0) 4096 (suc b)) same
                (ones.alike b lt at_ones, middle.alike b lt at_middle, high.alike b lt e)
          ];
    }

pub returns : goal.returns
returns c =
    let i = c.loop-cut.invariant in
    record {
      bytes = i.bytes;
      kept = i.kept;
      alike = λ b lt e low. digits_alike c.args.cuts.now c.requires.cuts.1 b
          (λ is. i.first (subst (λ (k : ℕ). begins_at c.loop-cut.begins k ≡ false) is e)) low
          (λ cut h. subst (λ (n : ℕ). IsNoDigit n 1 (suc b) × IsNoDigit n 64 (suc b) × IsNoDigit n 4096 (suc b))
          (get_or_default c.args.cuts.now h.0 0 cut h.1 ∙ h.2) (i.none b lt e h.0 (omega (arith, h.1, c.loop-cut-test.false))));
    }
