use Rattle.std.proofs.Common.{◌≡◌, ◌∙◌, ◌⊎◌, ◌+◌, ◌-◌, ◌/◌, ◌++◌, ℕ, List, arith, ap, inl, inr, sym, subst}
use Rattle.std.specs.Prelude.{IfNone}
use Rattle.cs_state.specs.StampedNames.{number_text, number_within}
use Rattle.cs_state.proofs.NumberLemmas.{has_digit, has_end, reads_digit, reads_end, text_is}
use Rattle.cs_state.proofs.stamp_text.after_number.Goals as goal
use Rattle.cs_state.proofs.stamp_text.after_number.Goals.{else-digits-test, then-digits-test+then-left-eq0}

pub digits-init : goal.digits-init
digits-init c more =
    let is = ap (λ (l : List ℕ). l ++ more) (text_is c.args.n) in (λ whole. whole ∙ is, λ part. part ∙ sym is)

pub digits-preserved : goal.digits-preserved
digits-preserved c =
    reads_digit c.args.text.now (number_text c.args.n) c.digits.rest.now (11 - c.digits._digit) c.digits.left c.digits.invariant
    c.digit.result (omega (arith, c.digits-test.true)) (omega (arith, c.if-left-eq0.false)) c.digit.ensures
    c.in_ok-rest.rest.now (11 - (c.digits._digit + 1)) (omega arith) c.in_ok-rest.ensures.some

pub returns-in_err-rest-clause-none : goal.returns-in_err-rest-clause-none
returns-in_err-rest-clause-none c =
    subst (λ found. IfNone found ((rest : List ℕ) → ¬ (c.args.text.now ≡ number_text c.args.n ++ rest))) (sym c.from_residual.ensures)
    (λ rest whole. c.in_err-rest.ensures.none (number_within (11 - c.digits._digit - 1) (c.digits.left / 64) ++ rest)
    (has_digit c.args.text.now (number_text c.args.n) c.digits.rest.now (11 - c.digits._digit) c.digits.left c.digits.invariant
    c.digit.result (omega (arith, c.digits-test.true)) (omega (arith, c.if-left-eq0.false)) c.digit.ensures rest whole))

pub returns-clause-some : goal.returns-clause-some
returns-clause-some c =
    let ends : (11 - c.digits._digit ≡ 0) ⊎ (c.digits.left ≡ 0) = elim c.digits-test.branch [
      | else-digits-test w ↦ inl (omega (arith, w.digits-test.false))
      | then-digits-test+then-left-eq0 w ↦ inr w.if-left-eq0.true
    ] in
    reads_end c.args.text.now (number_text c.args.n) c.digits.rest.now (11 - c.digits._digit) c.digits.left c.digits.invariant ends
    c.after_byte-2.result c.after_byte-2.ensures.some

pub returns-clause-none : goal.returns-clause-none
returns-clause-none c =
    let ends : (11 - c.digits._digit ≡ 0) ⊎ (c.digits.left ≡ 0) = elim c.digits-test.branch [
      | else-digits-test w ↦ inl (omega (arith, w.digits-test.false))
      | then-digits-test+then-left-eq0 w ↦ inr w.if-left-eq0.true
    ] in
    has_end c.args.text.now (number_text c.args.n) c.digits.rest.now (11 - c.digits._digit) c.digits.left c.digits.invariant ends
    c.after_byte-2.result c.after_byte-2.ensures.none
