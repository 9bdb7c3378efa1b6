use Rattle.std.proofs.Common.{◌≡◌, ◌∙◌, ◌⊎◌, ◌+◌, ◌-◌, ◌++◌, string_bytes, arith, ap, inl, inr, sym}
use lib.Utf8.{encode}
use Rattle.cs_state.specs.StampedNames.{number_text}
use Rattle.cs_state.proofs.NumberLemmas.{ended, pushed, text_is}
use Rattle.cs_state.proofs.stamp_text.push_number.Goals as goal
use Rattle.cs_state.proofs.stamp_text.push_number.Goals.{else-digits-test, then-digits-test+then-left-eq0}

pub digits-init : goal.digits-init
digits-init c = ap (λ l. string_bytes c.args.name.now ++ l) (sym (text_is c.args.n))

pub digits-preserved : goal.digits-preserved
digits-preserved c =
    pushed (string_bytes c.digits.name) (string_bytes c.push.new.self) (string_bytes c.args.name.now ++ number_text c.args.n) c.from.result
    (11 - c.digits._digit) (11 - (c.digits._digit + 1)) c.digits.left c.digits.invariant
    (omega (arith, c.digits-test.true)) (omega (arith, c.if-left-eq0.false)) (c.from.ensures ∙ c.digit.ensures) (omega arith)
    (c.in_ok-push.ensures.bytes ∙ ap (λ l. string_bytes c.digits.name ++ l) (c.in_ok-push.ensures.ascii (omega (arith, c.from.ensures, c.digit.ensures))))

pub returns : goal.returns
unfolding encode
returns c =
    let ends : (11 - c.digits._digit ≡ 0) ⊎ (c.digits.left ≡ 0) = elim c.digits-test.branch [
      | else-digits-test w ↦ inl (omega (arith, w.digits-test.false))
      | then-digits-test+then-left-eq0 w ↦ inr w.if-left-eq0.true
    ] in
    ended c.push-2.result (string_bytes c.digits.name) (string_bytes c.push-2.new.self) (string_bytes c.args.name.now ++ number_text c.args.n)
    (11 - c.digits._digit) c.digits.left c.digits.invariant ends c.push-2.ensures.bytes
