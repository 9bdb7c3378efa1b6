use Rattle.std.proofs.Common.{◌≡◌, ◌+◌, ◌*◌, min, drop, get_or, sym, ◌∙◌, ap, arith, drop_of_length-le}
use Rattle.cs_syntax.specs.U32Numbers.{max_u32}
use Rattle.cs_syntax.specs.Numbers.{digit_value}
use Rattle.cs_syntax.proofs.ListLemmas.{here_is}
use Rattle.cs_syntax.proofs.NumberLemmas.{grown_once, value_after, value_after-capped}
use Rattle.cs_syntax.proofs.lookahead.value_in.Goals as goal

pub loop-digit-preserved : goal.loop-digit-preserved
loop-digit-preserved c =
    let i = c.loop-digit.digit-index in
    let ds = c.args.digits.now in
    let d = digit_value (get_or ds i 0) in
    let e : min c.saturating_add-value.result max_u32 ≡ min (c.args.base * c.loop-digit.value + d) max_u32 =
    grown_once c.args.base c.loop-digit.value d max_u32 c.saturating_mul.result c.saturating_add-value.result
    c.saturating_mul.ensures (c.saturating_add-value.ensures ∙ ap (λ x. min (c.saturating_mul.result + x) max_u32)
    c.digit_value.ensures) in
    record {
      value =
          value_after-capped c.args.base max_u32 _ _ (drop (i + 1) ds) e
          ∙ sym (ap (λ xs. min (value_after c.args.base c.loop-digit.value xs) max_u32) (here_is ds i c.loop-digit-test.true))
          ∙ c.loop-digit.invariant.value;
      fits = omega arith;
    }

pub returns : goal.returns
returns c =
    let i = c.loop-digit.digit-index in
    let ds = c.args.digits.now in
    let none : min (value_after c.args.base c.loop-digit.value (drop i ds)) max_u32 ≡ min c.loop-digit.value max_u32 =
    ap (λ xs. min (value_after c.args.base c.loop-digit.value xs) max_u32) (drop_of_length-le ds {i = i} c.loop-digit-test.false) in
    omega arith
