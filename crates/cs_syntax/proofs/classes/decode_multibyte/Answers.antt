use Rattle.std.proofs.Common.{◌∙◌, ap, get_or, ◌+◌, ◌-◌, ◌*◌}
use Rattle.cs_syntax.proofs.ClassLemmas.{of_two, of_three, of_four, not_two, not_three, not_four}
use Rattle.cs_syntax.proofs.classes.decode_multibyte.Goals as goal

pub returns-in_default : goal.returns-in_default
returns-in_default c = not_two c.args.first c.requires c.args.others.now c.if-first-lt224.true c.in_default.len_below

pub returns-in_default-others : goal.returns-in_default-others
returns-in_default-others c = not_three c.args.first c.requires c.args.others.now c.if-first-lt224.false
    c.if-first-lt240.true c.in_default-others.len_below

pub returns-in_default-others-2 : goal.returns-in_default-others-2
returns-in_default-others-2 c = not_four c.args.first c.requires c.args.others.now c.if-first-lt240.false c.in_default-others-2.len_below

pub returns-then-first-lt224 : goal.returns-then-first-lt224
returns-then-first-lt224 c = c.with_continuation.ensures ∙ ap (λ n. n * 64 + (get_or c.args.others.now 0 0 - 128))
    c.saturating_sub.ensures ∙ of_two c.args.first c.requires c.args.others.now c.if-first-lt224.true
    c.in-len1-up.len_at_least

pub returns-then-first-lt240 : goal.returns-then-first-lt240
returns-then-first-lt240 c =
    c.with_continuation-then-first-lt240-2.ensures
    ∙ ap (λ n. n * 64 + (get_or c.args.others.now 1 0 - 128)) c.with_continuation-then-first-lt240.ensures
    ∙ of_three c.args.first c.requires c.args.others.now c.if-first-lt224.false c.if-first-lt240.true c.in-len2-up.len_at_least

pub returns : goal.returns
returns c =
    let others = c.args.others.now in
    c.with_continuation-4.ensures
    ∙ ap (λ n. n * 64 + (get_or others 2 0 - 128))
    (c.with_continuation-3.ensures ∙ ap (λ n. n * 64 + (get_or others 1 0 - 128)) c.with_continuation-2.ensures)
    ∙ of_four c.args.first c.requires others c.if-first-lt240.false c.in-len3-up.len_at_least
