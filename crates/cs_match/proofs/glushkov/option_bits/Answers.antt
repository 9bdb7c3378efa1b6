use Rattle.std.proofs.Common.{◌≡◌, ◌+◌, ◌%◌, ◌∙◌, eqb, ap, sym, arith}
use Rattle.cs_match.proofs.RangeLemmas.{every-bit, other-bit}
use Rattle.cs_match.proofs.glushkov.option_bits.Goals as goal

pub returns-then-n-eq1 : goal.returns-then-n-eq1
returns-then-n-eq1 c = λ k.
    every-bit c.args.at k ∙ ap (λ n. eqb ((c.args.at + k) % n) 0) (sym c.if-n-eq1.true)

pub returns-else-n-eq1 : goal.returns-else-n-eq1
returns-else-n-eq1 c = λ k.
    let two : 2 ≡ c.args.n = omega (arith, c.requires.0, c.requires.1, c.if-n-eq1.false) in
    other-bit c.args.at k ∙ ap (λ n. eqb ((c.args.at + k) % n) 0) two
