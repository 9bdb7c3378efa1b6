use Rattle.std.proofs.Common.{◌≡◌, ◌+◌, ◌-◌, ◌*◌, ◌/◌, ◌%◌, ◌^◌, ◌∙◌, eqb, get_or, bit_or, ap, arith}
use Rattle.std.specs.Int.{bit_at}
use Rattle.cs_match.specs.PositionSet.{has_bit_from}
use Rattle.cs_match.proofs.OffsetLemmas.{whole-bit, first-bit, later-bit}
use Rattle.cs_match.proofs.position_set.word_from.Goals as goal

pub returns-then-by-eq0 : goal.returns-then-by-eq0
returns-then-by-eq0 c = λ i h. ap (λ x. eqb (bit_at x i) 1) c.word_at.ensures ∙ whole-bit c.args.words.now c.args.index
    c.args.by i c.if-by-eq0.true h

pub returns-then-index-eq0 : goal.returns-then-index-eq0
returns-then-index-eq0 c = λ i h.
    let words = c.args.words.now in
    let by = c.args.by in
    let start : i ≡ c.args.index * 64 + i = omega (arith, c.if-index-eq0.true) in
    ap (λ x. eqb (bit_at (x * 2 ^ by % 18446744073709551616) i) 1) (c.word_at-2.ensures ∙ ap (λ k. get_or words k 0) c.if-index-eq0.true)
    ∙ first-bit words by i h ∙ ap (has_bit_from words by) start

pub returns : goal.returns
returns c = λ i h.
    let words = c.args.words.now in
    let by = c.args.by in
    let p = c.args.index - 1 in
    let next : c.args.index ≡ p + 1 = omega arith in
    let start : (p + 1) * 64 + i ≡ c.args.index * 64 + i = omega arith in
    ap (λ x. eqb (bit_at (bit_or (x * 2 ^ by % 18446744073709551616) (c.word_at-3.result / 2 / 2 ^ (63 - by))) i) 1)
    (c.word_at-2.ensures ∙ ap (λ k. get_or words k 0) next)
    ∙ ap (λ x. eqb (bit_at (bit_or (get_or words (p + 1) 0 * 2 ^ by % 18446744073709551616) (x / 2 / 2 ^ (63 - by))) i)
    1) c.word_at-3.ensures
    ∙ later-bit words by p i c.requires h (omega (arith, c.word_at-3.ensures, c.word_at-3.type_inv)) ∙ ap (has_bit_from words by) start
