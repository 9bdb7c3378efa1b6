use Rattle.std.proofs.Common.{false, ◌&&◌, sym, ap, ◌∙◌}
use Rattle.std.specs.Bool.{xor}
use Rattle.cs_syntax.specs.Characters.{is_scalar}
use Rattle.cs_syntax.proofs.CharRangeLemmas.{canonical_ranges_unique, others_of, xor-false}
use Rattle.cs_syntax.proofs.char_set.CharSet.of_ranges.Goals as goal

pub returns-then-negated : goal.returns-then-negated
returns-then-negated c =
    rw c.if-negated.true (others_of c.args.ranges.now _ c.complement.result c.in_ok-set.ensures.members
    c.complement.ensures.members c.complement.ensures.maximal)

pub returns-else-negated : goal.returns-else-negated
returns-else-negated c = λ test have.
    rw c.if-negated.false (canonical_ranges_unique (λ x. xor false (test x)) c.in_ok-set.set c.in_ok-set.ensures.maximal
    (λ x. c.in_ok-set.ensures.members x ∙ have x ∙ ap (λ b. is_scalar x && b) (sym (xor-false (test x)))))
