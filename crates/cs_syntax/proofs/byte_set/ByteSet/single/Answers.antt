use Rattle.std.proofs.Common.{◌≡◌, ◌+◌, ◌*◌, get_or, w64, true≢false, eq-eqb, eqb-true, sym, ◌∙◌, ap, arith}
use Rattle.std.specs.Prelude.{count_ones}
use Rattle.std.specs.Int.{trailing_zeros}
use Rattle.cs_syntax.specs.Matching.{member}
use Rattle.cs_syntax.specs.Members.{count}
use Rattle.cs_syntax.proofs.ByteSetLemmas.{only_counts, one_is_only}
use Rattle.cs_syntax.proofs.ByteSetWordLemmas.{ones_count, lowest_member}
use Rattle.cs_syntax.proofs.byte_set.ByteSet.single.Goals as goal

pub returns-then-not-has_one-clause-none : goal.returns-then-not-has_one-clause-none
returns-then-not-has_one-clause-none c =
    λ b only. true≢false (sym (c.has_one.ensures ∙ eq-eqb _ 1 (only_counts c.args.self.now b only))
    ∙ c.if-not-has_one.true)

pub returns-then-word-ne0-clause-some : goal.returns-then-word-ne0-clause-some
returns-then-word-ne0-clause-some c =
    let words = c.self.inside.words in
    let index = 64 * c.loop-k.k + trailing_zeros w64 (get_or words c.loop-k.k 0) in
    let one : count c.args.self.now ≡ 1 = eqb-true _ 1 (sym c.has_one.ensures ∙ c.if-not-has_one.false) in
    one_is_only c.args.self.now one index
    (ap (λ set. member set index) (sym c.self.view_is) ∙ lowest_member words c.self.invariant c.loop-k.k (omega arith) c.if-word-ne0.true)

pub returns-clause-none : goal.returns-clause-none
returns-clause-none c = λ b only.
    let words = c.self.inside.words in
    let none = c.loop-k.invariant in
    let one : count c.args.self.now ≡ 1 = eqb-true _ 1 (sym c.has_one.ensures ∙ c.if-not-has_one.false) in
    let all = ones_count words c.self.invariant ∙ ap count c.self.view_is in
    omega (
      arith,
      one,
      all,
      ap count_ones (none 0 (omega arith)),
      ap count_ones (none 1 (omega arith)),
      ap count_ones (none 2 (omega arith)),
      ap count_ones (none 3 (omega arith)),
    )
