use Rattle.std.proofs.Common.{◌≡◌, ◌+◌, ◌∙◌, refl, sym, subst, arith}
use Rattle.std.proofs.lemmas.Bool.{false≢true}
use Rattle.std.proofs.lemmas.List.{drop_all}
use Rattle.cs_match.specs.OneWord.{OccursAt}
use Rattle.cs_match.proofs.OneWordLemmas.{occurs_next, occurs_here}
use Rattle.cs_match.proofs.spans.word.occurs.Goals as goal

pub loop-index-init : goal.loop-index-init
loop-index-init c =
    let s = c.args.line.now in
    let word = c.args.word.now in
    let same : c.args.offset + 0 ≡ c.args.offset = omega arith in
    (λ o. subst (OccursAt s word) same o, λ o. subst (OccursAt s word) (sym same) o)

pub returns-then-not-has_byte : goal.returns-then-not-has_byte
returns-then-not-has_byte c = (
  λ e. absurd (false≢true e),
  λ o.
      let from = occurs_next c.args.line.now c.args.word.now c.args.offset c.loop-index.index c.index-word-index.result
      c.loop-index-test.true c.index-word-index.is (c.loop-index.invariant.1 o) in
      absurd (false≢true (sym c.if-not-has_byte.true ∙ c.has_byte.ensures ∙ from.1)),
)

pub loop-index-preserved : goal.loop-index-preserved
loop-index-preserved c =
    let s = c.args.line.now in
    let word = c.args.word.now in
    let i = c.loop-index.index in
    let p = c.index-word-index.result in
    let given = c.loop-index.invariant in (
      λ o. given.0 (occurs_here s word c.args.offset i p c.loop-index-test.true c.index-word-index.is
          (omega (arith, c.requires, c.loop-index-test.true), sym c.has_byte.ensures ∙ c.if-not-has_byte.false, o)),
      λ o. (occurs_next s word c.args.offset i p c.loop-index-test.true c.index-word-index.is (given.1 o)).2,
    )

pub returns : goal.returns
returns c =
    let s = c.args.line.now in
    let at = c.args.offset + c.loop-index.index in
    let none = drop_all c.loop-index.index c.args.word.now c.loop-index-test.false in
    (λ _. c.loop-index.invariant.0 (subst (λ ps. OccursAt s ps at) (sym none) tt), λ _. refl)
