use Rattle.std.proofs.Common.{◌≡◌, ◌+◌, ◌<◌, ◌≤◌, length, subst, arith}
use Rattle.cs_prefilter.specs.declared.word.Word.{Word}
use Rattle.cs_prefilter.specs.WordAt.{WordAt}
use Rattle.cs_prefilter.specs.WordBuckets.{StartsPart}
use Rattle.cs_prefilter.proofs.WordBucketLemmas.{start_within, starts_rise, between_starts, few_in_part, element}
use Rattle.cs_prefilter.proofs.comparing.WordList.occurs_in.Goals as goal

pub occurs_at-requires-clause-index : goal.occurs_at-requires-clause-index
occurs_at-requires-clause-index c = omega (
  arith,
  c.loop-i-test.true,
  c.len-len.ensures,
  start_within c.len-len.result (c.args.bucket + 1) c.first_in-end.result (omega (arith, c.requires.bucket)) c.first_in-end.ensures,
)

pub returns-then-occurs_at-clause-found : goal.returns-then-occurs_at-clause-found
returns-then-occurs_at-clause-found c t =
    let words = c.args.self.now.words.items in
    let within : c.loop-i.i < length words = omega (
      arith,
      c.loop-i-test.true,
      c.len-len.ensures,
      start_within c.len-len.result (c.args.bucket + 1) c.first_in-end.result (omega (arith, c.requires.bucket)) c.first_in-end.ensures,
    ) in
    let some = element words c.loop-i.i within in (
      c.loop-i.i,
      some.0,
      within,
      some.1,
      subst (λ (w : Word). WordAt c.args.text.now c.args.offset w) some.1
          ((c.occurs_at.ensures.found some.0).0 c.if-occurs_at.true),
    )

pub returns-then-occurs_at-clause-work : goal.returns-then-occurs_at-clause-work
returns-then-occurs_at-clause-work c =
    let few : c.first_in-end.result ≤ c.first_in-first.result + 8 =
    few_in_part c.len-len.result c.args.bucket _ _ (omega (arith, c.len-len.ensures, c.args.self.now.few)) c.first_in-first.ensures c.first_in-end.ensures in (
      omega (arith, c.loop-i.invariant.rises, c.occurs_at.ensures.work.0),
      omega (arith, c.loop-i.invariant.work, c.occurs_at.ensures.work.1, c.loop-i-test.true, few),
    )

pub returns-clause-none : goal.returns-clause-none
returns-clause-none c f i d within part =
    let n = length c.args.self.now.words.items in
    let len : c.len-len.result ≡ n = omega (arith, c.len-len.ensures) in
    let own = between_starts n c.args.bucket c.first_in-first.result c.first_in-end.result i
    (subst (λ m. StartsPart m c.args.bucket c.first_in-first.result) len c.first_in-first.ensures)
    (subst (λ m. StartsPart m (c.args.bucket + 1) c.first_in-end.result) len c.first_in-end.ensures) part in
    c.loop-i.invariant.none i d own.0 (omega (arith, own.1, c.loop-i-test.false))

pub returns-clause-work : goal.returns-clause-work
returns-clause-work c =
    let few : c.first_in-end.result ≤ c.first_in-first.result + 8 =
    few_in_part c.len-len.result c.args.bucket _ _ (omega (arith, c.len-len.ensures, c.args.self.now.few)) c.first_in-first.ensures c.first_in-end.ensures in
    let rise = starts_rise c.len-len.result c.args.bucket _ _ c.first_in-first.ensures c.first_in-end.ensures in
    (c.loop-i.invariant.rises, omega (arith, c.loop-i.invariant.work, c.loop-i.auto.i-end rise, few))
