use Rattle.std.proofs.Common.{◌≡◌, ◌<◌, ◌-◌, ◌∙◌, sym, ap, subst, length, get_or, get_or-take, arith}
use Rattle.std.proofs.lemmas.Bool.{eqb-true}
use Rattle.cs_trigram.specs.FastPath.{LinesFit, column_after}
use Rattle.cs_trigram.proofs.FastPathLemmas.{LinesFit-short, LinesFit-rest, column-rest}
use Rattle.cs_trigram.proofs.position.column_after.Goals as goal

pub lines-preserved : goal.lines-preserved
lines-preserved c =
    let most = c.args.most in
    let column = c.lines.column in
    let rest = c.lines.rest.now in
    let offset = c.in_ok-offset.offset in
    let last = c.in_ok-offset.ensures in
    let near = c.split_at.result.0.now in
    let inside : offset < length near = last.0.high in
    let prefix = c.split_at.ensures.front_len in
    let within : offset < length rest = omega (arith, inside, prefix, c.lines-test.true) in
    let close : offset < most - column = omega (arith, inside, prefix) in
    let newline : get_or rest offset 0 ≡ 10 =
    sym (ap (λ xs. get_or xs offset 0) c.split_at.ensures.front ∙ get_or-take (most - column) rest offset 0 close)
    ∙ eqb-true (get_or near offset 0) 10 last.1
    in
    record {
      within = omega arith;
      fit = λ h. c.lines.invariant.fit (LinesFit-rest most column rest offset within newline (omega (arith, close))
          (subst (LinesFit most 0) c.split_at-in-lines.ensures.back h));
      end_column = ap (column_after 0) c.split_at-in-lines.ensures.back
          ∙ sym (column-rest column rest offset within newline) ∙ c.lines.invariant.end_column;
    }

pub returns-clause-fit : goal.returns-clause-fit
returns-clause-fit c = (
  c.lines.invariant.fit
      (LinesFit-short c.args.most c.lines.column c.lines.rest.now (omega arith)),
  c.last_column.ensures.end_column
      ∙ c.lines.invariant.end_column,
)
