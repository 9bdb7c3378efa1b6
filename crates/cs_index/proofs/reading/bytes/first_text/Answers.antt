use Rattle.std.proofs.Common.{◌∙◌, ap, sym, get_or, arith, Option, None, Some}
use Rattle.std.proofs.lemmas.Bool.{eqb-true}
use Rattle.std.specs.Option.{IfNone}
use Rattle.cs_index.proofs.decoding.StringScan.{nul_first, none_left, none_ended, above_take, above_all, apart_from}
use Rattle.cs_index.proofs.reading.bytes.first_text.Goals as goal

any_none : {X : Type 0} {P : Type 0} (o : Option X) → P → IfNone o P
any_none None p = p
any_none (Some x) p = tt

pub returns-in_err-end-clause-none : goal.returns-in_err-end-clause-none
returns-in_err-end-clause-none c =
    any_none c.from_residual.result (none_ended c.args.section.now
    (above_all c.args.section.now (λ k l. apart_from c.args.section.now k (c.in_err-end.ensures k (omega arith) l))))

pub returns-then-end-eq0-clause-none : goal.returns-then-end-eq0-clause-none
returns-then-end-eq0-clause-none c =
    none_left c.args.section.now (nul_first c.args.section.now
    (ap (λ k. get_or c.args.section.now k 0) (sym c.if-end-eq0.true)
    ∙ eqb-true (get_or c.args.section.now c.in_ok-end.end 0) 0 c.in_ok-end.ensures.1))

pub returns-clause-above : goal.returns-clause-above
returns-clause-above c =
    let within = c.in_ok-end.ensures.0.high in
    above_take c.args.section.now c.in_ok-end.end (omega (arith, within))
    (λ k l. apart_from c.args.section.now k (c.in_ok-end.ensures.0.before k (omega arith) l))
