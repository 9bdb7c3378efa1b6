use Rattle.std.proofs.lemmas.Bool.{eq-eqb, ne_eqb}
use Rattle.cs_listing.proofs.LineLemmas.{last_taken, last_kept}
use Rattle.cs_listing.proofs.rule_lines.without_last.Goals as goal

pub returns-in-Some : goal.returns-in-Some
returns-in-Some c =
    last_taken c.args.last c.in-Some.byte.now c.args.text.now c.in-Some.rest.now c.in-Some.ensures.cases (eq-eqb _ _ c.if-byte-last.true)

pub returns-in_default : goal.returns-in_default
returns-in_default c =
    last_kept c.args.last c.in-Some.byte.now c.args.text.now c.in-Some.rest.now c.in-Some.ensures.cases (ne_eqb _ _ c.if-byte-last.false)
