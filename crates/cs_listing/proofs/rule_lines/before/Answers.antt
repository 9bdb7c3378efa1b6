use Rattle.std.proofs.Common.{rules, tests, eqb}
use Rattle.std.proofs.lemmas.Iterator.{YieldsList-from_slice}
use Rattle.std.proofs.lemmas.Iterator.Search.{position_from_yields_List}
use Rattle.cs_listing.proofs.LineLemmas.{before_at}
use Rattle.cs_listing.proofs.rule_lines.before.Goals as goal

pub returns-in-Some : goal.returns-in-Some
returns-in-Some c =
    let line = c.args.text.now in
    let found = position_from_yields_List (λ b. eqb b c.args.byte) _ _ c.position.result c.position.ensures.ran (YieldsList-from_slice line cc)
    (λ x b q k. search (rules, tests)) in
    rw c.in-Some.is at (before_at (λ b. eqb b c.args.byte) line c.position.result found)

pub returns-in-None : goal.returns-in-None
returns-in-None c =
    let line = c.args.text.now in
    let found = position_from_yields_List (λ b. eqb b c.args.byte) _ _ c.position.result c.position.ensures.ran (YieldsList-from_slice line cc)
    (λ x b q k. search (rules, tests)) in
    rw c.in-None.is at (before_at (λ b. eqb b c.args.byte) line c.position.result found)
