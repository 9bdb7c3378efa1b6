use Rattle.std.proofs.Common.{rules, w32}
use Rattle.std.proofs.lemmas.Int.{to_z-of_z}
use Rattle.codesearch_c.proofs.BudgetLemmas.{next_before, next_stops}
use Rattle.codesearch_c.proofs.slot.HeldPattern.next_within_code.Goals as goal

pub returns-then-code-ne0-clause-code : goal.returns-then-code-ne0-clause-code
returns-then-code-ne0-clause-code c =
    let n = c.next_code-code in
    next_before c.args.self.now.pattern c.args.block.now c.args.budget c.args.line.now n.new.line c.args.reached.now
    c.in-Some.stop c.in-Some.ensures n.result _ (to_z-of_z w32 n.result (record { sfits = n.type_inv }))
    (search rules) n.ensures.code n.ensures.line

pub returns-clause-code : goal.returns-clause-code
returns-clause-code c =
    let n = c.next_code-code in
    next_stops c.args.self.now.pattern c.args.block.now c.args.budget c.args.line.now n.new.line c.args.reached.now
    c.in-Some.stop c.in-Some.ensures n.result (search rules) n.ensures.code
