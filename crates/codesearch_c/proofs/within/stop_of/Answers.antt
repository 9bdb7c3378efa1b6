use Rattle.std.proofs.Common.{◌≡◌, ◌+◌, ◌-◌, subst, arith}
use Rattle.cs_match.proofs.NewlineLemmas.{next_none, next_some}
use Rattle.codesearch_c.specs.Budgets.{IsStop}
use Rattle.codesearch_c.proofs.BudgetLemmas.{stops_after, stops_nowhere, stops_no_more, stops_at_once}
use Rattle.codesearch_c.proofs.within.stop_of.Goals as goal

pub returns-then-budget-eq0 : goal.returns-then-budget-eq0
returns-then-budget-eq0 c = stops_at_once c.args.block.now c.args.budget (omega arith) (omega (arith, c.saturating_sub-left.ensures))

pub returns-in_default : goal.returns-in_default
returns-in_default c =
    let budget = c.args.budget in
    let last = budget.from + budget.bytes - 1 in
    stops_no_more c.args.block.now budget last (omega arith) (omega arith) (omega (arith, c.saturating_sub-left.ensures))
    (next_none c.args.block.now last c.in_default.ensures)

pub returns-then-start-block : goal.returns-then-start-block
returns-then-start-block c =
    let block = c.args.block.now in
    let budget = c.args.budget in
    let last = budget.from + budget.bytes - 1 in
    let at = last + c.in-Some.offset in
    let h = next_some block last c.in-Some.offset c.in-Some.ensures in
    let start : at + 1 ≡ budget.from + budget.bytes + c.in-Some.offset = omega arith in
    subst (IsStop block budget) start
    (stops_after block budget last at (omega arith) (omega arith) h.0 h.2 (omega arith) h.3)

pub returns-else-start-block : goal.returns-else-start-block
returns-else-start-block c =
    let block = c.args.block.now in
    let budget = c.args.budget in
    let last = budget.from + budget.bytes - 1 in
    let h = next_some block last c.in-Some.offset c.in-Some.ensures in
    stops_nowhere block budget last (last + c.in-Some.offset) (omega arith) (omega arith) h.0 h.2 (omega arith)
