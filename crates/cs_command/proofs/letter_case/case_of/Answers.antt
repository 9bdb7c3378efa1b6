use Rattle.std.proofs.Common.{sym, ap, ◌∙◌}
use Rattle.cs_command.specs.LetterCase.{case_after}
use Rattle.cs_command.proofs.CaseLemmas.{no_item, next_item}
use Rattle.cs_command.proofs.letter_case.case_of.Goals as goal

pub items-preserved : goal.items-preserved
items-preserved c =
    c.items.invariant ∙ ap (case_after c.items.case) c.in-Some.ensures.cases.0
    ∙ next_item c.items.case c.case_set-case.result c.in-Some.item.now c.in-Some.behind.now c.case_set-case.ensures

pub returns : goal.returns
returns c = sym (c.items.invariant ∙ no_item c.items.case c.items.rest.now c.in_default.ensures.cases)
