use Rattle.std.proofs.Common.{sym, ap, ◌∙◌}
use Rattle.cs_command.specs.Options.{options_after}
use Rattle.cs_command.proofs.OptionLemmas.{no_item, next_item}
use Rattle.cs_command.proofs.options.options_of.Goals as goal

pub items-preserved : goal.items-preserved
items-preserved c =
    c.items.invariant ∙ ap (options_after c.items.options) c.in-Some.ensures.cases.0
    ∙ next_item c.items.options c.add.new.self c.in-Some.item.now c.in-Some.behind.now c.add.ensures

pub returns : goal.returns
returns c = sym (c.items.invariant ∙ no_item c.items.options c.items.rest.now c.in_default.ensures.cases)
