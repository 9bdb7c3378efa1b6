use Rattle.cs_listing.specs.Models.{chosen_in}
use Rattle.cs_command.specs.Choices.{hidden_if, ignored_if}
use Rattle.cs_command.proofs.ChoiceLemmas.{more_choices}
use Rattle.cs_command.proofs.choosing.choose_kinds.Goals as goal

pub returns : goal.returns
returns c =
    more_choices (hidden_if c.args.files.hidden) _ (chosen_in c.args.choices.now) (chosen_in c.choose_hidden.new.choices) _ c.choose_hidden.ensures
    (more_choices (ignored_if c.args.files.ignored) _ (chosen_in c.choose_hidden.new.choices) (chosen_in c.choose_ignored.new.choices) _
    c.choose_ignored.ensures c.choose_depth.ensures)
