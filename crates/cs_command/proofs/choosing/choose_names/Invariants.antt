use Rattle.std.proofs.Common.{length, map}
use Rattle.std.specs.Prelude.{string_bytes}
use Rattle.std.specs.List.{filter_map}
use Rattle.cs_listing.specs.Choices.{Settings}
use Rattle.cs_listing.specs.Models.{chosen_in}
use Rattle.cs_command.specs.Choices.{ChoosesAll, choice_in, IsChoiceIn}
use Rattle.cs_command.specs.declared.fault.RequestFault.{RequestFault}
use Rattle.cs_command.proofs.choosing.choose_names.Given as goal

-- what follows by the items that are left follows by all
abbrev pub invariant-items : goal.invariant-items
invariant-items l = record {
  chosen : (new : Settings) → ChoosesAll (filter_map (choice_in (map string_bytes l.words)) l.rest) (chosen_in l.choices) new
      → ChoosesAll (filter_map (choice_in (map string_bytes l.words)) l.items) (chosen_in l.fn.choices) new;
  typed : (fault : RequestFault) → IsChoiceIn l.rest fault → IsChoiceIn l.items fault;
}

abbrev pub decreases-items : goal.decreases-items
decreases-items l = length l.rest
