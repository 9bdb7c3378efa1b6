use Rattle.std.proofs.Common.{◌≡◌, length}
use Rattle.cs_command.specs.Options.{options_after, options_of}
use Rattle.cs_command.proofs.options.options_of.Given as goal

-- the items that are left ask for what all ask for
abbrev pub invariant-items : goal.invariant-items
invariant-items l = options_of l.items ≡ options_after l.options l.rest

abbrev pub decreases-items : goal.decreases-items
decreases-items l = length l.rest
