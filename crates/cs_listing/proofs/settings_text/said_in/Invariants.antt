use Rattle.std.proofs.Common.{◌≡◌, ◌≤◌, ◌++◌, false, [], length, map}
use Rattle.cs_listing.specs.Settings.{said_of_text}
use Rattle.cs_listing.specs.SettingReads.{directive_read}
use Rattle.cs_listing.proofs.SettingLemmas.{Reads}
use Rattle.cs_listing.proofs.settings_text.said_in.Given as goal

abbrev pub invariant-pieces : goal.invariant-pieces
invariant-pieces l = Reads (said_of_text l.initial.rest) (map directive_read l.directives.items) l.section.items l.rest

abbrev pub decreases-pieces : goal.decreases-pieces
decreases-pieces l = length l.rest
