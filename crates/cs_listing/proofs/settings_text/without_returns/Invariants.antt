use Rattle.std.proofs.Common.{◌≡◌, ◌≤◌, ◌++◌, false, [], length, map}
use Rattle.cs_listing.specs.Settings.{without_returns}
use Rattle.cs_listing.proofs.settings_text.without_returns.Given as goal

abbrev pub invariant-bytes : goal.invariant-bytes
invariant-bytes l = l.plain.items ++ without_returns l.rest ≡ without_returns l.text

abbrev pub decreases-bytes : goal.decreases-bytes
decreases-bytes l = length l.rest
