use Rattle.std.proofs.Common.{◌≡◌, ◌≤◌, ◌++◌, false, [], length, map}
use Rattle.cs_listing.specs.Settings.{without_blanks}
use Rattle.cs_listing.proofs.settings_text.without_blanks.Given as goal

abbrev pub invariant-blanks : goal.invariant-blanks
invariant-blanks l = record {
  same : without_blanks l.returns l.rest ≡ without_blanks l.returns l.text;
  shorter : length l.rest ≤ length l.text;
}

abbrev pub decreases-blanks : goal.decreases-blanks
decreases-blanks l = length l.rest
