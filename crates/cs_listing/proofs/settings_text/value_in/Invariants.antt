use Rattle.std.proofs.Common.{◌≡◌, ◌≤◌, ◌++◌, false, [], length, map}
use Rattle.cs_listing.specs.Settings.{value_from, no_value}
use Rattle.cs_listing.specs.SettingReads.{value_of}
use Rattle.cs_listing.proofs.settings_text.value_in.Given as goal

abbrev pub invariant-bytes : goal.invariant-bytes
invariant-bytes l = record {
  same : value_from (value_of l.value) l.rest ≡ value_from no_value l.text;
  shorter : length l.rest ≤ length l.text;
}

abbrev pub decreases-bytes : goal.decreases-bytes
decreases-bytes l = length l.rest
