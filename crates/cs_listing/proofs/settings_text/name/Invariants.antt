use Rattle.std.proofs.Common.{◌≡◌, ◌≤◌, ◌++◌, false, [], length, map}
use Rattle.cs_listing.specs.Settings.{name_from}
use Rattle.cs_listing.proofs.settings_text.name.Given as goal

abbrev pub invariant-bytes : goal.invariant-bytes
invariant-bytes l = record {
  same : name_from l.dots l.bytes.items l.rest ≡ name_from l.dots l.fn.begun.items l.text;
  shorter : length l.rest ≤ length l.text;
}

abbrev pub decreases-bytes : goal.decreases-bytes
decreases-bytes l = length l.rest
