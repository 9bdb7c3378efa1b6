use Rattle.std.proofs.Common.{◌≡◌, ◌-◌, take}
use Rattle.cs_listing.specs.Layers.{rule_bytes}
use Rattle.cs_listing.specs.Models.{folders_of}
use Rattle.cs_listing.specs.RuleFileReads.{most_rule_bytes}
use Rattle.cs_listing.proofs.layers.room_after.Given as goal

-- what the folders so far leave
abbrev pub invariant-folders : goal.invariant-folders
invariant-folders l = record {
  left : l.room ≡ most_rule_bytes - rule_bytes (folders_of (take l.folder-index l.folders));
}
