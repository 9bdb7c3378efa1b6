use Rattle.std.proofs.Common.{◌≡◌, ◌≤◌, ◌-◌, length, drop}
use Rattle.cs_listing.specs.Classes.{class_items}
use Rattle.cs_listing.specs.Reading.{HasNoName}
use Rattle.cs_listing.proofs.ClassLemmas.{after_items}
use Rattle.cs_listing.proofs.classes.class_items.Given as goal

-- the ranges so far, and the items of the rest
abbrev pub invariant-items : goal.invariant-items
invariant-items l = record {
  same : class_items l.text ≡ after_items l.ranges.items l.at (class_items (drop l.at l.text));
  within : l.at ≤ length l.text;
  plain : HasNoName l.text l.at l.plain;
}

abbrev pub decreases-items : goal.decreases-items
decreases-items l = length l.text - l.at
