use Rattle.std.proofs.Common.{length}
use Rattle.cs_listing.specs.Walk.{KeepsReports}
use Rattle.cs_listing.proofs.ReportLemmas.{AreBehind}
use Rattle.cs_listing.proofs.walk.next_unread.Given as goal

-- those that were taken so far had been reported
abbrev pub invariant-unread : goal.invariant-unread
invariant-unread l = record {
  behind : AreBehind l.fn.reported l.fn.unread.items l.unread.items;
  kept : KeepsReports l.fn.reported l.reported;
}

abbrev pub decreases-unread : goal.decreases-unread
decreases-unread l = length l.unread.items
