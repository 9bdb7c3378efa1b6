use Rattle.std.proofs.Common.{◌≤◌, ◌-◌, length}
use Rattle.cs_tree.specs.Transfers.{Consumes}
use Rattle.cs_listing.proofs.whole_files.read_up_to.Given as goal

-- the bytes so far are those that were read
abbrev pub invariant-file : goal.invariant-file
invariant-file g l = record {
  consumed : Consumes (g.S.Source.model l.fn.source) (g.S.Source.model l.source) l.bytes.items;
  within : length l.bytes.items ≤ l.limit;
  kept : g.S.Source.Keeps l.fn.source l.source;
}

abbrev pub decreases-file : goal.decreases-file
decreases-file g l = l.limit - length l.bytes.items
