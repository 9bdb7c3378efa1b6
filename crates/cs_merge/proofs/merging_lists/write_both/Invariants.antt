use Rattle.std.proofs.Common.{◌≡◌, ◌≤◌, drop, length, Some}
use Rattle.cs_merge.proofs.Common.{IsMergedList}
use Rattle.cs_merge.proofs.merging_lists.write_both.Given as goal

abbrev pub invariant-ids : goal.invariant-ids
invariant-ids l = record {
  within : l.at ≤ length l.older;
  given : IsMergedList l.trigram l.fn.sections l.sections l.older l.newer (drop l.at l.older) (drop l.id-index l.newer);
  begun : l.sections.last_trigram ≡ Some l.trigram;
}
