use Rattle.std.proofs.Common.{◌≡◌, Some, length}
use Rattle.cs_merge.proofs.Common.{IsMergedList}
use Rattle.cs_merge.proofs.merging_lists.merge_ascending.Given as goal

abbrev pub invariant-ids : goal.invariant-ids
invariant-ids l = record {
  given : IsMergedList l.trigram l.fn.sections l.sections l.fn.lists.older.ids l.fn.lists.newer.ids l.older.ids l.newer.ids;
  begun : l.sections.last_trigram ≡ Some l.trigram;
  older_whole : l.older.whole ≡ l.fn.lists.older.whole;
  newer_whole : l.newer.whole ≡ l.fn.lists.newer.whole;
}

abbrev pub decreases-ids : goal.decreases-ids
decreases-ids l = length l.newer.ids
