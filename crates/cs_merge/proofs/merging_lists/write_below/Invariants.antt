use Rattle.std.proofs.Common.{◌≡◌, ◌≢◌, None, length}
use Rattle.cs_merge.proofs.Common.{last_ids, next_after, AscendWithin, IsWrittenBelow}
use Rattle.cs_merge.proofs.merging_lists.write_below.Given as goal

abbrev pub invariant-ids : goal.invariant-ids
invariant-ids l = record {
  written : IsWrittenBelow l.limit l.fn.sections l.sections l.fn.list.ids l.list.ids;
  begun : l.sections.last_trigram ≢ None;
  rise : AscendWithin (length l.sections.names) (next_after 0 (last_ids l.sections)) l.list.ids;
  whole : l.list.whole ≡ l.fn.list.whole;
}

abbrev pub decreases-ids : goal.decreases-ids
decreases-ids l = length l.list.ids
