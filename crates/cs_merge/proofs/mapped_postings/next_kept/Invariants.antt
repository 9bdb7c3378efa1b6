use Rattle.std.proofs.Common.{◌≡◌}
use Rattle.cs_merge.proofs.Common.{new_ids_of}
use Rattle.cs_merge.proofs.mapped_postings.next_kept.Given as goal

abbrev pub invariant-ids : goal.invariant-ids
invariant-ids l = record {
  left : new_ids_of l.runs l.ids.ids ≡ new_ids_of l.runs l.initial.ids.ids;
  whole : l.ids.whole ≡ l.initial.ids.whole;
}
