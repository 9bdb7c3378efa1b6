use Rattle.std.proofs.Common.{◌≡◌, ◌++◌, length}
use Rattle.cs_index.specs.MappedIds.{new_ids_of}
use Rattle.cs_index.proofs.reading.postings.Postings.map_into.Given as goal

abbrev pub invariant-ids : goal.invariant-ids
invariant-ids l = record {
  all : l.out.items ++ new_ids_of l.new_ids l.rest.ids ≡ l.initial.out.items ++ new_ids_of l.new_ids l.initial.rest.ids;
  whole : l.rest.whole ≡ l.initial.rest.whole;
}

abbrev pub decreases-ids : goal.decreases-ids
decreases-ids l = length l.rest.ids
