use Rattle.std.proofs.Common.{◌+◌, ◌-◌, ◌≤◌}
use Rattle.std.specs.Prelude.{vec_capacity, vec_len}
use Rattle.cs_index.specs.ListDecoding.{AreMappedBytes}
use Rattle.cs_index.proofs.reading.postings.map_bytes.Given as goal

abbrev pub invariant-ids : goal.invariant-ids
invariant-ids l = record {
  mapped : AreMappedBytes l.decoder l.bytes l.new_ids l.count l.next l.initial.out.items l.out.items;
  bound : l.count ≤ l.most;
  room : vec_len l.out + (l.most - l.count) ≤ vec_capacity l.out;
}

abbrev pub decreases-ids : goal.decreases-ids
decreases-ids l = l.most - l.count
