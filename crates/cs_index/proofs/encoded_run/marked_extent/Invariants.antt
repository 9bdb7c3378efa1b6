use Rattle.std.proofs.Common.{◌-◌, take}
use Rattle.cs_index.specs.IdStream.{ids_in, IsMarked}
use Rattle.cs_index.specs.Prefixes.{IsPrefix}
use Rattle.cs_index.proofs.encoded_run.marked_extent.Given as goal

abbrev pub invariant-ids : goal.invariant-ids
invariant-ids l = record {
  prefix : IsPrefix l.bytes l.limit l.room (record { len = l.len; count = l.count; next = l.next });
  marks : IsMarked l.at (ids_in (take l.len l.bytes) l.count) l.fn.row l.row;
}

abbrev pub decreases-ids : goal.decreases-ids
decreases-ids l = l.limit - l.count
