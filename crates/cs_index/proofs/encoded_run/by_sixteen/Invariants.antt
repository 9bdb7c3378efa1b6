use Rattle.std.proofs.Common.{◌-◌, length}
use Rattle.cs_index.specs.Prefixes.{IsPrefix}
use Rattle.cs_index.proofs.encoded_run.by_sixteen.Given as goal

abbrev pub invariant-ids : goal.invariant-ids
invariant-ids l = IsPrefix l.bytes l.limit l.room (record { len = l.len; count = l.count; next = l.next })

abbrev pub decreases-ids : goal.decreases-ids
decreases-ids l = length l.bytes - l.len
