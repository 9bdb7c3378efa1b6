use Rattle.std.proofs.Common.{◌<◌, ◌≤◌, ◌-◌, length}
use Rattle.cs_merge.proofs.Common.{IsRun}
use Rattle.cs_merge.proofs.id_map.end_from.Given as goal

abbrev pub invariant-ids : goal.invariant-ids
invariant-ids l = record {
  some : l.id < l.end;
  within : l.end ≤ length l.new_ids;
  together : IsRun l.new_ids l.id l.end;
}

abbrev pub decreases-ids : goal.decreases-ids
decreases-ids l = length l.new_ids - l.end
