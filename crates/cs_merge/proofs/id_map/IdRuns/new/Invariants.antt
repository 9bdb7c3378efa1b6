use Rattle.std.proofs.Common.{◌≡◌, length}
use Rattle.cs_merge.proofs.Common.{AreRunEnds, IsRun}
use Rattle.cs_merge.proofs.id_map.IdRuns.new.Given as goal

abbrev pub invariant-ids : goal.invariant-ids
invariant-ids l = record {
  long : length l.ends.items ≡ l.id;
  are : AreRunEnds l.new_ids l.ends.items;
  together : IsRun l.new_ids l.id l.end;
}
