use Rattle.std.proofs.Common.{◌≡◌, length}
use Rattle.cs_merge.proofs.Common.{AreScattered}
use Rattle.cs_merge.proofs.id_map.IdMap.scatter.Given as goal

abbrev pub invariant-loop-position : goal.invariant-loop-position
invariant-loop-position l = record {
  long : length l.new_ids.items ≡ length l.self;
  put : AreScattered l.ids l.self l.position l.new_ids.items;
}
