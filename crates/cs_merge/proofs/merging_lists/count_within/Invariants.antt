use Rattle.std.proofs.Common.{take}
use Rattle.std.specs.List.{AllByRecursion}
use Rattle.cs_merge.proofs.Common.{IsBelow}
use Rattle.cs_merge.proofs.merging_lists.count_within.Given as goal

abbrev pub invariant-ids : goal.invariant-ids
invariant-ids l = AllByRecursion (IsBelow l.limit) (take l.at l.ids)
