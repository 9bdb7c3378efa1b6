use Rattle.std.proofs.Common.{◌+◌, ◌-◌, length}
use Rattle.cs_merge.proofs.Common.{is_covered, sorted_names, IsMergingNames}
use Rattle.cs_tree.specs.PathSet as set
use Rattle.cs_merge.proofs.merging_names.merge_names.Given as goal

abbrev pub invariant-names : goal.invariant-names
invariant-names l = IsMergingNames (is_covered (set.from_list l.cover)) l.old l.newer l.fn.sections l.sections l.ranks.older l.ranks.newer

abbrev pub decreases-names : goal.decreases-names
decreases-names l = length (sorted_names l.old) + length (sorted_names l.newer) - (length l.ranks.older + length l.ranks.newer)
