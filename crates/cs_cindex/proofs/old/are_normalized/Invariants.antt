use Rattle.std.proofs.Common.{◌≡◌}
use Rattle.cs_cindex.proofs.Common.{list_all, is_normalized}
use Rattle.cs_cindex.proofs.old.are_normalized.Given as goal

-- the paths so far are normalized
abbrev pub invariant-paths : goal.invariant-paths
invariant-paths l = list_all is_normalized l.path-iterator ≡ list_all is_normalized l.fn.paths
