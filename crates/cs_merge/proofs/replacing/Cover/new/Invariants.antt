use Rattle.std.proofs.Common.{◌≡◌, ◌++◌}
use Rattle.cs_merge.proofs.Common.{texts}
use Rattle.cs_merge.proofs.replacing.Cover.new.Given as goal

abbrev pub invariant-paths : goal.invariant-paths
invariant-paths l = texts l.paths.items ++ l.path-iterator ≡ l.fn.texts
