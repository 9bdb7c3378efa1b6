use Rattle.std.proofs.Common.{◌≡◌}
use Rattle.cs_merge.proofs.Common.{list_any, covers}
use Rattle.cs_merge.specs.SomePaths.{AreAmong}
use Rattle.cs_merge.proofs.replacing.first_cover.Given as goal

abbrev pub invariant-paths : goal.invariant-paths
invariant-paths l = record {
  among : AreAmong l.rest l.initial.rest;
  left : list_any (λ path. covers path l.name) l.rest ≡ list_any (λ path. covers path l.name) l.initial.rest;
}
