use Rattle.std.proofs.Common.{◌≡◌, ◌∷◌, [], IfSome}
use Rattle.cs_merge.proofs.Common.{list_all, is_covered, paths_in}
use Rattle.cs_merge.specs.SomePaths.{AreAmong}
use Rattle.cs_merge.proofs.replacing.is_under.Given as goal

abbrev pub invariant-names : goal.invariant-names
invariant-names l = record {
  left : list_all (λ name. is_covered (paths_in l.index) name) l.name-iterator
      ≡ list_all (λ name. is_covered (paths_in l.index) name) l.index.names;
  rest : AreAmong l.rest l.index.paths;
  last : IfSome l.last (λ path. AreAmong (path.now ∷ []) l.index.paths);
}
