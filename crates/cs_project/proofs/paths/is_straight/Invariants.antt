use Rattle.std.proofs.Common.{◌≡◌, ◌∷◌, [], true, map, length}
use Rattle.std.specs.Prelude.{string_bytes}
use Rattle.std.specs.Path.{slash}
use Rattle.cs_tree.specs.Cover.{is_absolute}
use Rattle.cs_listing.specs.FolderReads.{InTree}
use Rattle.cs_project.specs.Scopes.{is_straight}
use Rattle.cs_project.proofs.paths.is_straight.Given as goal

-- the first names may be joined as text
abbrev pub invariant-names : goal.invariant-names
invariant-names g l = record {
  kept : g.T.Tree.snapshot l.tree ≡ g.T.Tree.snapshot l.fn.tree;
  absolute : is_absolute (string_bytes l.path) ≡ true;
  straight : InTree (g.T.Tree.snapshot l.fn.tree) (λ items.
      is_straight items (slash ∷ []) (map string_bytes l.names) ≡ is_straight items (string_bytes l.path) (map string_bytes l.rest));
}

abbrev pub decreases-names : goal.decreases-names
decreases-names g l = length l.rest
