use Rattle.std.proofs.Common.{◌≡◌, take, map, reverse}
use Rattle.std.specs.Prelude.{option_map, string_bytes}
use Rattle.cs_tree.specs.Clean.{with_slashes}
use Rattle.cs_listing.specs.FolderReads.{InTree}
use Rattle.cs_listing.specs.Entries.{repository_found}
use Rattle.cs_listing.specs.GitFolders.{repository_above}
use Rattle.cs_listing.proofs.git_folders.nearest_repository.Given as goal

-- the nearest repository so far is found
abbrev pub invariant-below : goal.invariant-below
invariant-below g l = record {
  nearest : InTree (g.T.Tree.snapshot l.fn.tree) (λ items. option_map repository_found l.nearest
      ≡ repository_above items (reverse (map string_bytes (take l.name-index l.names))));
  stem : string_bytes l.stem ≡ with_slashes (reverse (map string_bytes (take l.name-index l.names)));
  kept : g.T.Tree.snapshot l.tree ≡ g.T.Tree.snapshot l.fn.tree;
}
