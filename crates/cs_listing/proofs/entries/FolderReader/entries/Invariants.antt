use Rattle.std.proofs.Common.{◌≡◌, take, map}
use Rattle.std.specs.Prelude.{string_bytes}
use Rattle.cs_listing.specs.Models.{names, names_in}
use Rattle.cs_listing.specs.FolderReads.{InTree, keys_taken, out_by}
use Rattle.cs_listing.specs.Entries.{entry_key}
use Rattle.cs_listing.specs.Unreadable.{unseen_entries}
use Rattle.cs_listing.specs.ReportsAll.{Notes}
use Rattle.cs_listing.specs.Stamps.{InStamps, IsStamped}
use Rattle.std.specs.List.{All}
use Rattle.cs_listing.proofs.entries.FolderReader.entries.Given as goal

-- the entries so far are those that are taken of the names so far
abbrev pub invariant-names : goal.invariant-names
invariant-names g l = record {
  path : names l.path.items ≡ names_in l.place.layers.now;
  keys : InTree (g.T.Tree.snapshot l.initial.tree) (λ items. map entry_key l.entries.items
      ≡ keys_taken l.place.layers.now items l.place.stem.now (map string_bytes (take l.name-index l.names)));
  noted : Notes (g.T.Tree.snapshot l.initial.tree) l.initial.self l.self (λ items.
      unseen_entries (out_by l.place.layers.now) items l.place.stem.now (map string_bytes (take l.name-index l.names)));
  stamps : InStamps (g.T.Tree.snapshot l.initial.tree) g.T.Look.stamps (λ stamps. All (IsStamped stamps l.place.stem.now) l.entries.items);
  kept : g.T.Tree.snapshot l.tree ≡ g.T.Tree.snapshot l.initial.tree;
}
