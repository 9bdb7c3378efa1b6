use Rattle.std.proofs.Common.{◌≡◌, take, map, reverse, is_some}
use Rattle.std.specs.Prelude.{string_bytes}
use Rattle.cs_listing.specs.FolderReads.{InTree, folder_path}
use Rattle.cs_listing.specs.Unreadable.{unread_rules_to, is_unlisted}
use Rattle.cs_listing.specs.ReportsAll.{paths_noted}
use Rattle.cs_listing.specs.Walk.{settings_in, HasReportedNone}
use Rattle.cs_listing.proofs.BeginLemmas.{HasEntered}
use Rattle.cs_listing.proofs.walk.Walk.begin.Given as goal

-- the folders so far are entered
abbrev pub invariant-start : goal.invariant-start
invariant-start g l = record {
  entered : HasEntered (g.T.Tree.snapshot l.fn.tree) (map string_bytes (take l.name-index l.start)) l.walk (string_bytes l.stem)
      (map string_bytes l.listed.names.items);
  settings : settings_in l.walk ≡ settings_in l.initial.walk;
  reported : HasReportedNone l.walk;
  noted : InTree (g.T.Tree.snapshot l.fn.tree) (λ items. paths_noted l.walk.reader
      ≡ unread_rules_to (settings_in l.walk).takes_ignored items (reverse (map string_bytes (take l.name-index l.start))));
  whole : InTree (g.T.Tree.snapshot l.fn.tree) (λ items. is_some l.listed.fault ≡ is_unlisted (items (folder_path (string_bytes l.stem))));
  kept : g.T.Tree.snapshot l.tree ≡ g.T.Tree.snapshot l.fn.tree;
}
