use Rattle.std.proofs.Common.{◌≡◌, arith, subst, ◌∙◌}
use Rattle.std.specs.Prelude.{option_map}
use Rattle.cs_listing.specs.FolderReads.{InTree, key_taken, out_by}
use Rattle.cs_listing.specs.Entries.{entry_key}
use Rattle.cs_listing.specs.Unreadable.{unseen_entry}
use Rattle.cs_listing.specs.ReportsAll.{Notes}
use Rattle.cs_listing.proofs.FolderLemmas.{more_read, all_read}
use Rattle.cs_listing.proofs.UnreadLemmas.{more_noted, all_noted}
use Rattle.cs_listing.proofs.StampLemmas.{more_stamped, members_stamped}
use Rattle.cs_listing.proofs.entries.FolderReader.entries.Goals as goal

pub names-preserved : goal.names-preserved
names-preserved g c = record {
  path = c.in_ok-entry.ensures.path;
  keys = more_read (g.T.Tree.snapshot c.args.tree.now) (g.T.Tree.snapshot c.names.tree) c.args.place.now.layers.now
      c.args.place.now.stem.now c.args.names.now c.names.name-index c.name-item.result c.names.entries.items
      c.push_if_some.new.entries.items c.in_ok-entry.entry c.names.invariant.kept (omega arith) c.name-item.is
      c.in_ok-push_if_some.ensures c.names.invariant.keys
      (subst (λ name. InTree (g.T.Tree.snapshot c.names.tree) (λ items. option_map entry_key c.in_ok-entry.entry
      ≡ key_taken c.args.place.now.layers.now items c.args.place.now.stem.now name)) c.as_str.ensures.value c.in_ok-entry.ensures.key);
  noted = more_noted (g.T.Tree.snapshot c.args.tree.now) (g.T.Tree.snapshot c.names.tree) c.args.self.now c.names.self c.entry.new.self
      (out_by c.args.place.now.layers.now) c.args.place.now.stem.now c.args.names.now c.names.name-index c.name-item.result
      c.names.invariant.kept (omega arith) c.name-item.is c.names.invariant.noted
      (subst (λ name. Notes (g.T.Tree.snapshot c.names.tree) c.names.self c.entry.new.self (λ items.
      unseen_entry (out_by c.args.place.now.layers.now) items c.args.place.now.stem.now name)) c.as_str.ensures.value
      c.in_ok-entry.ensures.unread);
  stamps = more_stamped (g.T.Tree.snapshot c.args.tree.now) (g.T.Tree.snapshot c.names.tree) g.T.Look.stamps c.args.place.now.stem.now
      c.names.entries.items c.push_if_some.new.entries.items c.in_ok-entry.entry c.names.invariant.kept c.in_ok-push_if_some.ensures
      c.names.invariant.stamps c.in_ok-entry.ensures.stamp;
  kept = c.in_ok-entry.ensures.keeps ∙ c.names.invariant.kept;
}

pub returns-clause-taken : goal.returns-clause-taken
returns-clause-taken g c =
    all_read (g.T.Tree.snapshot c.args.tree.now) c.args.place.now.layers.now c.args.place.now.stem.now c.args.names.now
    c.names.name-index c.names.entries.items c.order_entries.new.entries.items (omega arith) c.names.invariant.keys
    c.order_entries.ensures.same

pub returns-clause-unread : goal.returns-clause-unread
returns-clause-unread g c =
    all_noted (g.T.Tree.snapshot c.args.tree.now) c.args.self.now c.names.self (out_by c.args.place.now.layers.now)
    c.args.place.now.stem.now c.args.names.now c.names.name-index (omega arith) c.names.invariant.noted

pub returns-clause-stamps : goal.returns-clause-stamps
returns-clause-stamps g c =
    members_stamped (g.T.Tree.snapshot c.args.tree.now) g.T.Look.stamps c.args.place.now.stem.now c.names.entries.items
    c.order_entries.new.entries.items c.order_entries.ensures.members c.names.invariant.stamps
