use Rattle.std.proofs.Common.{rules, ◌≡◌, ◌++◌, refl, map, subst, ap, ◌∙◌}
use Rattle.std.specs.Prelude.{string_bytes}
use Rattle.cs_listing.specs.FolderReads.{InTree, keys_taken, out_by}
use Rattle.cs_listing.specs.Entries.{AreKeysOf, entry_keys}
use Rattle.cs_listing.specs.Unreadable.{unseen_entries}
use Rattle.cs_listing.specs.ReportsAll.{paths_noted, unlisted_path, Notes}
use Rattle.cs_listing.proofs.UnreadLemmas.{notes_after}
use Rattle.cs_listing.specs.Stamps.{InStamps, IsStamped}
use Rattle.cs_listing.proofs.StampLemmas.{opens_stamped}
use Rattle.std.specs.List.{All}
use Rattle.cs_listing.proofs.walk.Walk.open.Goals as goal

pub returns-clause-opens : goal.returns-clause-opens
returns-clause-opens g c = (
  record { stem = c.args.stem; entries = c.in_ok-entries.entries },
  c.in_ok-push.ensures.items,
  refl,
  c.in_ok-entries.ensures.ascend,
  subst (λ names. InTree (g.T.Tree.snapshot c.args.tree.now) (λ items. AreKeysOf (entry_keys c.in_ok-entries.entries.items)
      (keys_taken c.args.self.now.layers items (string_bytes c.args.stem) (map string_bytes names)))) c.deref.ensures.value
      (subst (λ stem. InTree (g.T.Tree.snapshot c.args.tree.now) (λ items. AreKeysOf (entry_keys c.in_ok-entries.entries.items)
      (keys_taken c.args.self.now.layers items stem (map string_bytes c.deref.result.now)))) c.as_str-text.ensures.value
      c.in_ok-entries.ensures.taken),
)

pub returns-clause-unread : goal.returns-clause-unread
returns-clause-unread g c =
    let s = g.T.Tree.snapshot c.args.tree.now in
    let out = out_by c.args.self.now.layers in
    let listed = c.args.listed.now in
    let noted : paths_noted c.note_listed.new.self ≡ paths_noted c.args.self.now.reader ++ unlisted_path c.as_str-text.result.now listed =
    search rules in
    notes_after s c.args.self.now.reader c.note_listed.new.self c.entries.new.self (unlisted_path (string_bytes c.args.stem) listed)
    (λ items. unseen_entries out items (string_bytes c.args.stem) (map string_bytes listed.names.items))
    (noted ∙ ap (λ stem. paths_noted c.args.self.now.reader ++ unlisted_path stem listed) c.as_str-text.ensures.value)
    (subst (λ names. Notes s c.note_listed.new.self c.entries.new.self (λ items.
    unseen_entries out items (string_bytes c.args.stem) (map string_bytes names))) c.deref.ensures.value
    (subst (λ stem. Notes s c.note_listed.new.self c.entries.new.self (λ items.
    unseen_entries out items stem (map string_bytes c.deref.result.now))) c.as_str-text.ensures.value c.in_ok-entries.ensures.unread))

pub returns-clause-stamps : goal.returns-clause-stamps
returns-clause-stamps g c =
    opens_stamped (g.T.Tree.snapshot c.args.tree.now) g.T.Look.stamps c.args.self.now
    (record c.args.self.now { reader = c.entries.new.self; frames = c.push.new.self })
    (record { stem = c.args.stem; entries = c.in_ok-entries.entries }) c.in_ok-push.ensures.items
    (subst (λ stem. InStamps (g.T.Tree.snapshot c.args.tree.now) g.T.Look.stamps
    (λ stamps. All (IsStamped stamps stem) c.in_ok-entries.entries.items)) c.as_str-text.ensures.value c.in_ok-entries.ensures.stamps)
