use Rattle.std.proofs.Common.{◌≡◌, ◌+◌, ◌-◌, length, arith}
use Rattle.std.specs.Prelude.{option_map}
use Rattle.cs_listing.specs.SettingReads.{bytes_if}
use Rattle.cs_listing.specs.Entries.{names_for_rules, repository_folders}
use Rattle.cs_listing.proofs.FolderLemmas.{texts_read}
use Rattle.cs_listing.proofs.UnreadLemmas.{texts_noted}
use Rattle.cs_listing.proofs.entries.FolderReader.texts.Goals as goal

pub returns-clause-texts : goal.returns-clause-texts
returns-clause-texts g c =
    texts_read (g.T.Tree.snapshot c.args.tree.now) (g.T.Tree.snapshot c.bytes_among.new.tree) (g.T.Tree.snapshot c.bytes_among-2.new.tree)
    c.args.stem.now (names_for_rules c.args.listed.now) (option_map repository_folders c.args.repository) c.args.room _ _
    c.in_ok-ignore.ignore.items c.in_ok-gitignore.gitignore.items (bytes_if c.in_ok-exclude.exclude)
    c.in_ok-ignore.ensures.keeps c.in_ok-gitignore.ensures.keeps (omega arith) (omega arith)
    c.in_ok-ignore.ensures.bytes c.in_ok-gitignore.ensures.bytes c.in_ok-exclude.ensures.bytes

pub returns-clause-unread : goal.returns-clause-unread
returns-clause-unread g c =
    texts_noted (g.T.Tree.snapshot c.args.tree.now) (g.T.Tree.snapshot c.bytes_among.new.tree) (g.T.Tree.snapshot c.bytes_among-2.new.tree)
    c.args.self.now c.bytes_among.new.self c.bytes_among-2.new.self c.exclude.new.self c.args.stem.now
    (names_for_rules c.args.listed.now) (option_map repository_folders c.args.repository) c.args.room _ _
    c.in_ok-ignore.ignore.items c.in_ok-gitignore.gitignore.items
    c.in_ok-ignore.ensures.keeps c.in_ok-gitignore.ensures.keeps (omega arith) (omega arith)
    c.in_ok-ignore.ensures.bytes c.in_ok-gitignore.ensures.bytes
    c.in_ok-ignore.ensures.unread c.in_ok-gitignore.ensures.unread c.in_ok-exclude.ensures.unread
