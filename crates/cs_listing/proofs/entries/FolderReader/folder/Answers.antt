use Rattle.std.specs.Prelude.{option_map}
use Rattle.cs_listing.specs.Entries.{names_for_rules, repository_folders}
use Rattle.cs_listing.specs.ReportsAll.{Notes}
use Rattle.cs_listing.specs.Unreadable.{unread_rules}
use Rattle.cs_listing.proofs.StepLemmas.{on_ok_always}
use Rattle.cs_listing.proofs.UnreadLemmas.{folder_noted}
use Rattle.cs_listing.proofs.entries.FolderReader.folder.Goals as goal

pub returns-clause-unread : goal.returns-clause-unread
returns-clause-unread g c =
    on_ok_always (Notes (g.T.Tree.snapshot c.args.tree.now) c.args.self.now c.texts.new.self
    (λ items. unread_rules c.args.room items c.args.stem.now (names_for_rules c.args.listed.now))) c.parse.result
    (folder_noted (g.T.Tree.snapshot c.args.tree.now) (g.T.Tree.snapshot c.root.new.tree) c.args.self.now c.root.new.self
    c.texts.new.self c.args.stem.now (names_for_rules c.args.listed.now) c.args.room c.in-Some.room c.in_ok-repository.repository
    c.in-Some.is c.in_ok-repository.ensures.keeps c.in_ok-repository.ensures.root c.in_ok-repository.ensures.unread
    c.in_ok-texts.ensures.unread)
