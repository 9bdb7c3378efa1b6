use Rattle.cs_listing.proofs.FolderLemmas.{exclude_is}
use Rattle.cs_listing.proofs.UnreadLemmas.{exclude_noted}
use Rattle.cs_listing.proofs.entries.FolderReader.exclude.Goals as goal

pub returns-clause-bytes : goal.returns-clause-bytes
returns-clause-bytes g c =
    exclude_is (g.T.Tree.snapshot c.args.tree.now) c.args.repository c.in-Some.folders c.as_str.result.now c.args.room
    c.in_ok-bytes.bytes.items c.in-Some.is c.as_str.ensures.value c.in_ok-bytes.ensures.bytes

pub returns-clause-unread : goal.returns-clause-unread
returns-clause-unread g c =
    exclude_noted (g.T.Tree.snapshot c.args.tree.now) c.args.self.now c.bytes_linked.new.self c.args.repository c.in-Some.folders
    c.as_str.result.now c.args.room c.in-Some.is c.as_str.ensures.value c.in_ok-bytes.ensures.unread
