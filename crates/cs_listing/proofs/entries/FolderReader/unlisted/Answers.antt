use Rattle.std.proofs.Common.{[], map, ap}
use Rattle.std.specs.Prelude.{string_bytes}
use Rattle.cs_listing.proofs.FolderLemmas.{all_there}
use Rattle.cs_listing.proofs.entries.FolderReader.unlisted.Goals as goal

pub returns-clause-rules : goal.returns-clause-rules
returns-clause-rules g c =
    all_there (g.T.Tree.snapshot c.args.tree.now) (g.T.Tree.snapshot c.add_if_there.new.tree) (g.T.Tree.snapshot c.add_if_there-2.new.tree)
    c.args.stem.now (map string_bytes c.new-there.result.items) (map string_bytes c.add_if_there.new.there.items)
    (map string_bytes c.add_if_there-2.new.there.items) (map string_bytes c.add_if_there-3.new.there.items)
    c.in_ok-add_if_there.ensures.keeps c.in_ok-add_if_there-2.ensures.keeps (ap (map string_bytes) c.new-there.ensures.items)
    c.in_ok-add_if_there.ensures.added c.in_ok-add_if_there-2.ensures.added c.in_ok-add_if_there-3.ensures.added
