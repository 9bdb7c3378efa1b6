use Rattle.cs_update.proofs.FoundLemmas.{opened_seen}
use Rattle.cs_update.proofs.reading.open_seen.Goals as goal

pub returns-in-Ok-clause-opened : goal.returns-in-Ok-clause-opened
returns-in-Ok-clause-opened g c =
    opened_seen (g.T.Tree.snapshot c.args.tree.now) g.T.Look.stamps c.args.path.now c.args.stamp.now c.in-Ok.now
    (g.T.Tree.opened c.open_file.new.self) c.is_same.result c.if-stamp-eq0.false c.is_same.ensures c.in-Ok.ensures.answer c.in-Ok.ensures.stamp
