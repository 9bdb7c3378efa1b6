use Rattle.std.proofs.Common.{◌||◌, ap, ◌∙◌}
use Rattle.cs_update.proofs.SourceLemmas.{first_bytes}
use Rattle.cs_update.proofs.types.Watched.watch.Goals as goal

pub returns-clause-seen : goal.returns-clause-seen
returns-clause-seen g c =
    let was = c.args.self.now in
    ap (λ found. was.has_nul || found)
    (c.is_binary.ensures ∙ first_bytes was.left c.min-len.result c.args.bytes.now was.within c.min-len.ensures)
