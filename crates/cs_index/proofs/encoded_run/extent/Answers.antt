use Rattle.cs_index.proofs.postings.Prefixes.{longer, no_prefix}
use Rattle.cs_index.proofs.encoded_run.extent.Goals as goal

pub ids-init : goal.ids-init
ids-init c = no_prefix c.args.bytes.now c.args.limit c.args.room

pub ids-preserved : goal.ids-preserved
ids-preserved c =
    longer c.args.bytes.now c.args.limit c.args.room c.ids.len c.ids.count c.ids.next c.part-more.result c.requires
    c.ids.invariant c.part-more.ensures
