use Rattle.std.proofs.Common.{sym, ◌∙◌}
use Rattle.cs_fakes.proofs.PathLemmas.{after_other}
use Rattle.cs_fakes.proofs.mem_items.after_folder.Goals as goal

pub returns : goal.returns
returns c = after_other c.args.path.now c.args.folder.now c.strip_prefix.result c.as_bytes-3.ensures.value
    c.as_bytes-2.ensures.value (sym c.eq.ensures ∙ c.if-eq.false) c.strip_prefix.ensures.cases
