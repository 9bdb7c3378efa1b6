use Rattle.std.proofs.Common.{sym, ◌∙◌}
use Rattle.cs_fakes.proofs.MemItemLemmas.{get_found, get_missing}
use Rattle.cs_fakes.proofs.mem_items.find_item.Goals as goal

pub returns-in-Some : goal.returns-in-Some
returns-in-Some c = get_found c.args.items.now c.args.path.now c.in-Some.at c.index-items-at.result
    (sym c.find_entry.ensures ∙ c.in-Some.is)

pub returns-in-None : goal.returns-in-None
returns-in-None c = get_missing c.args.items.now c.args.path.now (sym c.find_entry.ensures ∙ c.in-None.is)
