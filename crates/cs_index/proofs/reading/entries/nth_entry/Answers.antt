use Rattle.std.proofs.Common.{◌∙◌, ap, sym, Some}
use Rattle.cs_index.proofs.decoding.EntryTables.{get-in, none-in}
use Rattle.cs_index.proofs.reading.entries.nth_entry.Goals as goal

pub returns-then-position-list_index : goal.returns-then-position-list_index
returns-then-position-list_index c = sym (none-in c.args.list_index.now c.args.position c.if-position-list_index.true)

pub returns : goal.returns
returns c = ap Some c.entry_in.ensures ∙ sym (get-in c.args.list_index.now c.args.position c.if-position-list_index.false)
