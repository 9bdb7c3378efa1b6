use Rattle.std.proofs.Common.{◌∙◌, ◌%◌, sym, length}
use Rattle.std.proofs.lemmas.Bool.{ne_eqb}
use Rattle.cs_index.proofs.stored.EntryPieces.{list_index_uneven, tested_is}
use Rattle.cs_index.proofs.reading.entries.has_entries.Goals as goal

pub returns-then-list_index-eq0 : goal.returns-then-list_index-eq0
returns-then-list_index-eq0 c =
    c.is_some.ensures ∙ tested_is c.args.room c.args.list_index.now c.test_entries.result c.if-list_index-eq0.true
    c.test_entries.ensures.some c.test_entries.ensures.none

pub returns-else-list_index-eq0 : goal.returns-else-list_index-eq0
returns-else-list_index-eq0 c =
    ne_eqb (length c.args.list_index.now % 11) 0 c.if-list_index-eq0.false
    ∙ sym (list_index_uneven c.args.room c.args.list_index.now c.if-list_index-eq0.false)
