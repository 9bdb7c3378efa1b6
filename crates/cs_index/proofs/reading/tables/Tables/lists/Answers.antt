use Rattle.std.proofs.Common.{◌∙◌, ap, sym, length}
use Rattle.cs_index.specs.Tables.{TableParts}
use Rattle.cs_index.proofs.decoding.EntryTables.{length-in}
use Rattle.cs_index.proofs.reading.tables.Tables.lists.Goals as goal

pub returns : goal.returns
returns c = sym (length-in c.self.inside.list_index.now) ∙ ap (λ (t : TableParts). length t.entries) c.self.view_is
