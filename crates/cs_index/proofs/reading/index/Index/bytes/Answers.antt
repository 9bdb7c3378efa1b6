use Rattle.std.proofs.Common.{◌∙◌, ap, Ok}
use Rattle.cs_index.proofs.stored.TableSections.{tables_open}
use Rattle.cs_index.proofs.reading.index.Index.bytes.Goals as goal

pub returns : goal.returns
returns c = tables_open c.self.inside.bytes.now c.self.inside.tables _ c.self.invariant ∙ ap Ok c.self.view_is
