use Rattle.std.proofs.Common.{◌∙◌, ap}
use Rattle.cs_index.specs.Opening.{rises}
use Rattle.cs_index.specs.Postings.{entry_of}
use Rattle.cs_index.specs.Tables.{TableParts}
use Rattle.cs_index.proofs.reading.tables.Tables.find.Goals as goal

pub entry_with-requires : goal.entry_with-requires
entry_with-requires c = ap (λ (t : TableParts). rises t.entries) c.self.view_is ∙ c.are_valid.ensures.tables.rise

pub returns : goal.returns
returns c = c.entry_with.ensures ∙ ap (λ (t : TableParts). entry_of t.entries c.args.trigram) c.self.view_is
