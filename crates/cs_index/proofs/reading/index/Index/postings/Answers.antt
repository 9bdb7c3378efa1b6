use Rattle.std.proofs.Common.{◌∙◌, ap, Some}
use Rattle.std.specs.Prelude.{option_map}
use Rattle.cs_index.specs.OpenedParts.{Parts, ids_read}
use Rattle.cs_index.specs.Postings.{entry_of}
use Rattle.cs_index.proofs.reading.index.Index.postings.Goals as goal

pub returns : goal.returns
returns c =
    ap Some c.list_of.ensures
    ∙ ap (option_map (ids_read c.args.self.now))
    (c.in_ok-entry.ensures ∙ ap (λ (p : Parts). entry_of p.entries c.args.trigram) c.self.view_is)
