use Rattle.std.proofs.Common.{◌∙◌, ap, Some, slice_get}
use Rattle.std.specs.Prelude.{option_map}
use Rattle.cs_index.specs.Encoding.{ListEntry}
use Rattle.cs_index.specs.OpenedParts.{Parts, ids_read}
use Rattle.cs_index.proofs.reading.index.Index.list_at.Goals as goal

pub returns : goal.returns
returns c =
    ap (λ r. Some (c.in_ok-entry.entry.trigram, r)) c.list_of.ensures
    ∙ ap (option_map (λ (e : ListEntry). (e.trigram, ids_read c.args.self.now e)))
    (c.in_ok-entry.ensures.entry ∙ ap (λ (p : Parts). slice_get p.entries c.args.position) c.self.view_is)
