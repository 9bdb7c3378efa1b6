use Rattle.std.proofs.Common.{◌∙◌, ap, sym}
use Rattle.cs_index.specs.Encoding.{names_of}
use Rattle.cs_index.specs.BuilderInvariant.{bucket_lists}
use Rattle.cs_index.specs.Built.{Built, is_above}
use Rattle.cs_index.proofs.writer.BuilderAdd.{names_entries}
use Rattle.cs_index.proofs.writing.builder.Builder.names_are_below.Goals as goal

pub returns : goal.returns
returns c =
    c.is_below.ensures
    ∙ ap (λ names. is_above names c.args.name.now) (sym (names_entries 0 c.self.inside.names (bucket_lists c.self.inside))
    ∙ ap (λ (b : Built). names_of b.entries) c.self.view_is)
