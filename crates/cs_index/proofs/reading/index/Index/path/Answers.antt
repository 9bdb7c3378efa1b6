use Rattle.std.proofs.Common.{◌∙◌, ap, slice_get}
use Rattle.cs_index.proofs.decoding.NameOffsets.{text_given}
use Rattle.cs_index.proofs.reading.index.Index.path.Goals as goal

pub returns : goal.returns
returns c = text_given c.paths.result c.nth.new.self c.args.position c.nth.result c.nth.ensures.ran
    ∙ ap (λ texts. slice_get texts c.args.position) c.paths.ensures
