use Rattle.std.proofs.Common.{[], ◌∷◌, ap, ◌∙◌}
use Rattle.std.proofs.lemmas.List.{map-append}
use Rattle.cs_listing.specs.Models.{folder_of, folders_of}
use Rattle.cs_listing.proofs.layers.Layers.enter.Goals as goal

pub returns-clause-entered : goal.returns-clause-entered
returns-clause-entered c =
    ap folders_of c.in_ok-push.ensures.items ∙ map-append folder_of c.args.self.now.folders.items (c.args.folder ∷ [])
