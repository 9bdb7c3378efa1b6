use Rattle.std.proofs.Common.{arith}
use Rattle.cs_listing.specs.Models.{folder_name}
use Rattle.cs_listing.proofs.PathNameLemmas.{name_lent}
use Rattle.cs_listing.proofs.layers.Layers.names.Goals as goal

pub folders-preserved : goal.folders-preserved
folders-preserved c =
    name_lent folder_name _ _ _ _ c.folder-item.result _ (omega arith) c.folder-item.is c.as_bytes.ensures.value
    c.in_ok-push.ensures.items c.folders.invariant
