use Rattle.std.proofs.Common.{◌≡◌, ◌-◌, take, refl, arith, ap, sym, ◌∙◌}
use Rattle.std.proofs.lemmas.List.{take_all}
use Rattle.cs_listing.specs.Layers.{rule_bytes}
use Rattle.cs_listing.specs.Models.{folder_of, folders_of}
use Rattle.cs_listing.specs.RuleFileReads.{most_rule_bytes}
use Rattle.cs_listing.proofs.LayerLemmas.{rule_bytes_more, folders_more}
use Rattle.cs_listing.proofs.layers.room_after.Goals as goal

pub folders-preserved : goal.folders-preserved
folders-preserved c =
    let before = folders_of (take c.folders.folder-index c.args.folders.now) in
    record {
      left = omega (
        arith,
        c.saturating_sub-room.ensures,
        c.folders.invariant.left,
        ap rule_bytes (folders_more c.args.folders.now c.folders.folder-index c.folder-item.result (omega arith) c.folder-item.is),
        rule_bytes_more before (folder_of c.folder-item.result),
      );
    }

pub returns : goal.returns
returns c =
    c.folders.invariant.left
    ∙ ap (λ fs. most_rule_bytes - rule_bytes (folders_of fs)) (take_all c.folders.folder-index c.args.folders.now (omega arith))
