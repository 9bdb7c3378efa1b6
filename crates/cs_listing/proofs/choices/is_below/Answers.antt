use Rattle.std.proofs.Common.{arith, sym, ◌∙◌}
use Rattle.cs_listing.proofs.ChoiceLemmas.{name_follows, name_differs, path_ends}
use Rattle.cs_listing.proofs.choices.is_below.Goals as goal
use Rattle.cs_listing.proofs.choices.is_below.Goals.{then-at-path-via-then-at-path, then-at-path-via-else-at-path+then-ne}

pub returns-then-at-path : goal.returns-then-at-path
returns-then-at-path c =
    sym (c.loop-at.invariant
    ∙ elim c.then-at-path.branch [
      | then-at-path-via-then-at-path w ↦ path_ends c.args.folder.now c.args.path.now c.loop-at.at (omega arith) (omega arith)
      | then-at-path-via-else-at-path+then-ne w ↦ name_differs c.args.folder.now c.args.path.now c.loop-at.at w.index-folder-at.result _ _
          (omega arith) (omega arith) w.index-folder-at.is w.as_bytes.ensures.value (sym w.ne.ensures ∙ w.if-ne.true)
    ])

pub loop-at-preserved : goal.loop-at-preserved
loop-at-preserved c =
    c.loop-at.invariant
    ∙ name_follows c.args.folder.now c.args.path.now c.loop-at.at c.index-folder-at.result _ _ (omega arith) (omega arith)
    c.index-folder-at.is c.as_bytes.ensures.value (sym c.ne.ensures ∙ c.if-ne.false)
