use Rattle.std.proofs.Common.{◌∙◌, ◌++◌, List, ℕ, IsOk, refl, sym, ap, subst}
use Rattle.cs_merge.proofs.Common.{IsMerged, refused}
use Rattle.cs_merge.specs.MergeResult.{IsMergeAnswer, most_bytes}
use Rattle.cs_merge.proofs.ListLoopLemmas.{if_ok}
use Rattle.cs_merge.proofs.merging.merge.Goals as goal

pub of-tables-requires : goal.of-tables-requires
of-tables-requires c = record { opened = subst IsOk (sym c.bytes-bytes.ensures) refl }

pub returns-in-Ok-Ok : goal.returns-in-Ok-Ok
returns-in-Ok-Ok c =
    let merged = subst (IsMergeAnswer c.args.old.now c.args.newer.now most_bytes) c.in-Ok-Ok.field-0-is
    (c.in-Ok-Ok.ensures.merged c.bytes-bytes.result.now c.new-store.ensures.model c.args.old.now
    (c.of-tables.ensures c.args.old.now c.bytes-bytes.ensures)) in
    let given = if_ok _ c.in-Ok-Ok.field-0-is c.in-Ok-Ok.ensures.given in
    subst (IsMerged c.args.old.now c.args.newer.now most_bytes)
    (sym (given ∙ ap (λ (bs : List ℕ). bs ++ c.in-Ok-Ok._sent.bytes) c.new-index.ensures.items)) merged

pub returns-in-Ok-Err : goal.returns-in-Ok-Err
returns-in-Ok-Err c =
    subst (IsMergeAnswer c.args.old.now c.args.newer.now most_bytes) c.in-Ok-Err.field-0-is
    (c.in-Ok-Err.ensures.merged c.bytes-bytes.result.now c.new-store.ensures.model c.args.old.now
    (c.of-tables.ensures c.args.old.now c.bytes-bytes.ensures))

pub returns-in-Err : goal.returns-in-Err
returns-in-Err c = refused refl (λ order. c.in-Err.ensures.tested c.bytes-bytes.result.now c.new-store.ensures.model c.args.old.now
    (c.of-tables.ensures c.args.old.now c.bytes-bytes.ensures))
