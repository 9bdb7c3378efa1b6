use Rattle.std.proofs.Common.{length, sym, ap, subst, arith}
use Rattle.cs_merge.proofs.Common.{length_push, AreRunEnds, IsRun}
use Rattle.cs_merge.proofs.IdRunLemmas.{ends_push, run_rest}
use Rattle.cs_merge.proofs.id_map.IdRuns.new.Goals as goal
use Rattle.cs_merge.proofs.id_map.IdRuns.new.Goals.{then-id-end, else-id-end}

pub ids-preserved : goal.ids-preserved
ids-preserved c =
    let ids = c.args.new_ids.now in
    let now : IsRun ids c.ids.id c.if-id-end.end = elim c.if-id-end.branch [
      | then-id-end w ↦ subst (IsRun ids c.ids.id) (sym w.end-is) w.end_from-end.ensures
      | else-id-end w ↦ subst (IsRun ids c.ids.id) (sym w.end-is) c.ids.invariant.together
    ] in
    let long = length_push c.ids.ends.items c.if-id-end.end in
    let all = ap length c.in_ok-push.ensures.items in
    record {
      long = omega (arith, long, all, c.ids.invariant.long);
      are = subst (AreRunEnds ids) (sym c.in_ok-push.ensures.items)
          (ends_push ids c.ids.ends.items c.ids.id c.if-id-end.end c.ids.invariant.long c.ids.invariant.are now);
      together = run_rest ids c.ids.id c.if-id-end.end now;
    }
