use Rattle.std.proofs.Common.{◌∙◌, sym, subst, refl, arith, Bool, Result, IfErr}
use Rattle.cs_merge.proofs.Common.{Parts, AreRead, IsMergingLists, IsStored, IsListsFault, MergeFault}
use Rattle.cs_index.proofs.writer.SentOn.{sent_more}
use Rattle.cs_merge.proofs.ListLoopLemmas.{all_merged, if_ok, merged_on, on_ok}
use Rattle.cs_merge.proofs.RestLemmas.{rest_says}
use Rattle.cs_merge.proofs.merging_trigrams.merge_lists.Goals as goal

pub returns-in_err-send_next-clause-keeps_out : goal.returns-in_err-send_next-clause-keeps_out
returns-in_err-send_next-clause-keeps_out g c =
    g.met.O.Output.keeps_trans _ _ _ c.lists.invariant.keeps_out c.send_next.ensures.keeps_out

pub returns-in-Ok-false-clause-merged : goal.returns-in-Ok-false-clause-merged
returns-in-Ok-false-clause-merged g c old is =
    let sides = c.args.sides.now in
    let source = sides.older.now in
    let newer : Parts = sides.newer.now in
    let at = c.send_next.new.progress in
    let so_far = on_ok c.in-Ok-false.is c.in_ok-send_next.ensures.so_far in
    let ends = if_ok _ c.in-Ok-false.is c.in_ok-send_next.ensures.all c.in-Ok-false.field-0-test in
    all_merged (g.S.Store.model c.lists.store) source newer sides.runs.older sides.runs.newer at.reader c.lists.sections
    c.send_next.new.sections at.older at.newer so_far ends old
    (subst (λ model. IsStored model source old) (sym c.lists.invariant.keeps) is)

pub returns-in-Ok-false-clause-given : goal.returns-in-Ok-false-clause-given
returns-in-Ok-false-clause-given g c =
    sent_more _ _ _ _ _ _ c.lists.invariant.sent (on_ok c.in-Ok-false.is c.in_ok-send_next.ensures.given)

pub returns-in-Ok-false-clause-early : goal.returns-in-Ok-false-clause-early
returns-in-Ok-false-clause-early g c = on_ok c.in-Ok-false.is c.in_ok-send_next.ensures.early

pub returns-in-Ok-false-clause-keeps_out : goal.returns-in-Ok-false-clause-keeps_out
returns-in-Ok-false-clause-keeps_out g c =
    g.met.O.Output.keeps_trans _ _ _ c.lists.invariant.keeps_out c.send_next.ensures.keeps_out

pub returns-in-Err-clause-merged : goal.returns-in-Err-clause-merged
returns-in-Err-clause-merged g c old is =
    let sides = c.args.sides.now in
    let source = sides.older.now in
    subst (λ (r : Result Bool MergeFault). IfErr r (IsListsFault old sides.newer.now sides.runs.older sides.runs.newer
    c.args.sections.now c.args.most)) c.in-Err.is
    (c.in_ok-send_next.ensures.fault old (subst (λ model. IsStored model source old) (sym c.lists.invariant.keeps) is)
    c.args.sections.now c.args.most)

pub returns-in-Err-clause-keeps_out : goal.returns-in-Err-clause-keeps_out
returns-in-Err-clause-keeps_out g c =
    g.met.O.Output.keeps_trans _ _ _ c.lists.invariant.keeps_out c.send_next.ensures.keeps_out

pub returns-clause-merged : goal.returns-clause-merged
returns-clause-merged g c old is =
    let sides = c.args.sides.now in
    let source = sides.older.now in
    let newer : Parts = sides.newer.now in
    let before = c.args.sections.now in
    let at = c.lists.progress in
    let merging = c.lists.invariant.merging in
    let said = rest_says old newer sides.runs.older sides.runs.newer before
    (c.are_valid.ensures.parts (g.S.Store.model c.args.store.now) old is) c.are_valid-2.ensures c.requires.ids
    c.args.most c.lists.sections at.older at.newer (merging.known old is) c.list_bytes.ensures.written
    (let over = c.lists-test.false in let long = c.list_bytes.ensures.bytes in omega (arith, over, long)) in
    let rest = c.in_ok-fault.ensures.fault (subst (λ model. AreRead model at.reader) (sym c.lists.invariant.keeps)
    merging.read_so_far) old (subst (λ model. IsStored model source old) (sym c.lists.invariant.keeps) is) in
    subst (IsListsFault old newer sides.runs.older sides.runs.newer before c.args.most) (sym rest) said

pub lists-preserved : goal.lists-preserved
lists-preserved g c =
    let sides = c.args.sides.now in
    let source = sides.older.now in
    let newer : Parts = sides.newer.now in
    let at = c.lists.progress in
    let next = c.send_next.new.progress in
    let model = g.S.Store.model c.args.store.now in
    let before = c.args.sections.now in
    let inv = c.lists.invariant in
    record {
      merging = merged_on model source newer sides.runs.older sides.runs.newer at.reader next.reader before
          c.lists.sections c.send_next.new.sections c.send_next.new.sections at.older at.newer next.older next.newer
          inv.merging
          (subst (λ m. IsMergingLists m source next.reader newer sides.runs.older sides.runs.newer c.lists.sections
          c.send_next.new.sections next.older next.newer) inv.keeps
          (on_ok c.in-Ok-true.is c.in_ok-send_next.ensures.so_far))
          refl;
      sent = sent_more before.sent c.lists.sections.sent c.send_next.new.sections.sent
          (g.O.Output.given c.args.out.now) (g.O.Output.given c.lists.out) (g.O.Output.given c.send_next.new.out)
          inv.sent (on_ok c.in-Ok-true.is c.in_ok-send_next.ensures.given);
      early = on_ok c.in-Ok-true.is c.in_ok-send_next.ensures.early;
      keeps_out = g.met.O.Output.keeps_trans _ _ _ inv.keeps_out c.in_ok-send_next.ensures.keeps_out;
      keeps = c.in_ok-send_next.ensures.store.0 ∙ inv.keeps;
      size = c.in_ok-send_next.ensures.store.1 ∙ inv.size;
      failed = c.in_ok-send_next.ensures.store.2 ∙ inv.failed;
    }
