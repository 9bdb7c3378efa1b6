use Rattle.std.proofs.Common.{◌≡◌, ◌+◌, ◌++◌, ◌∷◌, ◌-◌, ℕ, List, [], drop, get_or, length, refl, take, sym, ap, subst, ◌∙◌, append_assoc, arith}
use Rattle.std.proofs.lemmas.List.{append-nil, drop_more, take_at}
use Rattle.std.specs.Prelude.{flat_map}
use Rattle.cs_index.specs.AscendingIds.{AscendWithin, max_ids, next_after}
use Rattle.cs_index.specs.Encoding.{deltas_from, varint}
use Rattle.cs_index.proofs.writing.strings.push_deltas.Goals as goal

pub overflow_add-end : goal.overflow_add-end
overflow_add-end c =
    let here = subst (AscendWithin max_ids c.ids.next) (drop_more c.args.ids.now c.ids.id-index 0 c.ids-test.true)
    c.ids.invariant.rise in
    omega (arith, here.1)

pub overflow_sub-delta : goal.overflow_sub-delta
overflow_sub-delta c =
    let here = subst (AscendWithin max_ids c.ids.next) (drop_more c.args.ids.now c.ids.id-index 0 c.ids-test.true)
    c.ids.invariant.rise in
    omega (arith, here.0)

pub ids-preserved : goal.ids-preserved
ids-preserved c =
    let ids : List ℕ = c.args.ids.now in
    let at : ℕ = c.ids.id-index in
    let id : ℕ = get_or ids at 0 in
    let is : drop at ids ≡ id ∷ drop (at + 1) ids = drop_more ids at 0 c.ids-test.true in
    let here = subst (AscendWithin max_ids c.ids.next) is c.ids.invariant.rise in
    record {
      bytes =
          ap (λ bytes. bytes ++ flat_map varint (deltas_from (id + 1) (drop (at + 1) ids))) c.in-Ok.ensures.ok
          ∙ append_assoc c.ids.out.items (varint (id + 1 - c.ids.next)) (flat_map varint (deltas_from (id + 1) (drop (at + 1) ids)))
          ∙ ap (λ more. c.ids.out.items ++ flat_map varint (deltas_from c.ids.next more)) (sym is)
          ∙ c.ids.invariant.bytes;
      rise = here.2;
      kept = (
        c.ids.invariant.kept.0 ++ varint (id + 1 - c.ids.next),
        c.in-Ok.ensures.ok ∙ ap (λ bytes. bytes ++ varint (id + 1 - c.ids.next)) c.ids.invariant.kept.1
            ∙ append_assoc c.args.out.now.items c.ids.invariant.kept.0 (varint (id + 1 - c.ids.next)),
      );
      end = ap (next_after c.ids.next) (sym is) ∙ c.ids.invariant.end;
    }

pub ids-init : goal.ids-init
ids-init c = record { bytes = refl; rise = c.requires; kept = ([], sym (append-nil c.args.out.now.items)); end = refl }

pub returns-in-Err-clause-err : goal.returns-in-Err-clause-err
returns-in-Err-clause-err c =
    let all : length c.args.out.now.items ≡ c.len-len.result = omega (arith, c.len-len.ensures, c.args.out.now.ok.0) in
    c.truncate.ensures.items
    ∙ ap (take c.len-len.result) (c.in-Err.ensures.err ∙ c.ids.invariant.kept.1)
    ∙ take_at c.args.out.now.items c.ids.invariant.kept.0 c.len-len.result all
