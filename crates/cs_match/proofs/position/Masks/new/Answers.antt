use Rattle.std.proofs.Common.{◌≡◌, ℕ, ◌+◌, ◌<◌, ◌∷◌, [], List, false, length, get_or, refl, sym, ap, subst, ◌∙◌, arith, length-append}
use Rattle.std.specs.Prelude.{None}
use Rattle.std.proofs.lemmas.List.{length-replicate}
use Rattle.cs_match.specs.Masks.{HasRoom}
use Rattle.cs_match.specs.declared.position.Mask.{Mask}
use Rattle.cs_match.proofs.MaskLemmas.{pushed_mask}
use Rattle.cs_match.proofs.position.Masks.new.Goals as goal

pub loop-slot-preserved : goal.loop-slot-preserved
loop-slot-preserved c =
    let old = c.loop-slot.slots.items in
    let count = length c.positions-positions.result.now in
    let mask : Mask = record {
      input = None;
      entered = c.in_ok-none.field-0;
      previous = c.in_ok-none-2.field-0;
      kept = c.in_ok-none-3.field-0;
    } in
    let room : HasRoom count mask = record {
      entered = ap length c.in_ok-none.ensures ∙ length-replicate count false;
      previous = ap length c.in_ok-none-2.ensures ∙ length-replicate count false;
      kept = ap length c.in_ok-none-3.ensures ∙ length-replicate count false;
    } in
    let n = c.loop-slot.slot in
    let i = c.loop-slot.invariant in
    let is = c.in_ok-push.ensures.items in
    record {
      all = omega (arith, ap length is, length-append old (mask ∷ []), i.all);
      room = subst (λ (ms : List Mask). (k : ℕ) (other : Mask) → k < n + 1 → HasRoom count (get_or ms k other)) (sym is)
          (pushed_mask (HasRoom count) old mask n i.all i.room room);
      none = subst (λ (ms : List Mask). (k : ℕ) (other : Mask) → k < n + 1 → (get_or ms k other).input ≡ None) (sym is)
          (pushed_mask (λ m. m.input ≡ None) old mask n i.all i.none refl);
    }
