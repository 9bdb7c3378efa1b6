use Rattle.std.proofs.Common.{◌≡◌, ◌<◌, ◌∙◌, inl, inr, length, List, set, get_or, sym, ap, subst, arith, length-set, get_or-set_same, get_or-set_other}
use Rattle.std.proofs.lemmas.Bool.{cases_eq}
use Rattle.std.specs.Prelude.{Some}
use Rattle.cs_match.specs.declared.position.Input.{Input}
use Rattle.cs_match.specs.declared.position.Mask.{Mask}
use Rattle.cs_match.specs.declared.position.Position.{Position}
use Rattle.cs_match.specs.Entered.{position_list}
use Rattle.cs_match.specs.Masks.{HasRoom, IsMask}
use Rattle.cs_match.proofs.MaskLemmas.{some_same}
use Rattle.cs_match.proofs.position.Masks.find.Goals as goal

pub returns-then-ne-clause-masks : goal.returns-then-ne-clause-masks
returns-then-ne-clause-masks c =
    let ps = position_list c.args.program.now in
    let old = c.args.self.now.slots.items in
    let at = c.min-slot.result in
    let new = c.fill.new.self in
    let size = length-set old at new in
    let within : at < length old = omega (arith, c.min-slot.ensures, c.requires.some, c.len.ensures) in
    record {
      some = omega (arith, size, c.requires.some);
      room = λ k other h. elim (cases_eq k at) [
        | inl same ↦
            subst (λ (m : Mask). HasRoom (length ps) m)
            (sym (ap (λ i. get_or (set old at new) i other) same ∙ get_or-set_same old at new other within))
            (subst (λ (l : List Position). HasRoom (length l) new) c.positions.ensures.list c.fill.ensures.room)
        | inr else ↦ subst (λ (m : Mask). HasRoom (length ps) m) (sym (get_or-set_other old at k new other else))
            (c.requires.room k other (omega (arith, h, size)))
      ];
      known = λ k other input h is. elim (cases_eq k at) [
        | inl same ↦
            let own = ap (λ i. get_or (set old at new) i other) same ∙ get_or-set_same old at new other within in
            subst (λ (m : Mask). IsMask ps input m) (sym own)
            (subst (λ (b : Input). IsMask ps b new)
            (some_same c.args.input input (sym c.fill.ensures.input ∙ ap (λ (m : Mask). m.input) (sym own) ∙ is))
            (subst (λ (l : List Position). IsMask l c.args.input new) c.positions.ensures.list c.fill.ensures.mask))
        | inr else ↦
            subst (λ (m : Mask). IsMask ps input m) (sym (get_or-set_other old at k new other else))
            (c.requires.known k other input (omega (arith, h, size)) (subst (λ (m : Mask). m.input ≡ Some input) (get_or-set_other old at k new other else) is))
      ];
    }

pub returns-then-ne-clause-mask : goal.returns-then-ne-clause-mask
returns-then-ne-clause-mask c = λ other.
    let old = c.args.self.now.slots.items in
    let at = c.min-slot.result in
    subst (λ (m : Mask). IsMask (position_list c.args.program.now) c.args.input m)
    (sym (get_or-set_same old at c.fill.new.self other (omega (arith, c.min-slot.ensures, c.requires.some, c.len.ensures))))
    (subst (λ (l : List Position). IsMask l c.args.input c.fill.new.self) c.positions.ensures.list c.fill.ensures.mask)
