use mir.Val.{to_z, of_z}
use Rattle.std.proofs.Common.{◌≡◌, ℤ, Some, false, true, sym, subst, w32}
use Rattle.std.proofs.lemmas.Int.{to_z-of_z}
use Rattle.codesearch_c.specs.declared.slot.Held.{Held}
use Rattle.codesearch_c.specs.declared.slot.Held.TheVariants.{Builder}
use Rattle.codesearch_c.specs.Slots.{OnBuilder}
use Rattle.codesearch_c.specs.Patterns.{IsMisuse}
use Rattle.codesearch_c.specs.Building.{IsAddition}
use Rattle.codesearch_c.proofs.indexing.add_to.Goals as goal

pub returns-in-Builder : goal.returns-in-Builder
returns-in-Builder c =
    let name = c.args.name.now in
    let text = c.args.text.now in
    let new : Held = Builder c.add_code.new.held in
    let code = c.add_code.result in
    let shown = to_z-of_z w32 code (record { sfits = c.add_code.type_inv }) in
    let added = subst (λ (n : ℤ). IsAddition name text c.in-Builder.builder.builder c.add_code.new.held.builder n)
    (sym shown) c.add_code.ensures in
    subst (λ (held : Held). OnBuilder (Some held) (IsMisuse (Some held) (Some new) (to_z w32 (of_z w32 code)))
    (λ old. OnBuilder (Some new) (false ≡ true) (λ built. IsAddition name text old built (to_z w32 (of_z w32 code)))))
    (sym c.in-Builder.is) added
