use Rattle.std.proofs.Common.{◌≡◌, ◌∙◌, Bool, true, false, not, refl, sym}
use Rattle.std.proofs.lemmas.Slice.Eq.{bytes_eq-Decides}
use Rattle.cs_state.specs.FileKinds.{kept_of}
use Rattle.cs_state.specs.StampedNames.{name_of, stamp_text}
use Rattle.cs_known.proofs.name_match.kind_in.Goals as goal

unless_not : (b : Bool) → not b ≡ false → b ≡ true
unless_not true e = refl
unless_not false e = sym e

pub returns : goal.returns
returns c =
    let parts = c.in_ok-parts.parts in
    let path : parts.path.now ≡ c.args.path.now =
    (bytes_eq-Decides parts.path.now c.args.path.now).0 (unless_not _ (sym c.ne.ensures ∙ c.if-ne.false)) in
    let text : parts.text.now ≡ stamp_text c.args.stamp.now = c.if-not-is_stamp_text.ensures.0 refl in (
      c.if-not-takes_name.ensures.0 refl,
      c.has_numbers.ensures,
      c.in_ok-parts.ensures.some ∙ (λ i. name_of (path i) (text i) (kept_of parts.kind)),
    )
