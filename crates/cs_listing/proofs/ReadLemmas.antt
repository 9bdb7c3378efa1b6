-- Reads one after another.
use Rattle.std.proofs.Common.{◌≡◌, refl, ℕ, ◌≤◌, ◌<◌, ◌-◌, List, [], ◌++◌, length, subst, sym, ap, ◌∙◌, arith, append_assoc}
use Rattle.std.specs.Prelude.{Option, Some, None, IfSome}
use Rattle.std.proofs.lemmas.List.{append-nil, length-append}
use Rattle.cs_tree.specs.StreamModels.{SourceModel, ends}
use Rattle.cs_tree.specs.Transfers.{Consumes, IsAt}

pub consumes_none : (model : Option SourceModel) → Consumes model model []
consumes_none None = tt
consumes_none (Some was) = (refl, refl)

consumes_more : (first second third : Option SourceModel) (read more : List ℕ) → Consumes first second read →
    Consumes second third more → Consumes first third (read ++ more)
consumes_more None second third read more f s = tt
consumes_more (Some a) None third read more f s = elim f [ ]
consumes_more (Some a) (Some b) None read more f s = elim s [ ]
consumes_more (Some a) (Some b) (Some c) read more f s =
    (f.0 ∙ ap (λ bytes. read ++ bytes) s.0 ∙ sym (append_assoc read more c.bytes), f.1 ∙ s.1)

-- one more read, whose bytes are added
pub read_more : (first second third : Option SourceModel) (read more after : List ℕ) → after ≡ read ++ more → Consumes first second read →
    Consumes second third more → Consumes first third after
read_more first second third read more after e f s =
    subst (λ bytes. Consumes first third bytes) (sym e) (consumes_more first second third read more f s)

pub stays_within : (read more after : List ℕ) (limit : ℕ) → after ≡ read ++ more → length more ≤ limit - length read →
    length read ≤ limit → length after ≤ limit
stays_within read more after limit e few within = omega (arith, few, within, ap length e, length-append read more)

-- a read of nothing at the end
pub whole_read : (first mid later : Option SourceModel) (read more : List ℕ) (limit : ℕ) → Consumes first mid read →
    Consumes mid later more → more ≡ [] → IsAt ends later → length read ≤ limit →
    IfSome first (λ source. (source.ending ≡ ends) × (read ≡ source.bytes) × (length source.bytes ≤ limit))
whole_read None mid later read more limit f s none at within = tt
whole_read (Some a) None later read more limit f s none at within = elim f [ ]
whole_read (Some a) (Some b) None read more limit f s none at within = elim s [ ]
whole_read (Some a) (Some b) (Some c) read more limit f s none at within =
    let same = f.0 ∙ ap (λ bytes. read ++ bytes) (s.0 ∙ ap (λ bytes. bytes ++ c.bytes) none ∙ at.0) ∙ append-nil read in
    (f.1 ∙ s.1 ∙ at.1, sym same, omega (arith, ap length same, within))

-- a read of more than is left of the limit
pub too_long : (first mid later : Option SourceModel) (read more : List ℕ) (limit : ℕ) → Consumes first mid read →
    Consumes mid later more → length read ≤ limit → limit - length read < length more →
    IfSome first (λ source. limit < length source.bytes)
too_long None mid later read more limit f s within over = tt
too_long (Some a) None later read more limit f s within over = elim f [ ]
too_long (Some a) (Some b) None read more limit f s within over = elim s [ ]
too_long (Some a) (Some b) (Some c) read more limit f s within over =
    omega (arith, within, over, ap length f.0, ap length s.0, length-append read b.bytes, length-append more c.bytes)
