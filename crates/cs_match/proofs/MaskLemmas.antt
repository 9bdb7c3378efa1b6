-- Masks are filled position by position.
use Rattle.std.proofs.Common.{◌≡◌, ℕ, ◌+◌, ◌<◌, ◌≤◌, Bool, false, List, [], ◌∷◌, ◌++◌, length, map, get_or, sym, ◌∙◌, ap, subst, inl, inr, arith, ext_get_or}
use Rattle.std.specs.Prelude.{Option, Some, None}
use Rattle.std.proofs.Math.Seq.{get_or-append_seam}
use Rattle.std.proofs.lemmas.Bool.{cases_lt}
use Rattle.std.proofs.lemmas.List.{length-map, get_or_append_left}
use Rattle.cs_syntax.specs.Matching.{Tree}
use Rattle.cs_match.specs.declared.position.Input.{Input}
use Rattle.cs_match.specs.declared.position.Mask.{Mask}
use Rattle.cs_match.specs.declared.position.Position.{Position}
use Rattle.cs_match.specs.Glushkov.{position_count}
use Rattle.cs_match.specs.Entered.{position_list}
use Rattle.cs_match.specs.Masks.{IsMask}
use Rattle.cs_match.proofs.EnteredLemmas.{length-position_list}

pub all_put : (f : Position → Bool) (ps : List Position) (new : List Bool) (n : ℕ) → length new ≡ length ps → length ps ≤ n →
    ((k : ℕ) → k < n → get_or new k false ≡ get_or (map f ps) k false) → new ≡ map f ps
all_put f ps new n size all each = ext_get_or false new (map f ps) (size ∙ sym (length-map ps f))
    (λ k h. each k (omega (arith, h, size, all)))

input_or : Input → Option Input → Input
input_or other None = other
input_or other (Some b) = b

pub some_same : (a b : Input) → Some a ≡ Some b → a ≡ b
unfolding input_or
some_same a b e = ap (input_or a) e

-- the mask of an input that was found
pub found : (ps : List Position) (b : Input) (slots : List Mask) (at : ℕ) (mask : Mask) → mask ≡ get_or slots at mask →
    ((other : Mask) → IsMask ps b (get_or slots at other)) → IsMask ps b mask
found ps b slots at mask e h = subst (IsMask ps b) (sym e) (h mask)

-- it has a bit for each position
pub length-mask : (t : Tree) (f : Position → Bool) (flags : List Bool) → flags ≡ map f (position_list t) → length flags ≡ position_count t
length-mask t f flags e = ap length e ∙ length-map (position_list t) f ∙ length-position_list t

-- one more mask is pushed
pub pushed_mask : (P : Mask → Type 0) (old : List Mask) (mask : Mask) (n : ℕ) → length old ≡ n →
    ((k : ℕ) (other : Mask) → k < n → P (get_or old k other)) → P mask →
    (k : ℕ) (other : Mask) → k < n + 1 → P (get_or (old ++ mask ∷ []) k other)
pushed_mask P old mask n size before last k other h = elim (cases_lt k n) [
  | inl lt ↦ subst P (sym (get_or_append_left old (mask ∷ []) other k (omega (arith, size)))) (before k other lt)
  | inr ge ↦
      let same : k ≡ length old = omega (arith, size) in
      subst P (sym (ap (λ (i : ℕ). get_or (old ++ mask ∷ []) i other) same ∙ get_or-append_seam old mask [] other)) last
]
