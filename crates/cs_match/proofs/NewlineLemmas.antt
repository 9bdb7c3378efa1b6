-- The bytes before the result of a search for a newline.
use Rattle.std.proofs.Common.{◌≡◌, ℕ, suc, ◌+◌, ◌-◌, ◌<◌, ◌≤◌, true, nat_eq, List, ◌∷◌, length, take, drop, get_or, sym, ap, subst, ◌∙◌, arith, length-take, length-drop, get_or-take, drop-cons, add_assoc, add-one}
use Rattle.std.proofs.lemmas.List.{take_rest, drop-drop, get_or-drop}
use Rattle.std.proofs.lemmas.Bool.{eqb-true}
use Rattle.memchr.specs.Find.{Nowhere, NoneBefore, NoneAfter, Passes, is_byte}
use Rattle.cs_match.specs.Lines.{newline}
use Rattle.cs_match.specs.NoNewline.{HasNoNewline}
use Rattle.cs_match.proofs.LinesLemmas.{HasNoNewline-searched}

pub part_nowhere : (hay : List ℕ) → Nowhere (Passes (is_byte 10) hay) 0 (length hay) → HasNoNewline hay
part_nowhere hay h = HasNoNewline-searched hay (λ k low e. h k (omega arith) low e)

pub next_none : (block : List ℕ) (from : ℕ) →
    Nowhere (Passes (is_byte 10) (take (length block - from) (drop from block))) 0
    (length (take (length block - from) (drop from block))) → HasNoNewline (drop from block)
next_none block from h = subst HasNoNewline (take_rest block from) (part_nowhere _ h)

module _ (hay : List ℕ) (at : ℕ) (low : at < length hay) (before : Nowhere (Passes (is_byte 10) hay) 0 at) where
  pub part_before : HasNoNewline (take at hay)
  part_before =
      HasNoNewline-searched (take at hay) (λ k within e.
      let low-k : k < at = omega (arith, length-take at hay) in
      before k (omega arith) low-k (subst (λ b. nat_eq b 10 ≡ true) (get_or-take at hay k 0 low-k) e))

  pub here : Passes (is_byte 10) hay at → drop at hay ≡ newline ∷ drop (at + 1) hay
  here e = drop-cons hay at 0 low ∙ ap (λ b. b ∷ drop (suc at) hay) (eqb-true (get_or hay at 0) 10 e)
      ∙ ap (λ i. newline ∷ drop i hay) (sym (add-one at))

-- no newline follows the last one
pub part_after : (hay : List ℕ) (at : ℕ) → NoneAfter (Passes (is_byte 10) hay) 0 (length hay) at → HasNoNewline (drop (at + 1) hay)
part_after hay at last =
    HasNoNewline-searched (drop (at + 1) hay) (λ k low e.
    last.after (at + 1 + k) (omega arith) (omega (arith, low, length-drop (at + 1) hay))
    (subst (λ b. nat_eq b 10 ≡ true) (get_or-drop (at + 1) hay k 0) e))

module _ (block : List ℕ) (from at : ℕ) where
  pub next_some : NoneBefore (Passes (is_byte 10) (take (length block - from) (drop from block))) 0
      (length (take (length block - from) (drop from block))) at × Passes (is_byte 10)
      (take (length block - from) (drop from block)) at → (from ≤ from + at) × (from + at < length block) × HasNoNewline
      (take (from + at - from) (drop from block)) × (drop (from + at) block ≡ newline ∷ drop (from + at + 1) block)
  next_some h = next (subst (λ (hay : List ℕ). NoneBefore (Passes (is_byte 10) hay) 0 (length hay) at × Passes
      (is_byte 10) hay at) (take_rest block from) h)
    where
      next : NoneBefore (Passes (is_byte 10) (drop from block)) 0 (length (drop from block)) at × Passes (is_byte 10)
          (drop from block) at → (from ≤ from + at) × (from + at < length block) × HasNoNewline
          (take (from + at - from) (drop from block)) × (drop (from + at) block ≡ newline ∷ drop (from + at + 1) block)
      next h =
          let low : at < length (drop from block) = h.0.high in
          let size = length-drop from block in (
            omega arith,
            omega arith,
            subst (λ n. HasNoNewline (take n (drop from block))) (omega arith) (part_before (drop from block) at low h.0.before),
            sym (drop-drop at from block) ∙ here (drop from block) at low h.0.before h.1
                ∙ ap (λ r. newline ∷ r) (drop-drop (at + 1) from block
                ∙ ap (λ i. drop i block) (sym (add_assoc from at 1))),
          )
