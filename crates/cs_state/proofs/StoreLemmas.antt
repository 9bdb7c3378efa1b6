-- The first bytes of a store.
use Rattle.std.proofs.Common.{◌≡◌, ℕ, zero, suc, ◌+◌, ◌-◌, ◌≤◌, min, List, [], ◌∷◌, take, drop, refl, sym, ap, subst, ◌∙◌, inl, inr, arith, Option, Some}
use Rattle.std.specs.Option.{IfSome}
use Rattle.std.proofs.lemmas.Bool.{cases_lt}
use Rattle.std.proofs.lemmas.List.{drop-take, length-take, length-drop, take_all}
use Rattle.cs_tree.specs.Store.{part_of}

-- what holds of the bytes of a store
pub at_some : (P : List ℕ → Type 0) (model : Option (List ℕ)) (bytes : List ℕ) → model ≡ Some bytes → IfSome model P → P bytes
at_some P model bytes is holds = subst (λ m. IfSome m P) is holds

take_take : (n m : ℕ) (xs : List ℕ) → n ≤ m → take n (take m xs) ≡ take n xs
take_take zero m xs h = refl
take_take (suc n) zero xs h = absurd (omega (arith, h))
take_take (suc n) (suc m) [] h = refl
take_take (suc n) (suc m) (x ∷ xs) h = ap (λ (l : List ℕ). x ∷ l) (take_take n m xs (omega (arith, h)))

-- the first n bytes at an offset of the first bytes
pub part_of_first : (len at n : ℕ) (bytes : List ℕ) → n ≤ len - at → part_of (take len bytes) at n ≡ part_of bytes at n
part_of_first len at zero bytes h = refl
part_of_first len at (suc n) bytes h =
    let whole : at + (len - at) ≡ len = omega (arith, h) in
    ap (λ (l : ℕ). take (suc n) (drop at (take l bytes))) (sym whole) ∙ ap (take (suc n)) (drop-take at (len - at) bytes)
    ∙ take_take (suc n) (len - at) (drop at bytes) h

-- and as many as there are
pub part_within_first : (len at most : ℕ) (bytes : List ℕ) → part_of bytes at (min most (len - at)) ≡ part_of (take len bytes) at most
part_within_first len at most bytes = sym (part_of_first len at (min most (len - at)) bytes (omega arith)) ∙ elim (cases_lt (len - at) most) [
  | inl less ↦
      let d = length-drop at (take len bytes) in
      let t = length-take len bytes in
      take_all (min most (len - at)) (drop at (take len bytes)) (omega (arith, d, t, less))
      ∙ sym (take_all most (drop at (take len bytes)) (omega (arith, d, t, less)))
  | inr more ↦ let e : min most (len - at) ≡ most = omega (arith, more) in ap (part_of (take len bytes) at) e
]
