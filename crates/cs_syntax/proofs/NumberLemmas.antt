-- Saturating arithmetic computes the saturated value of the digits.
use Rattle.std.proofs.Common.{◌≡◌, ℕ, zero, suc, ◌+◌, ◌*◌, ◌≤◌, ◌⊎◌, inl, inr, min, List, [], ◌∷◌, ap, arith}
use Rattle.std.proofs.lemmas.Bool.{cases_lt}
use Rattle.std.specs.List.{fold}
use Rattle.cs_syntax.specs.Numbers.{digit_value}

-- the value of the digits appended to the digits of n
abbrev pub value_after : ℕ → ℕ → List ℕ → ℕ
value_after base n ds = fold (λ k d. base * k + digit_value d) n ds

-- numbers that are equal after saturation are equal or both at least the limit
same_or_large : (m n k : ℕ) → min n m ≡ min k m → (n ≡ k) ⊎ ((m ≤ n) × (m ≤ k))
same_or_large m n k e = elim (cases_lt n m) [ inl l ↦ inl (omega arith) | inr l ↦ inr (omega arith, omega arith) ]

larger : (b n d m : ℕ) → m ≤ n → m ≤ suc b * n + d
larger b n d m l = let e : suc b * n ≡ n + b * n = grind arith in omega arith

both_large : (x y m : ℕ) → m ≤ x → m ≤ y → min x m ≡ min y m
both_large x y m p q = omega arith

grown : (b m n k d : ℕ) → min n m ≡ min k m → min (b * n + d) m ≡ min (b * k + d) m
grown zero m n k d e = let a : zero * n ≡ zero * k = grind arith in ap (λ x. min (x + d) m) a
grown (suc b) m n k d e = elim (same_or_large m n k e) [
  | inl s ↦ ap (λ x. min (suc b * x + d) m) s
  | inr l ↦ both_large (suc b * n + d) (suc b * k + d) m
      (larger b n d m l.0) (larger b k d m l.1)
]

pub value_after-capped : (b m n k : ℕ) (ds : List ℕ) → min n m ≡ min k m → min (value_after b n ds) m ≡ min (value_after b k ds) m
value_after-capped b m n k [] e = e
value_after-capped b m n k (d ∷ ds) e = value_after-capped b m (b * n + digit_value d) (b * k + digit_value d) ds
    (grown b m n k (digit_value d) e)

pub grown_once : (b v d m x y : ℕ) → x ≡ min (v * b) m → y ≡ min (x + d) m → min y m ≡ min (b * v + d) m
grown_once b v d m x y e f = let same : v * b ≡ b * v = grind arith in omega arith
