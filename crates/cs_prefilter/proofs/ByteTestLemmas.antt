-- The bytes that pass a test.
use Rattle.std.proofs.Common.{◌≡◌, ◌↔◌, ℕ, zero, suc, ◌+◌, ◌*◌, ◌<◌, ◌≤◌, Bool, true, false, List, [], ◌∷◌, length, cond, sym, ap, subst, ◌∙◌, bit_or, inl, inr, ◌⊎◌, zero-add, true≢false, refl, arith}
use Rattle.std.specs.Int.{bit_at}
use Rattle.std.specs.Int.Bits.{or_zero_r, or_add_and}
use Rattle.std.proofs.lemmas.Nat.Bits.{bit_at-lt, and_pow}
use Rattle.std.proofs.lemmas.Bool.{cases_eq}
use Rattle.std.proofs.lemmas.List.Sums.{sum_by-cons, count_by-le-length}
use Rattle.cs_syntax.specs.Matching.{member}
use Rattle.cs_syntax.specs.Members.{count, IsOnly}
use Rattle.cs_syntax.proofs.ByteSetLemmas.{one_is_only}

counts_in : (set : List Bool) → count (true ∷ set) ≡ 1 + count set
counts_in set = sum_by-cons (λ (x : Bool). cond x 1 0) true set

counts_out : (set : List Bool) → count (false ∷ set) ≡ count set
counts_out set = sum_by-cons (λ (x : Bool). cond x 1 0) false set ∙ zero-add (count set)

-- a set that counts all is all
pub all_members : (set : List Bool) → count set ≡ length set → (b : ℕ) → b < length set → member set b ≡ true
all_members [] e b lt = absurd (omega (arith, lt))
all_members (true ∷ set) e zero lt = refl
all_members (true ∷ set) e (suc b) lt = all_members set (omega (arith, e, counts_in set)) b (omega (arith, lt))
all_members (false ∷ set) e b lt = absurd (omega (arith, e, counts_out set, count_by-le-length (λ (x : Bool). x) set))

-- a set of two members has no other
two_members : (set : List Bool) → count set ≡ 2 → (a b x : ℕ) → a < b → member set a ≡ true → member set b ≡ true
    → member set x ≡ true → (x ≡ a) ⊎ (x ≡ b)
two_members [] e a b x before in_a in_b in_x = absurd (true≢false (sym in_a))
two_members (true ∷ set) e zero zero x before in_a in_b in_x = absurd (omega (arith, before))
two_members (true ∷ set) e zero (suc b) zero before in_a in_b in_x = inl refl
two_members (true ∷ set) e zero (suc b) (suc x) before in_a in_b in_x =
    inr (ap suc ((one_is_only set (omega (arith, e, counts_in set)) b in_b).1 x in_x))
two_members (true ∷ set) e (suc a) zero x before in_a in_b in_x = absurd (omega (arith, before))
two_members (true ∷ set) e (suc a) (suc b) x before in_a in_b in_x =
    absurd (omega (arith, before, (one_is_only set (omega (arith, e, counts_in set)) b in_b).1 a in_a))
two_members (false ∷ set) e zero b x before in_a in_b in_x = absurd (true≢false (sym in_a))
two_members (false ∷ set) e (suc a) zero x before in_a in_b in_x = absurd (true≢false (sym in_b))
two_members (false ∷ set) e (suc a) (suc b) zero before in_a in_b in_x = absurd (true≢false (sym in_x))
two_members (false ∷ set) e (suc a) (suc b) (suc x) before in_a in_b in_x =
    elim (two_members set (sym (counts_out set) ∙ e) a b x (omega (arith, before)) in_a in_b in_x) [
      | inl first ↦ inl (ap suc first)
      | inr second ↦ inr (ap suc second)
    ]

-- the test of a set of one byte
pub only_passes : (set : List Bool) (byte b : ℕ) → IsOnly set byte → (member set b ≡ true) ↔ (bit_or b 0 ≡ byte)
only_passes set byte b only = (
  λ is_in. or_zero_r b ∙ only.1 b is_in,
  λ same. subst (λ n. member set n ≡ true) (sym same ∙ or_zero_r b) only.0,
)

-- a number with bit 5 set
with_case_bit : (b : ℕ) → bit_or b 32 + 32 * bit_at b 5 ≡ b + 32
with_case_bit b = omega (arith, or_add_and b 32, and_pow b 5)

-- the test of both cases of a letter
pub both_cases_pass : (set : List Bool) (byte b : ℕ) → 65 ≤ byte → byte ≤ 90 → count set ≡ 2 → member set byte ≡ true
    → member set (bit_or byte 32) ≡ true → (member set b ≡ true) ↔ (bit_or b 32 ≡ bit_or byte 32)
both_cases_pass set byte b low high two capital small =
    let is_capital : bit_at byte 5 ≡ 0 = omega (arith, low, high) in
    let next : bit_or byte 32 ≡ byte + 32 = omega (arith, with_case_bit byte, is_capital) in (
      λ is_in. elim (two_members set two byte (bit_or byte 32) b (omega (arith, next)) capital small is_in) [
        | inl same ↦ ap (λ n. bit_or n 32) same
        | inr same ↦
            let is_small : bit_at b 5 ≡ 1 = omega (arith, same, next, low, high) in
            omega (arith, with_case_bit b, is_small, same)
      ],
      λ passes. elim (cases_eq b byte) [
        | inl same ↦ ap (member set) same ∙ capital
        | inr other ↦
            let same : b ≡ bit_or byte 32 = omega (arith, with_case_bit b, next, passes, bit_at-lt b 5, other) in
            ap (member set) same ∙ small
      ],
    )
