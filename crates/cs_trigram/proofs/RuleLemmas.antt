-- Consequences of the rules for each byte.
use Rattle.std.proofs.Common.{◌≡◌, ◌<◌, ℕ, Bool, true, false, not, cond, ◌&&◌, ◌||◌, ltb, leb, eqb, List, [], ◌∷◌, ◌++◌, length, Option, Some, None, refl, inl, inr, arith}
use Rattle.std.proofs.lemmas.Bool.{false≢true, or_cases, and_parts, ltb-true, leb-true}
use Rattle.std.specs.List.{AllByRecursion}
use Rattle.cs_trigram.specs.declared.scan.Limits.{Limits}
use Rattle.cs_trigram.specs.declared.scan.Reason.{Reason}
use Rattle.cs_trigram.specs.declared.scan.Reason.TheVariants.{Nul, Utf8, TooLong, LongLine}
use Rattle.cs_trigram.specs.Trigram.{trigram_sequence, tri, closing_trigram}
use Rattle.cs_trigram.specs.Text.{valid_utf8_pair, last_byte, line_so_far, rule_broken, first_broken}
use Rattle.std.specs.Option.{option_or}
use Rattle.cs_trigram.proofs.SetLemmas.{all_set}

pub option_or-none : (a b : Option Reason) → option_or a b ≡ None → (a ≡ None) × (b ≡ None)
option_or-none None b h = (refl, h)
option_or-none (Some r) b h = absurd (cc)

-- a byte above f7 may follow no byte
follower_below : (b : ℕ) (s t u : Bool) → cond s (ltb b 128 || (leb 192 b && leb b 247))
    (cond t (leb b 247) (cond u (leb 128 b && ltb b 192) false)) ≡ true → b < 248
follower_below b true t u h =
    elim (or_cases (ltb b 128) (leb 192 b && leb b 247) h) [
      | inl low ↦ omega (arith, ltb-true b 128 low)
      | inr lead ↦ omega (arith, leb-true b 247 (and_parts (leb 192 b) (leb b 247) lead).1)
    ]
follower_below b false true u h = omega (arith, leb-true b 247 h)
follower_below b false false true h = omega (arith, ltb-true b 192 (and_parts (leb 128 b) (ltb b 192) h).1)
follower_below b false false false h = absurd (false≢true h)

unbroken_below : (most : Limits) (prefix : List ℕ) (b : ℕ) → rule_broken most prefix b ≡ None → b < 248
unbroken_below most prefix b whole = at_zero (eqb b 0) (valid_utf8_pair (last_byte prefix) b) refl whole
  where
    later : Option Reason
    later = cond (leb most.bytes (length prefix)) (Some TooLong) (cond (leb most.line (length (line_so_far prefix))) (Some LongLine) None)

    at_zero : (z f : Bool) → valid_utf8_pair (last_byte prefix) b ≡ f → cond z (Some Nul) (cond (not f) (Some Utf8) later) ≡ None → b < 248
    at_zero true f is h = absurd (cc)
    at_zero false true is h = follower_below b (ltb (last_byte prefix) 128) (ltb (last_byte prefix) 192) (ltb (last_byte prefix) 248) is
    at_zero false false is h = absurd (cc)

bytes_below : (most : Limits) (prefix bytes : List ℕ) → first_broken most prefix bytes ≡ None → AllByRecursion (λ b. b < 248) bytes
bytes_below most prefix [] whole = tt
bytes_below most prefix (b ∷ rest) whole =
    let parts = option_or-none (rule_broken most prefix b) (first_broken most (prefix ++ b ∷ []) rest) whole in
    (unbroken_below most prefix b parts.0, bytes_below most (prefix ++ b ∷ []) rest parts.1)

trigrams_below : (bytes : List ℕ) → AllByRecursion (λ b. b < 248) bytes → AllByRecursion (λ n. n < 16777215) (trigram_sequence bytes)
trigrams_below [] all = tt
trigrams_below (a ∷ []) all = tt
trigrams_below (a ∷ b ∷ []) all = tt
trigrams_below (a ∷ b ∷ c ∷ rest) all =
    let first : a < 248 = all.0 in
    let second : b < 248 = all.1.0 in
    let third : c < 248 = all.1.1.0 in
    (omega arith, trigrams_below (b ∷ c ∷ rest) all.1)

-- no trigram of bytes that break no rule is ff ff ff
pub tri_below : (most : Limits) (bytes : List ℕ) → first_broken most [] bytes ≡ None → AllByRecursion (λ n. n < closing_trigram) (tri bytes)
tri_below most bytes whole = all_set (λ n. n < 16777215) (trigram_sequence bytes) (trigrams_below bytes (bytes_below most [] bytes whole))

-- ---- the result for bytes that break no rule
