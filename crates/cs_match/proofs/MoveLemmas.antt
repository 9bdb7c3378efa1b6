-- The words of a set that is shifted, and of one that is moved over an input.
use Rattle.std.proofs.Common.{◌≡◌, ℕ, zero, suc, ◌+◌, ◌*◌, ◌/◌, ◌%◌, ◌^◌, ◌<◌, ◌≤◌, Bool, false, ◌&&◌, ◌||◌, eqb, List, ◌∷◌, length, get_or, bit_and, bit_or, inl, inr, refl, sym, ◌∙◌, ap, ap₂, arith, ext_get_or}
use Rattle.std.proofs.Math.Bool.{and-false}
use Rattle.std.proofs.lemmas.Bool.{cases_lt}
use Rattle.std.proofs.lemmas.List.{get_or_past}
use Rattle.std.proofs.lemmas.List.Elements.{All-from_get_or}
use Rattle.std.proofs.lemmas.Nat.{and_le_l, or_lt}
use Rattle.std.proofs.lemmas.Nat.Bits.{bit_at-zero}
use Rattle.std.specs.Int.{bit_at}
use Rattle.cs_syntax.specs.Bits.{has_bit}
use Rattle.cs_match.specs.PositionSet.{positions_of, IsPositionSet, is_moved}
use Rattle.cs_match.proofs.BitwiseLemmas.{carry, previous, shifted, shifted-bit, carry-lt, bit-and, bit-or}
use Rattle.cs_match.proofs.PositionSetLemmas.{length-positions_of, get_or-positions_of}

-- a set with one position more
pub one_more : (a b : List ℕ) (m n : ℕ) (xs ys : List Bool) → positions_of a m ≡ xs → positions_of b n ≡ ys → length xs
    ≡ length ys + 1 → m ≡ n + 1
one_more a b m n xs ys of-a of-b more = omega (
  arith,
  length-positions_of a m,
  length-positions_of b n,
  ap length of-a,
  ap length of-b,
  more,
)

-- a bit past the words
pub past_words : (words : List ℕ) (k : ℕ) → length words ≤ k / 64 → has_bit words k ≡ false
past_words words k h = ap (λ x. eqb (bit_at x (k % 64)) 1) (get_or_past words (k / 64) 0 h) ∙ ap (λ x. eqb x 1) (bit_at-zero (k % 64))

-- the shifted set has one position more
module _ (new from : List ℕ) (count : ℕ) (are : IsPositionSet from count) (size : length new ≡ (count + 1 + 63) / 64)
    (each : (k : ℕ) → k < length new → get_or new k 0 ≡ shifted from k) where
  shifted-at : (k : ℕ) → k / 64 < length new → has_bit new k ≡ previous from k
  shifted-at k h =
      let index : k / 64 * 64 + k % 64 ≡ k = omega arith in
      ap (λ x. eqb (bit_at x (k % 64)) 1) (each (k / 64) h) ∙ shifted-bit from are.fit (k / 64) (k % 64) (omega arith)
      ∙ ap (previous from) index

  pub IsPositionSet-shifted : IsPositionSet new (count + 1)
  IsPositionSet-shifted = record {
    enough = size;
    fit = All-from_get_or (λ word. word < 2 ^ 64) new 0 (λ k h.
        rw (each k h) (or_lt 64 (get_or from k 0 * 2 % 18446744073709551616) (carry from k) (omega arith)
        (omega (arith, carry-lt from are.fit k))));
    no_other = λ k past. elim (cases_lt (k / 64) (length new)) [
      | inl within ↦ shifted-at k within ∙ above k past
      | inr beyond ↦ past_words new k beyond
    ];
  }
    where
      above : (k : ℕ) → count + 1 ≤ k → previous from k ≡ false
      above zero h = absurd (omega (arith, h))
      above (suc k) h = are.no_other k (omega (arith, h))

  pub positions_of-shifted : positions_of new (count + 1) ≡ false ∷ positions_of from count
  positions_of-shifted = ext_get_or false _ _ (length-positions_of new (count + 1) ∙ long) (λ k h.
      let within : k < count + 1 = omega (arith, h, length-positions_of new (count + 1)) in
      get_or-positions_of new (count + 1) k within ∙ shifted-at k (omega (arith, within, size)) ∙ before k within)
    where
      long : count + 1 ≡ suc (length (positions_of from count))
      long = omega (arith, length-positions_of from count)

      before : (k : ℕ) → k < count + 1 → previous from k ≡ get_or (false ∷ positions_of from count) k false
      before zero h = refl
      before (suc k) h = sym (get_or-positions_of from count k (omega (arith, h)))

-- a word of a moved set
abbrev pub moved_word : ℕ → ℕ → ℕ → ℕ → ℕ → ℕ → ℕ
moved_word entry if_entered previous if_previous word if_kept =
    bit_or (bit_or (bit_and entry if_entered) (bit_and previous if_previous)) (bit_and word if_kept)

moved_word-bit : (e i s p w k r : ℕ) → eqb (bit_at (moved_word e i s p w k) r) 1
    ≡ ((eqb (bit_at e r) 1 && eqb (bit_at i r) 1) || (eqb (bit_at s r) 1 && eqb (bit_at p r) 1))
    || (eqb (bit_at w r) 1 && eqb (bit_at k r) 1)
moved_word-bit e i s p w k r =
    bit-or (bit_or (bit_and e i) (bit_and s p)) (bit_and w k) r
    ∙ ap₂ (λ x y. x || y) (bit-or (bit_and e i) (bit_and s p) r ∙ ap₂ (λ x y. x || y) (bit-and e i r) (bit-and s p r)) (bit-and w k r)

module _ (new old es ins befores keeps : List ℕ) (count : ℕ) (old-are : IsPositionSet old count)
    (es-are : IsPositionSet es (count + 1)) (ins-are : IsPositionSet ins count)
    (befores-are : IsPositionSet befores count) (keeps-are : IsPositionSet keeps count)
    (size : length new ≡ length old) (each : (k : ℕ) → k < length old → get_or new k 0 ≡ moved_word (get_or es k 0)
    (get_or ins k 0) (shifted es k) (get_or befores k 0) (get_or old k 0) (get_or keeps k 0)) where
  moved-at : (k : ℕ) → k / 64 < length old → has_bit new k
      ≡ ((has_bit es k && has_bit ins k) || (previous es k && has_bit befores k)) || (has_bit old k && has_bit keeps k)
  moved-at k h =
      let index : k / 64 * 64 + k % 64 ≡ k = omega arith in
      let q = k / 64 in
      let r = k % 64 in
      ap (λ x. eqb (bit_at x r) 1) (each q h) ∙ moved_word-bit (get_or es q 0) (get_or ins q 0) (shifted es q)
      (get_or befores q 0) (get_or old q 0) (get_or keeps q 0) r
      ∙ ap (λ x. ((has_bit es k && has_bit ins k) || (x && has_bit befores k)) || (has_bit old k && has_bit keeps k))
      (shifted-bit es es-are.fit q r (omega arith) ∙ ap (previous es) index)

  pub IsPositionSet-moved : IsPositionSet new count
  IsPositionSet-moved = record {
    enough = size ∙ old-are.enough;
    fit = All-from_get_or (λ word. word < 2 ^ 64) new 0 (λ k h.
        let within : k < length old = omega (arith, h, size) in
        let e-fits : get_or es k 0 < 18446744073709551616 = es-are.fit k 0 (omega (arith, within, old-are.enough, es-are.enough)) in
        let w-fits : get_or old k 0 < 18446744073709551616 = old-are.fit k 0 within in
        let s-fits : shifted es k < 18446744073709551616 = or_lt 64 (get_or es k 0 * 2 % 18446744073709551616)
        (carry es k) (omega arith) (omega (arith, carry-lt es es-are.fit k)) in
        rw (each k within)
        (or_lt 64 (bit_or (bit_and (get_or es k 0) (get_or ins k 0)) (bit_and (shifted es k) (get_or befores k 0)))
        (bit_and (get_or old k 0) (get_or keeps k 0))
        (or_lt 64 (bit_and (get_or es k 0) (get_or ins k 0)) (bit_and (shifted es k) (get_or befores k 0))
        (omega (arith, e-fits, and_le_l (get_or es k 0) (get_or ins k 0)))
        (omega (arith, s-fits, and_le_l (shifted es k) (get_or befores k 0))))
        (omega (arith, w-fits, and_le_l (get_or old k 0) (get_or keeps k 0)))));
    no_other = λ k past. elim (cases_lt (k / 64) (length old)) [
      | inl within ↦
          moved-at k within
          ∙ rw (
            ins-are.no_other k past,
            befores-are.no_other k past,
            keeps-are.no_other k past,
            and-false (has_bit es k),
            and-false (previous es k),
            and-false (has_bit old k),
          ) refl
      | inr beyond ↦ past_words new k (omega (arith, size, beyond))
    ];
  }

  pub get_or-moved_words : (k : ℕ) → k < count →
      get_or (positions_of new count) k false ≡ is_moved (positions_of es (count + 1)) (positions_of ins count)
      (positions_of befores count) (positions_of keeps count) (positions_of old count) k
  get_or-moved_words k h =
      get_or-positions_of new count k h ∙ moved-at k (omega (arith, h, old-are.enough))
      ∙ rw (
        get_or-positions_of es (count + 1) k (omega (arith, h)),
        get_or-positions_of ins count k h,
        get_or-positions_of befores count k h,
        get_or-positions_of keeps count k h,
        get_or-positions_of old count k h,
      )
      (ap (λ x. ((has_bit es k && has_bit ins k) || (x && has_bit befores k)) || (has_bit old k && has_bit keeps k)) (before k h))
    where
      before : (k : ℕ) → k < count → previous es k ≡ get_or (false ∷ positions_of es (count + 1)) k false
      before zero h = refl
      before (suc k) h = sym (get_or-positions_of es (count + 1) k (omega (arith, h)))

-- the words of the entered positions of a mask
module _ (new es ins : List ℕ) (count : ℕ) (es-are : IsPositionSet es (count + 1)) (ins-are : IsPositionSet ins count)
    (size : length new ≡ length ins) (each : (k : ℕ) → k < length ins → get_or new k 0 ≡ bit_and (get_or es k 0) (get_or ins k 0)) where
  entered-at : (k : ℕ) → k / 64 < length ins → has_bit new k ≡ (has_bit es k && has_bit ins k)
  entered-at k h = ap (λ x. eqb (bit_at x (k % 64)) 1) (each (k / 64) h) ∙ bit-and (get_or es (k / 64) 0) (get_or ins (k / 64) 0) (k % 64)

  pub IsPositionSet-entered : IsPositionSet new count
  IsPositionSet-entered = record {
    enough = size ∙ ins-are.enough;
    fit = All-from_get_or (λ word. word < 2 ^ 64) new 0 (λ k h.
        let within : k < length ins = omega (arith, h, size) in
        let e-fits : get_or es k 0 < 18446744073709551616 = es-are.fit k 0 (omega (arith, within, ins-are.enough, es-are.enough)) in
        omega (arith, e-fits, each k within, and_le_l (get_or es k 0) (get_or ins k 0)));
    no_other = λ k past. elim (cases_lt (k / 64) (length ins)) [
      | inl within ↦ entered-at k within ∙ ap (λ x. has_bit es k && x) (ins-are.no_other k past) ∙ and-false (has_bit es k)
      | inr beyond ↦ past_words new k (omega (arith, size, beyond))
    ];
  }

  pub get_or-entered_words : (k : ℕ) → k < count →
      get_or (positions_of new count) k false ≡ (get_or (positions_of es (count + 1)) k false && get_or (positions_of ins count) k false)
  get_or-entered_words k h =
      get_or-positions_of new count k h ∙ entered-at k (omega (arith, h, ins-are.enough))
      ∙ sym (ap₂ (λ x y. x && y) (get_or-positions_of es (count + 1) k (omega (arith, h))) (get_or-positions_of ins count k h))
