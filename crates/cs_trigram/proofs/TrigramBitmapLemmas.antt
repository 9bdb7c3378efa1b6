-- The bitmap and the list after one more number.
use Rattle.std.proofs.Common.{◌≡◌, ◌≢◌, ◌<◌, ℕ, ◌+◌, ◌*◌, ◌/◌, ◌%◌, ◌^◌, Bool, true, false, ◌||◌, eqb, List, [], ◌∷◌, ◌++◌, length, take, get_or, set, refl, sym, ap, subst, ◌∙◌, inl, inr, ◌⊎◌, arith, length-append, drop, get_or-set_same, get_or-set_other, w64, bit_or, bit_and, not}
use Rattle.std.proofs.Math.Bool.{or-false, or-true}
use Rattle.std.proofs.lemmas.List.{append_assoc, take-set-le, take_more_set}
use Rattle.std.proofs.lemmas.Nat.{one_shl}
use Rattle.std.proofs.lemmas.Nat.Bits.{and_pow, bit_at_set_same, bit_at_set_other}
use Rattle.std.specs.Int.Bits.{or_add_and}
use Rattle.std.proofs.lemmas.Bool.{cases_eq, eq-eqb, ne_eqb}
use Rattle.std.specs.Int.{bit_at, from_bool}
use Rattle.cs_syntax.specs.Bits.{has_bit}
use Rattle.cs_trigram.specs.Trigram.{Ascends, with_number, set_of_numbers, has}
use Rattle.cs_trigram.specs.TrigramBitmap.{IsBitmapOf, IsSeenSet, Collects, CollectsOn}
use Rattle.cs_trigram.proofs.SetLemmas.{has-append, has-set_of_numbers, ascends_set, set_of_numbers-push, with_number-member, length-with_number}

-- the bitmap with one more bit set
abbrev pub bit_is_set : List ℕ → ℕ → List ℕ
bit_is_set bitmap n = set bitmap (n / 64) (bit_or (get_or bitmap (n / 64) 0) (1 * 2 ^ (n % 64) % 2 ^ 64))

has-push : (numbers : List ℕ) (w n : ℕ) → has (numbers ++ w ∷ []) n ≡ (has numbers n || (eqb w n || false))
has-push numbers w n = has-append n numbers (w ∷ [])

bit-same : (bitmap : List ℕ) (w : ℕ) → w / 64 < length bitmap → has_bit (bit_is_set bitmap w) w ≡ true
bit-same bitmap w within =
    let low : w % 64 < 64 = omega arith in
    rw get_or-set_same (ap (λ b. eqb b 1) (bit_at_set_same w64 (get_or bitmap (w / 64) 0) (w % 64) low))

bit-other : (bitmap : List ℕ) (w n : ℕ) → w / 64 < length bitmap → (w ≡ n → ⊥) → has_bit (bit_is_set bitmap w) n ≡ has_bit bitmap n
bit-other bitmap w n within apart = by_case (cases_eq (n / 64) (w / 64))
  where
    by_case : ((n / 64 ≡ w / 64) ⊎ (n / 64 ≡ w / 64 → ⊥)) → has_bit (bit_is_set bitmap w) n ≡ has_bit bitmap n
    by_case (inl old_bits) =
        let low : w % 64 < 64 = omega arith in
        let other : n % 64 ≢ w % 64 = λ e. apart (omega (arith, e, old_bits)) in
        rw (old_bits, get_or-set_same) (ap (λ b. eqb b 1) (bit_at_set_other w64 (get_or bitmap (w / 64) 0) (w % 64) low (n % 64) other))
    by_case (inr old_bits) = rw get_or-set_other refl

-- one more bit is set, and no other is changed
pub IsBitmapOf-push : (bitmap numbers : List ℕ) (w : ℕ) → w / 64 < length bitmap → IsBitmapOf bitmap numbers →
    IsBitmapOf (bit_is_set bitmap w) (numbers ++ w ∷ [])
IsBitmapOf-push bitmap numbers w within is_bitmap n = by_case (cases_eq w n)
  where
    by_case : ((w ≡ n) ⊎ (w ≡ n → ⊥)) → has_bit (bit_is_set bitmap w) n ≡ has (numbers ++ w ∷ []) n
    by_case (inl same) =
        ap (has_bit (bit_is_set bitmap w)) (sym same) ∙ bit-same bitmap w within
        ∙ sym (has-push numbers w n ∙ ap (λ t. has numbers n || (t || false)) (eq-eqb w n same) ∙ or-true (has numbers n))
    by_case (inr apart) =
        bit-other bitmap w n within apart ∙ is_bitmap n
        ∙ sym (has-push numbers w n ∙ ap (λ t. has numbers n || (t || false)) (ne_eqb w n apart) ∙ or-false (has numbers n))

-- a member is inserted again
IsSeenSet-again : (bitmap numbers set : List ℕ) (w : ℕ) → w / 64 < length bitmap → IsSeenSet bitmap numbers set →
    has_bit bitmap w ≡ true → IsSeenSet (bit_is_set bitmap w) numbers (with_number w set)
IsSeenSet-again bitmap numbers set w within is_set one =
    let member : has numbers w ≡ true = sym (is_set.is_bitmap w) ∙ one in
    let in_set : has set w ≡ true = ap (λ s. has s w) (sym is_set.same) ∙ has-set_of_numbers w numbers ∙ member in
    let up : Ascends set = subst Ascends is_set.same (ascends_set numbers) in
    let stays : with_number w set ≡ set = with_number-member w set up in_set in
    record {
      same = is_set.same ∙ sym stays;
      once = is_set.once ∙ ap length (sym stays);
      is_bitmap = λ n. IsBitmapOf-push bitmap numbers w within is_set.is_bitmap n ∙ has-push numbers w n ∙ by_case n (cases_eq w n) member;
    }
  where
    by_case : (n : ℕ) → ((w ≡ n) ⊎ (w ≡ n → ⊥)) → has numbers w ≡ true → (has numbers n || (eqb w n || false)) ≡ has numbers n
    by_case n (inl same) member = ap (λ t. t || (eqb w n || false)) (ap (has numbers) (sym same) ∙ member)
        ∙ sym (ap (has numbers) (sym same) ∙ member)
    by_case n (inr apart) member = ap (λ t. has numbers n || (t || false)) (ne_eqb w n apart) ∙ or-false (has numbers n)

-- a number is inserted for the first time
IsSeenSet-new : (bitmap numbers set : List ℕ) (w : ℕ) → w / 64 < length bitmap → IsSeenSet bitmap numbers set →
    has_bit bitmap w ≡ false → IsSeenSet (bit_is_set bitmap w) (numbers ++ w ∷ []) (with_number w set) ×
    (length (with_number w set) ≡ length set + 1)
IsSeenSet-new bitmap numbers set w within is_set none =
    let new : has numbers w ≡ false = sym (is_set.is_bitmap w) ∙ none in
    let not_in_set : has set w ≡ false = ap (λ s. has s w) (sym is_set.same) ∙ has-set_of_numbers w numbers ∙ new in
    let more : length (with_number w set) ≡ length set + 1 = length-with_number w set not_in_set in (
      record {
        same = set_of_numbers-push numbers w ∙ ap (with_number w) is_set.same;
        once = omega (arith, length-append numbers (w ∷ []), more, is_set.once);
        is_bitmap = IsBitmapOf-push bitmap numbers w within is_set.is_bitmap;
      },
      more,
    )

-- One more number: it is written after the list, which grows if its bit was clear.
pub Collects-push : (bitmap list : List ℕ) (len w : ℕ) → w / 64 < length bitmap → len < length list →
    CollectsOn bitmap list len (bit_is_set bitmap w) (set list len w) (len + from_bool (not (has_bit bitmap w))) (w ∷ [])
Collects-push bitmap list len w within room numbers is_set = by_case (has_bit bitmap w) refl
  where
    next : ℕ
    next = len + from_bool (not (has_bit bitmap w))

    members : List ℕ
    members = set_of_numbers numbers

    pushed : set_of_numbers (numbers ++ w ∷ []) ≡ with_number w members
    pushed = set_of_numbers-push numbers w

    by_case : (there : Bool) → has_bit bitmap w ≡ there → IsSeenSet (bit_is_set bitmap w) (take next (set list len w))
        (set_of_numbers (numbers ++ w ∷ []))
    by_case true one =
        let stays : next ≡ len = omega (arith, ap (λ b. from_bool (not b)) one) in
        let same : take next (set list len w) ≡ take len list = ap (λ n. take n (set list len w)) stays
        ∙ take-set-le len list len w (omega arith) in
        rw (same, pushed) (IsSeenSet-again bitmap (take len list) members w within is_set one)
    by_case false none =
        let longer : next ≡ len + 1 = omega (arith, ap (λ b. from_bool (not b)) none) in
        let same : take next (set list len w) ≡ take len list ++ w ∷ [] = ap (λ n. take n (set list len w)) longer
        ∙ take_more_set list len w room in
        rw (same, pushed) (IsSeenSet-new bitmap (take len list) members w within is_set none).0

-- the word of the bitmap changes exactly if the bit was clear
pub changed : (old_bits k : ℕ) → k < 64 → from_bool (not (eqb old_bits (bit_or old_bits (1 * 2 ^ k % 2 ^ 64))))
    ≡ from_bool (not (eqb (bit_at old_bits k) 1))
changed old_bits k low = by_case (cases_eq (bit_at old_bits k) 1)
  where
    with : ℕ
    with = bit_or old_bits (1 * 2 ^ k % 2 ^ 64)

    by_case : ((bit_at old_bits k ≡ 1) ⊎ (bit_at old_bits k ≡ 1 → ⊥)) → from_bool (not (eqb old_bits with))
        ≡ from_bool (not (eqb (bit_at old_bits k) 1))
    by_case (inl one) =
        let power : 1 * 2 ^ k % 2 ^ 64 ≡ 2 ^ k = one_shl k 64 low in
        let sum = or_add_and old_bits (2 ^ k) in
        let meet : bit_and old_bits (2 ^ k) ≡ 1 * 2 ^ k = and_pow old_bits k ∙ ap (λ b. b * 2 ^ k) one in
        let stays : bit_or old_bits (2 ^ k) ≡ old_bits = omega (arith, sum, meet) in
        let is : old_bits ≡ with = sym stays ∙ ap (bit_or old_bits) (sym power) in
        ap (λ b. from_bool (not b)) (eq-eqb old_bits with is ∙ sym (eq-eqb (bit_at old_bits k) 1 one))
    by_case (inr not_one) =
        let apart : old_bits ≢ with = λ e. not_one (ap (λ n. bit_at n k) e ∙ bit_at_set_same w64 old_bits k low) in
        ap (λ b. from_bool (not b)) (ne_eqb old_bits with apart ∙ sym (ne_eqb (bit_at old_bits k) 1 not_one))

-- one collection after another
pub Collects-chain : (bitmap list : List ℕ) (len : ℕ) (mid_bitmap mid_list : List ℕ) (mid_len : ℕ)
    (more_bitmap more_list : List ℕ) (more_len : ℕ) (xs ys : List ℕ) →
    CollectsOn bitmap list len mid_bitmap mid_list mid_len xs → CollectsOn mid_bitmap mid_list mid_len more_bitmap more_list more_len ys →
    CollectsOn bitmap list len more_bitmap more_list more_len (xs ++ ys)
Collects-chain bitmap list len mid_bitmap mid_list mid_len more_bitmap more_list more_len xs ys one two numbers is_set =
    subst (Collects more_bitmap more_list more_len) (append_assoc numbers xs ys) (two (numbers ++ xs) (one numbers is_set))

-- ---- no bit is set

-- the bits that remain when those of the first i numbers are cleared belong to the others
pub record IsPartlyCleared (bitmap numbers : List ℕ) (i : ℕ) : Type 0 where
  pub left : (n : ℕ) → has_bit bitmap n ≡ true → has (drop i numbers) n ≡ true

-- ---- numbers with a bit are small
