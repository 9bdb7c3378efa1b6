-- The value of each lane after an operation on vectors of 32 bytes.
use Rattle.std.proofs.Common.{◌≡◌, ◌≢◌, ◌↔◌, ℕ, ◌+◌, ◌*◌, ◌/◌, ◌%◌, ◌^◌, ◌<◌, List, Bool, true, false, not, cond, eqb, length, get_or, map, replicate, refl, sym, ap, ◌∙◌, arith, w8}
use Rattle.std.specs.Int.{bit_at}
use Rattle.std.specs.Simd.Lanes.{zip2, mask_l, sel_l, top}
use Rattle.std.proofs.lemmas.Simd.{length-zip2, get_or-zip2, get_or-replicate, length-replicate, swz_l, SwzOk, SwzOk-from_below, Each1-from_get_or, length-swz_l, get_or-swz_l_below, bitmask_splat, bit_mask_l, tops_compared, length-sel_l, get_or-sel_l}
use Rattle.std.proofs.Math.ListN.{get_or-map}
use Rattle.std.proofs.lemmas.Bool.{eqb-true, eqb-false}
use Rattle.cs_prefilter.specs.Lanes.{HasLanes, full_if_equal}

-- an operator on two vectors
pub of_two : (f : ℕ → ℕ → ℕ) (a b : List ℕ) → length a ≡ 32 → length b ≡ 32
    → HasLanes (zip2 f a b) (λ k. f (get_or a k 0) (get_or b k 0))
of_two f a b long same = record {
  long = length-zip2 f a b (long ∙ sym same) ∙ long;
  each = λ k below. get_or-zip2 f a b k 0 0 0 (omega arith) (omega arith);
}

-- an operator on a vector and one number for all lanes
pub of_splat : (f : ℕ → ℕ → ℕ) (v : List ℕ) (n : ℕ) → length v ≡ 32
    → HasLanes (zip2 f v (replicate 32 n)) (λ k. f (get_or v k 0) n)
of_splat f v n long =
    let two = of_two f v (replicate 32 n) long (length-replicate 32 n) in
    record {
      long = two.long;
      each = λ k below. two.each k below ∙ ap (f (get_or v k 0)) (get_or-replicate 32 k n 0 below);
    }

-- lanes below 16 are indices of a table of 16 entries
pub may_look_up : (at : List ℕ) (f : ℕ → ℕ) → HasLanes at f → ((k : ℕ) → k < 32 → f k < 16)
    → SwzOk w8 16 32 0 at
may_look_up at f lanes small =
    let long = lanes.long in
    SwzOk-from_below w8 16 2 32 0 at (omega arith) (omega arith)
    (Each1-from_get_or (λ j. j < 16) at 0 (λ k below. omega (arith, lanes.each k (omega arith), small k (omega arith))))

-- the result of a look-up if both halves of the vector are the table
pub looked_up : (wide table at : List ℕ) (f : ℕ → ℕ) → HasLanes wide (λ k. get_or table (k % 16) 0)
    → HasLanes at f → ((k : ℕ) → k < 32 → f k < 16)
    → HasLanes (swz_l w8 16 wide 0 at) (λ k. get_or table (f k) 0)
looked_up wide table at f masks lanes small = record {
  long = length-swz_l w8 16 wide 0 at ∙ lanes.long;
  each = λ k below.
      let here = lanes.each k below in
      let fits = small k below in
      let long = lanes.long in
      let there : 16 * ((0 + k) / 16) + get_or at k 0 < 32 = omega arith in
      let entry : (16 * ((0 + k) / 16) + get_or at k 0) % 16 ≡ f k = omega arith in
      get_or-swz_l_below w8 16 wide 0 at k (omega arith) (omega arith)
      ∙ masks.each (16 * ((0 + k) / 16) + get_or at k 0) there ∙ ap (λ j. get_or table j 0) entry;
}

-- the test that gives each bit of the mask
abbrev pub is_nonzero : ℕ → Bool
is_nonzero x = not (eqb x 0)

mask_bit : (x : ℕ) (b : Bool) → eqb x 0 ≡ b → (cond {A = ℕ} (not b) 1 0 ≡ 1) ↔ (x ≢ 0)
mask_bit x true e = (λ h. absurd (omega arith), λ ne. absurd (ne (eqb-true x 0 e)))
mask_bit x false e = (λ h. eqb-false x 0 e, λ ne. refl)

-- the mask of the lanes that are not 0
pub mask_of_nonzero : (v : List ℕ) (k : ℕ) → length v ≡ 32
    → (bit_at (mask_l (map (top 7) (zip2 (λ a b. cond (not (eqb a b)) 255 0) v (replicate 32 0))) % 2 ^ 64) k ≡ 1) ↔ (get_or v k 0 ≢ 0)
mask_of_nonzero v k long =
    let e = ap (λ m. bit_at m k) (bitmask_splat w8 (λ a b. not (eqb a b)) v 32 0 long (omega arith))
    ∙ bit_mask_l (map is_nonzero v) k ∙ ap (λ b. cond b 1 0) (get_or-map is_nonzero v k 0) in
    let t = mask_bit (get_or v k 0) _ refl in
    (λ h. t.0 (sym e ∙ h), λ h. e ∙ t.1 h)

-- 255 for each lane that is equal to the byte
pub equal_lanes : (v : List ℕ) (byte : ℕ) → length v ≡ 32
    → HasLanes (sel_l (map (top 7) (zip2 (λ a b. cond (eqb a b) 255 0) v (replicate 32 byte))) (replicate 32 255) (replicate 32 0))
    (λ k. full_if_equal (get_or v k 0) byte)
equal_lanes v byte long =
    let bytes : List ℕ = replicate 32 byte in
    let full : List ℕ = replicate 32 255 in
    let none : List ℕ = replicate 32 0 in
    let full_long : length full ≡ 32 = length-replicate {A = ℕ} 32 255 in
    let none_long : length none ≡ 32 = length-replicate {A = ℕ} 32 0 in
    let wide : length bytes ≡ 32 = length-replicate 32 byte in
    let tests = length-zip2 eqb v bytes (long ∙ sym wide) ∙ long in
    let same = ap (λ ms. sel_l ms full none) (tops_compared w8 eqb v bytes) in
    record {
      long = ap (λ (l : List ℕ). length l) same
          ∙ length-sel_l (zip2 eqb v bytes) full none (omega (arith, tests, full_long)) (omega (arith, full_long, none_long)) ∙ tests;
      each = λ k below.
          ap (λ l. get_or l k 0) same
          ∙ get_or-sel_l (zip2 eqb v bytes) full none k 0 (omega (arith, tests)) (omega (arith, full_long)) (omega (arith, none_long))
          ∙ (λ i. cond (get_or-zip2 eqb v bytes k 0 0 false (omega (arith, long)) (omega (arith, wide)) i)
          (get_or-replicate 32 k 255 0 below i) (get_or-replicate 32 k 0 0 below i))
          ∙ ap (λ b. cond (eqb (get_or v k 0) b) 255 0) (get_or-replicate 32 k byte 0 below);
    }
