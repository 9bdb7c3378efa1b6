-- What sixteen bytes encode, lane by lane.
use Rattle.std.proofs.Common.{◌≡◌, ℕ, zero, suc, ◌+◌, ◌-◌, ◌*◌, ◌%◌, ◌/◌, ◌^◌, ◌<◌, ◌≤◌, Bool, true, false, not, cond, ◌&&◌, eqb, List, [], ◌∷◌, ◌++◌, length, length-append, map, take, get_or, replicate, refl, sym, ap, subst, ◌∙◌, arith, w8, Fits, bit_and}
use Rattle.std.specs.Prelude.{nat_le}
use Rattle.std.specs.Int.RustNames.{count_ones}
use Rattle.std.specs.Simd.Lanes.{Each1, zip2, mask_l, sum_l, sel_l, top, pick_l}
use Rattle.std.specs.List.{range_with_len, AllByRecursion}
use Rattle.std.specs.Int.Bits.{and_zero_r}
use Rattle.std.proofs.lemmas.Bool.{and_parts, and_from, leb-true, leb-false, lt-ltb, ltb-true, eqb-true, eqb-false, eq-eqb, ne_eqb, true≢false}
use Rattle.std.proofs.lemmas.List.{length-map, get_or-append_right}
use Rattle.std.proofs.Math.ListN.{get_or-map}
use Rattle.std.proofs.lemmas.Nat.{and_mask, and_block}
use Rattle.std.proofs.lemmas.Simd.{tops_compared, mask_l-mod, mask_l-lt, zip2_splat_left, bitmask_splat, pick_l-range_with_len, ones-mask_l_cons, bit_mask_l, sum_bound, bytes_below}
use Rattle.cs_index.specs.ShortDeltas.{are_short, is_first, second_bytes, short_deltas}

abbrev pub bit : Bool → ℕ
bit b = cond b 1 0

abbrev pub firsts : List ℕ → ℕ
firsts bs = mask_l (map is_first bs)

abbrev pub is_zero : ℕ → Bool
is_zero b = eqb b 0

-- ---- bits of lanes

pub first_mask : (v : List ℕ) → length v ≡ 16 →
    mask_l (map (top 7) (zip2 (λ a b. cond (nat_le a b) 255 0) (replicate 16 128) v)) % 2 ^ 64 ≡ firsts v
first_mask v long =
    let is = tops_compared w8 nat_le (replicate 16 128) v ∙ zip2_splat_left nat_le 128 16 v long in
    ap (λ (ms : List Bool). mask_l ms % 2 ^ 64) is
    ∙ mask_l-mod (map is_first v) 64 (let l = length-map v is_first in omega (arith, l, long))

mask_step : (m n : Bool) (rest : ℕ) →
    bit_and (bit n + 2 * rest) (bit m + 2 * (bit n + 2 * rest)) ≡ bit_and rest (bit n + 2 * rest) * 2 + bit_and (bit n) (bit m)
mask_step m n rest =
    let left : bit n + 2 * rest ≡ rest * 2 ^ 1 + bit n = omega arith in
    let right : bit m + 2 * (bit n + 2 * rest) ≡ (bit n + 2 * rest) * 2 ^ 1 + bit m = omega arith in
    (λ i. bit_and (left i) (right i)) ∙ and_block 1 rest (bit n + 2 * rest) (bit n) (bit m) (small n) (small m)
  where
    small : (b : Bool) → bit b < 2 ^ 1
    small true = omega arith
    small false = omega arith

not_both : (m n : Bool) → bit_and (bit n) (bit m) ≡ 0 → not (m && n) ≡ true
not_both true true h = absurd (let one : 1 ≡ 0 = h in omega arith)
not_both true false h = refl
not_both false n h = refl

none_both : (m n : Bool) → not (m && n) ≡ true → bit_and (bit n) (bit m) ≡ 0
none_both true true h = absurd (true≢false (sym h))
none_both true false h = refl
none_both false true h = refl
none_both false false h = refl

-- no two first bytes are neighbours, and no byte is 0
pub short_from : (before : ℕ) (bs : List ℕ) → bit_and (firsts bs) (bit (is_first before) + 2 * firsts bs) ≡ 0 →
    mask_l (map is_zero bs) ≡ 0 → are_short before bs ≡ true
short_from before [] apart some = refl
short_from before (b ∷ bs) apart some =
    let step = mask_step (is_first before) (is_first b) (firsts bs) in
    let ne : eqb b 0 ≡ false = nonzero (eqb b 0) some in
    and_from _ _
    (and_from _ _ (lt-ltb 0 b (let n = eqb-false b 0 ne in omega (arith, n)))
    (not_both (is_first before) (is_first b) (omega (arith, step, apart))))
    (short_from b bs (omega (arith, step, apart)) (omega (arith, some)))
  where
    nonzero : (t : Bool) → bit t + 2 * mask_l (map is_zero bs) ≡ 0 → t ≡ false
    nonzero true h = absurd (omega arith)
    nonzero false h = refl

pub record Parts (before b : ℕ) (bs : List ℕ) : Type 0 where
  pub some : 0 < b
  pub apart : not (is_first before && is_first b) ≡ true
  pub rest : are_short b bs ≡ true

pub parts : (before b : ℕ) (bs : List ℕ) → are_short before (b ∷ bs) ≡ true → Parts before b bs
parts before b bs short =
    let all = and_parts _ _ short in
    let here = and_parts _ _ all.0 in
    record { some = ltb-true 0 b here.0; apart = here.1; rest = all.1 }

pub short_apart : (before : ℕ) (bs : List ℕ) → are_short before bs ≡ true →
    bit_and (firsts bs) (bit (is_first before) + 2 * firsts bs) ≡ 0
short_apart before [] short = refl
short_apart before (b ∷ bs) short =
    let p = parts before b bs short in
    let step = mask_step (is_first before) (is_first b) (firsts bs) in
    let here = none_both (is_first before) (is_first b) p.apart in
    let rest = short_apart b bs p.rest in
    omega (arith, step, here, rest)

pub short_nonzero : (before : ℕ) (bs : List ℕ) → are_short before bs ≡ true → mask_l (map is_zero bs) ≡ 0
short_nonzero before [] short = refl
short_nonzero before (b ∷ bs) short =
    let p = parts before b bs short in
    let ne : eqb b 0 ≡ false = ne_eqb b 0 (λ e. absurd (omega (arith, e, p.some))) in
    let rest = short_nonzero b bs p.rest in
    ap (λ t. bit t + 2 * mask_l (map is_zero bs)) ne ∙ omega (arith, rest)

-- ---- second bytes

abbrev full : ℕ → ℕ
full b = cond (is_first b) 255 0

selected : (v : List ℕ) (n : ℕ) → length v ≡ n → sel_l (map is_first v) (replicate n 255) (replicate n 0) ≡ map full v
selected [] n long = refl
selected (b ∷ bs) zero long = absurd (omega (arith, long))
selected (b ∷ bs) (suc n) long = ap (λ (rest : List ℕ). full b ∷ rest) (selected bs n (omega (arith, long)))

masked : (p : Bool) (b : ℕ) → b < 256 → bit_and b (cond p 255 0) ≡ cond p b 0
masked true b small = and_mask b 8 ∙ omega (arith, small)
masked false b small = and_zero_r b

shifted : (before : ℕ) (v more : List ℕ) (n : ℕ) → length v ≡ suc n → Each1 (λ b. b < 256) v →
    zip2 bit_and v (full before ∷ take n (map full v ++ more)) ≡ second_bytes before v
shifted before [] more n long small = absurd (omega (arith, long))
shifted before (b ∷ []) more zero long small = ap (λ c. c ∷ []) (masked (is_first before) b small.0)
shifted before (b ∷ []) more (suc n) long small = absurd (omega (arith, long))
shifted before (b ∷ c ∷ bs) more zero long small = absurd (omega (arith, long))
shifted before (b ∷ c ∷ bs) more (suc n) long small =
    λ i. masked (is_first before) b small.0 i ∷ shifted b (c ∷ bs) more n (omega (arith, long)) small.1 i

-- ---- the sum and the number of short deltas

abbrev pub last_of : ℕ → List ℕ → ℕ
last_of before [] = before
last_of before (b ∷ bs) = last_of b bs

none_set : count_ones 0 ≡ 0
unfolding count_ones
none_set = refl

sum_step : (before b : ℕ) (p q : Bool) (ds seconds : List ℕ) (ones total last : ℕ) → is_first before ≡ p → is_first b ≡ q →
    not (p && q) ≡ true → sum_l ds + 128 * ones + last ≡ b - 128 + total + 127 * sum_l seconds →
    sum_l (cond q ds ((before - 128 + cond p (128 * b) b) ∷ ds)) + 128 * (bit q + ones) + last
    ≡ before - 128 + (b + total) + 127 * (cond p b 0 + sum_l seconds)
sum_step before b true true ds seconds ones total last f g apart rest = absurd (true≢false (sym apart))
sum_step before b true false ds seconds ones total last f g apart rest =
    let large = leb-true 128 before f in let small = leb-false 128 b g in omega (arith, large, small, rest)
sum_step before b false true ds seconds ones total last f g apart rest =
    let small = leb-false 128 before f in let large = leb-true 128 b g in omega (arith, large, small, rest)
sum_step before b false false ds seconds ones total last f g apart rest =
    let less = leb-false 128 before f in let small = leb-false 128 b g in omega (arith, less, small, rest)

pub deltas_sum : (before : ℕ) (bs : List ℕ) → are_short before bs ≡ true →
    sum_l (short_deltas before bs) + 128 * count_ones (firsts bs) + (last_of before bs - 128)
    ≡ before - 128 + sum_l bs + 127 * sum_l (second_bytes before bs)
deltas_sum before [] short = (let none : count_ones 0 ≡ 0 = none_set in omega (arith, none))
deltas_sum before (b ∷ bs) short =
    let p = parts before b bs short in
    ap (λ n. sum_l (short_deltas before (b ∷ bs)) + 128 * n + (last_of b bs - 128)) (ones-mask_l_cons (is_first b) (map is_first bs))
    ∙ sum_step before b (is_first before) (is_first b) (short_deltas b bs) (second_bytes b bs) (count_ones (firsts bs)) (sum_l bs)
    (last_of b bs - 128) refl refl p.apart (deltas_sum b bs p.rest)

length_step : (q : Bool) (d : ℕ) (ds : List ℕ) (ones long : ℕ) → length ds + ones ≡ long →
    length (cond q ds (d ∷ ds)) + (bit q + ones) ≡ suc long
length_step true d ds ones long h = omega (arith, h)
length_step false d ds ones long h = omega (arith, h)

pub deltas_count : (before : ℕ) (bs : List ℕ) → length (short_deltas before bs) + count_ones (firsts bs) ≡ length bs
deltas_count before [] = (let none : count_ones 0 ≡ 0 = none_set in omega (arith, none))
deltas_count before (b ∷ bs) =
    ap (λ n. length (short_deltas before (b ∷ bs)) + n) (ones-mask_l_cons (is_first b) (map is_first bs))
    ∙ length_step (is_first b) _ (short_deltas b bs) (count_ones (firsts bs)) (length bs) (deltas_count b bs)

some_step : (before b : ℕ) (p q : Bool) (ds : List ℕ) → 0 < b → AllByRecursion (λ d. 0 < d) ds →
    AllByRecursion (λ d. 0 < d) (cond q ds ((before - 128 + cond p (128 * b) b) ∷ ds))
some_step before b p true ds some rest = rest
some_step before b true false ds some rest = (omega (arith, some), rest)
some_step before b false false ds some rest = (omega (arith, some), rest)

pub deltas_some : (before : ℕ) (bs : List ℕ) → are_short before bs ≡ true → AllByRecursion (λ d. 0 < d) (short_deltas before bs)
deltas_some before [] short = tt
deltas_some before (b ∷ bs) short =
    let p = parts before b bs short in
    some_step before b (is_first before) (is_first b) (short_deltas b bs) p.some (deltas_some b bs p.rest)

-- the last byte, and its bit
pub last_at : (before : ℕ) (v : List ℕ) (n : ℕ) → length v ≡ suc n → last_of before v ≡ get_or v n 0
last_at before [] n long = absurd (omega (arith, long))
last_at before (b ∷ []) zero long = refl
last_at before (b ∷ []) (suc n) long = absurd (omega (arith, long))
last_at before (b ∷ c ∷ bs) zero long = absurd (omega (arith, long))
last_at before (b ∷ c ∷ bs) (suc n) long = last_at b (c ∷ bs) n (omega (arith, long))

pub last_bit : (v : List ℕ) → length v ≡ 16 → firsts v / 2 ^ 15 ≡ bit (is_first (last_of 0 v))
last_bit v long =
    let below : firsts v < 2 ^ 16 = subst (λ n. firsts v < 2 ^ n) (length-map v is_first ∙ long) (mask_l-lt (map is_first v)) in
    let at : firsts v / 2 ^ 15 % 2 ≡ bit (is_first (last_of 0 v)) = bit_mask_l (map is_first v) 15
    ∙ ap bit (get_or-map is_first v 15 0 ∙ ap is_first (sym (last_at 0 v 15 long))) in
    omega (arith, below, at)

-- ---- operations on vectors

pub lanes_of_seconds : (v : List ℕ) → length v ≡ 16 → Each1 (λ b. b < 256) v →
    zip2 bit_and v (pick_l 0
    (sel_l (map (top 7) (zip2 (λ a b. cond (nat_le a b) 255 0) (replicate 16 128) v)) (replicate 16 255) (replicate 16 0) ++ replicate 16 0)
    (16 ∷ range_with_len 0 15)) ≡ second_bytes 0 v
lanes_of_seconds v long small =
    let is = tops_compared w8 nat_le (replicate 16 128) v ∙ zip2_splat_left nat_le 128 16 v long in
    let chosen : sel_l (map (top 7) (zip2 (λ a b. cond (nat_le a b) 255 0) (replicate 16 128) v)) (replicate 16 255) (replicate 16 0) ≡ map full v =
    ap (λ (ms : List Bool). sel_l ms (replicate 16 255) (replicate 16 0)) is ∙ selected v 16 long in
    let wide : length (map full v) ≡ 16 = length-map v full ∙ long in
    let all : List ℕ = map full v ++ replicate 16 0 in
    let many : length all ≡ 32 = length-append (map full v) (replicate 16 0) ∙ ap (λ n. n + 16) wide in
    ap (λ (fs : List ℕ). zip2 bit_and v (pick_l 0 (fs ++ replicate 16 0) (16 ∷ range_with_len 0 15))) chosen
    ∙ (λ i. zip2 bit_and v (past (map full v) wide i ∷ pick_l-range_with_len 0 all 0 15 (omega (arith, many)) i))
    ∙ shifted 0 v (replicate 16 0) 15 long small
  where
    past : (fs : List ℕ) → length fs ≡ 16 → get_or (fs ++ replicate 16 0) 16 0 ≡ 0
    past fs l = get_or-append_right fs (replicate 16 0) 16 16 0 l (omega arith)

pub sum_bounded : (v : List ℕ) → length v ≡ 16 → Each1 (Fits w8) v → sum_l v ≤ 4080
sum_bounded v long fits = (let b = sum_bound 255 v (bytes_below v fits) in omega (arith, b, long))

pub same_lanes : (v : List ℕ) → map (λ b. b) v ≡ v
same_lanes [] = refl
same_lanes (b ∷ bs) = ap (λ (rest : List ℕ). b ∷ rest) (same_lanes bs)

-- ---- the test

agree : (t s : Bool) → (t ≡ true → s ≡ true) → (s ≡ true → t ≡ true) → t ≡ s
agree true true f g = refl
agree true false f g = sym (f refl)
agree false true f g = g refl
agree false false f g = refl

doubled : (v : List ℕ) → length v ≡ 16 → firsts v * 2 % 2 ^ 64 ≡ bit (is_first 0) + 2 * firsts v
doubled v long =
    let below : firsts v < 2 ^ 16 = subst (λ n. firsts v < 2 ^ n) (length-map v is_first ∙ long) (mask_l-lt (map is_first v)) in
    omega (arith, below)

zero_mask : (v : List ℕ) → length v ≡ 16 →
    mask_l (map (top 7) (zip2 (λ a b. cond (eqb a b) 255 0) v (replicate 16 0))) % 2 ^ 64 ≡ mask_l (map is_zero v)
zero_mask v long = bitmask_splat w8 eqb v 16 0 long (omega arith)

pub short_by_zeros : (v : List ℕ) → length v ≡ 16 → bit_and (firsts v) (firsts v * 2 % 2 ^ 64) ≡ 0 →
    eqb (mask_l (map (top 7) (zip2 (λ a b. cond (eqb a b) 255 0) v (replicate 16 0))) % 2 ^ 64) 0 ≡ are_short 0 v
short_by_zeros v long apart =
    let sides : bit_and (firsts v) (bit (is_first 0) + 2 * firsts v) ≡ 0 = ap (bit_and (firsts v)) (sym (doubled v long)) ∙ apart in
    agree _ _
    (λ yes. short_from 0 v sides (sym (zero_mask v long) ∙ eqb-true _ 0 yes))
    (λ short. eq-eqb _ 0 (zero_mask v long ∙ short_nonzero 0 v short))

pub long_by_sides : (v : List ℕ) → length v ≡ 16 → (bit_and (firsts v) (firsts v * 2 % 2 ^ 64) ≡ 0 → ⊥) →
    eqb (bit_and (firsts v) (firsts v * 2 % 2 ^ 64)) 0 ≡ are_short 0 v
long_by_sides v long apart =
    agree _ _
    (λ yes. absurd (apart (eqb-true _ 0 yes)))
    (λ short. absurd (apart (ap (bit_and (firsts v)) (doubled v long) ∙ short_apart 0 v short)))

-- the second bytes are among the bytes
pub second_sum : (before : ℕ) (bs : List ℕ) → sum_l (second_bytes before bs) ≤ sum_l bs
second_sum before [] = omega arith
second_sum before (b ∷ bs) =
    let rest = second_sum b bs in
    at_most (is_first before) rest
  where
    at_most : (p : Bool) → sum_l (second_bytes b bs) ≤ sum_l bs → cond p b 0 + sum_l (second_bytes b bs) ≤ b + sum_l bs
    at_most true rest = omega (arith, rest)
    at_most false rest = omega (arith, rest)
