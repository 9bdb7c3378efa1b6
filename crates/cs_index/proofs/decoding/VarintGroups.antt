-- Decoding a varint byte by byte.
use Rattle.std.proofs.Common.{◌≡◌, ℕ, zero, suc, ◌+◌, ◌-◌, ◌*◌, ◌<◌, ◌≤◌, ◌^◌, cond, List, [], ◌∷◌, drop, Some, sym, ap, subst, ◌∙◌, arith, slice_get}
use Rattle.cs_index.specs.PostingLists.{varint_at}
use Rattle.std.proofs.lemmas.Bool.{le-ltb}
use Rattle.std.proofs.Math.Nat.{pow-succ'}
use Rattle.std.proofs.lemmas.List.{drop-drop}
use Rattle.std.specs.Prelude.{option_map}

-- with one more byte allowed
pub room_more : (room : ℕ) → 1 ≤ room → 128 ^ room ≡ 128 * 128 ^ (room - 1)
room_more zero h = absurd (omega (arith, h))
room_more (suc room) h = pow-succ' 128 room ∙ ap (λ k. 128 * 128 ^ k) (let z : room ≡ suc room - 1 = omega arith in z)

pub room_five : (room : ℕ) → room ≤ 5 → 128 ^ room ≤ 34359738368
room_five zero h = omega arith
room_five (suc zero) h = omega arith
room_five (suc (suc zero)) h = omega arith
room_five (suc (suc (suc zero))) h = omega arith
room_five (suc (suc (suc (suc zero)))) h = omega arith
room_five (suc (suc (suc (suc (suc zero))))) h = omega arith
room_five (suc (suc (suc (suc (suc (suc room)))))) h = absurd (omega (arith, h))

pub group_more : (room : ℕ) (bytes rest : List ℕ) (b high len : ℕ) → 1 ≤ room → slice_get bytes 0 ≡ Some b → 128 ≤ b →
    varint_at (room - 1) (drop 1 bytes) ≡ Some (high, rest) → varint_at room bytes ≡ Some (b - 128 + 128 * high, rest)
group_more zero bytes rest b high len h first large more = absurd (omega (arith, h))
group_more (suc room) [] rest b high len h first large more = cc
group_more (suc room) (c ∷ bytes) rest b high len h first large more =
    let is : c ≡ b = cc in
    let down : suc room - 1 ≡ room = omega arith in
    ap (λ t. cond t (Some (c, bytes)) (option_map (λ (found : ℕ × List ℕ). (c - 128 + 128 * found.0, found.1))
    (varint_at room bytes))) (le-ltb c 128 (subst (λ n. 128 ≤ n) (sym is) large))
    ∙ ap (option_map (λ (found : ℕ × List ℕ). (c - 128 + 128 * found.0, found.1))) (ap (λ k. varint_at k bytes) (sym down) ∙ more)
    ∙ ap (λ n. Some (n - 128 + 128 * high, rest)) is

pub one_group : (room b : ℕ) → 1 ≤ room → b < 128 → b < 128 ^ room
one_group room b h small =
    let more = room_more room h in
    let some : 1 ≤ 128 ^ (room - 1) = power_some (room - 1) in
    omega (arith, more, some, small)
  where
    power_some : (n : ℕ) → 1 ≤ 128 ^ n
    power_some zero = omega arith
    power_some (suc n) = let rest = power_some n in let one = pow-succ' 128 n in omega (arith, rest, one)

-- two prefixes dropped one after the other
pub drop_more : (len : ℕ) (bytes : List ℕ) → drop len (drop 1 bytes) ≡ drop (len + 1) bytes
drop_more len bytes = drop-drop len 1 bytes ∙ ap (λ n. drop n bytes) (let z : 1 + len ≡ len + 1 = omega arith in z)
