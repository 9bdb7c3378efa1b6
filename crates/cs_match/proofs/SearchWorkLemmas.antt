-- Bounds on the work of searches: products of bytes and the work of a byte.
use Rattle.std.proofs.Common.{◌≡◌, ℕ, ◌+◌, ◌-◌, ◌*◌, ◌≤◌, ◌∙◌, ap, arith}
use Rattle.cs_match.proofs.PositionCountLemmas.{mul_both}

-- the work of two neighbouring parts
pub joined : (i k w : ℕ) → i ≤ k → i * w + (k - i) * w ≡ k * w
joined i k w low =
    let d = k - i in
    let split : i + d ≡ k = omega arith in
    let both : i * w + d * w ≡ (i + d) * w = omega arith in
    both ∙ ap (λ n. n * w) split

-- a candidate whose line is tested
pub candidate_cost : (from start end w : ℕ) → from ≤ start → start ≤ end →
    2 * 2113 * (end + 1 - from) + w * (end + 1 - start) ≤ (end + 1 - from) * (w + 2 * 2113)
candidate_cost from start end w low order =
    let b = end + 1 - from in
    let spread : b * (w + 2 * 2113) ≡ w * b + 2 * 2113 * b = omega arith in
    omega (arith, mul_both w (end + 1 - start) w b (omega arith) (omega arith), spread)

-- bytes that are skipped
pub skipped_cost : (b w : ℕ) → 2 * 2113 * b ≤ b * (w + 2 * 2113)
skipped_cost b w =
    let spread : b * (w + 2 * 2113) ≡ w * b + 2 * 2113 * b = omega arith in
    omega (arith, spread)

-- the work of some bytes and of the next ones, of a constant for each
pub work_on : (from offset to w : ℕ) → from ≤ offset → offset ≤ to → (offset - from) * w + (to - offset) * w ≡ (to - from) * w
work_on from offset to w low order =
    let p = offset - from in
    let q = to - offset in
    let split : p + q ≡ to - from = omega arith in
    let both : p * w + q * w ≡ (p + q) * w = omega arith in
    both ∙ ap (λ n. n * w) split
