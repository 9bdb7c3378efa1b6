-- An expansion has at most two positions and three nodes for each unit of weight, and at most as many repeats as the weight.
use Rattle.std.proofs.Common.{◌≡◌, ℕ, zero, suc, ◌+◌, ◌-◌, ◌*◌, ◌≤◌, Bool, true, false, refl, ◌∙◌, ap, arith}
use Rattle.std.specs.Prelude.{Option, Some, None, nat_le, if◌then◌else◌}
use Rattle.cs_syntax.specs.Matching.{Tree, Trees, cat, alt, rep, none, more}
use Rattle.cs_syntax.specs.Weight.{weight, weights, times}
use Rattle.cs_match.specs.Glushkov.{position_count, position_count_of, repeats, repeats_of}
use Rattle.cs_match.specs.Size.{nodes, nodes_of, FitsWeight}
use Rattle.cs_match.specs.Expansion.{copies, optional, never, repeat_expansion, expansion, expansions}
use Rattle.std.proofs.lemmas.Bool.{leb-true}
use Rattle.cs_match.proofs.ExpansionLemmas.{alternation_is}

pub mul_both : (k p t w : ℕ) → k ≤ t → p ≤ w → k * p ≤ t * w
mul_both k p t w h g = grind arith

pub scaled : (i n k : ℕ) → i ≤ n → i * k ≤ n * k
scaled i n k h = mul_both i k n k h (omega arith)

shared : (n d p : ℕ) → n * p + d * p ≡ (n + d) * p
shared n d p = omega arith

positions_copies : (n : ℕ) (t : Tree) (rest : Trees) → position_count_of (copies n t rest) ≡ n * position_count t + position_count_of rest
positions_copies zero t rest = omega arith
positions_copies (suc n) t rest = omega (arith, positions_copies n t rest)

chosen_light : (x : Tree) (n m : ℕ) (b : Bool) → nat_le n m ≡ b →
    position_count (if b then cat (copies n x (copies (m - n) (optional x) none)) else never) ≤ m * position_count x
chosen_light x n m false e = omega arith
chosen_light x n m true e =
    let le : n ≤ m = leb-true n m e in
    let d = m - n in
    let split : n + d ≡ m = omega arith in
    let shape : n * position_count x + d * position_count x ≡ m * position_count x = shared n d (position_count x)
    ∙ ap (λ k. k * position_count x) split in
    omega (arith, positions_copies n x (copies d (optional x) none), positions_copies d (optional x) none, shape)

repeat_light : (x : Tree) (n : ℕ) (m : Option ℕ) (w : ℕ) → position_count x ≤ w →
    position_count (repeat_expansion x n m) ≤ 1 + times n m * w
repeat_light x zero None w le = omega (arith, mul_both 1 (position_count x) (times zero None) w (omega arith) le)
repeat_light x (suc n) None w le =
    omega (
      arith,
      positions_copies n x (more (rep x 1 None) none),
      mul_both (suc n) (position_count x)
          (times (suc n) None) w (omega arith) le,
    )
repeat_light x n (Some m) w le =
    omega (arith, chosen_light x n m (nat_le n m) refl, mul_both m (position_count x) (times n (Some m)) w (omega arith) le)

-- two positions for each iteration of each part
each_round : (t w : ℕ) → 1 + t * (2 * w) ≤ 2 * (1 + t * w)
each_round t w = omega arith

mutual
  pub positions_light : (t : Tree) → position_count (expansion t) ≤ 2 * weight t
  positions_light (cat ts) = omega (arith, all_light ts)
  positions_light (alt ts) =
      alternation_is (λ t. position_count t ≤ 2 * weight (alt ts)) (expansions ts) (omega (arith, all_light ts)) (λ set. omega arith)
  positions_light (rep x n m) =
      omega (arith, repeat_light (expansion x) n m (2 * weight x) (positions_light x), each_round (times n m) (weight x))
  positions_light leaf = omega arith

  pub all_light : (ts : Trees) → position_count_of (expansions ts) ≤ 2 * weights ts
  all_light none = omega arith
  all_light (more t ts) = omega (arith, positions_light t, all_light ts)

repeats_copies : (n : ℕ) (t : Tree) (rest : Trees) → repeats_of (copies n t rest) ≡ n * repeats t + repeats_of rest
repeats_copies zero t rest = omega arith
repeats_copies (suc n) t rest = omega (arith, repeats_copies n t rest)

chosen_few : (x : Tree) (n m : ℕ) (b : Bool) → nat_le n m ≡ b →
    repeats (if b then cat (copies n x (copies (m - n) (optional x) none)) else never) ≤ m * repeats x
chosen_few x n m false e = omega arith
chosen_few x n m true e =
    let le : n ≤ m = leb-true n m e in
    let d = m - n in
    let split : n + d ≡ m = omega arith in
    let shape : n * repeats x + d * repeats x ≡ m * repeats x = shared n d (repeats x) ∙ ap (λ k. k * repeats x) split in
    omega (arith, repeats_copies n x (copies d (optional x) none), repeats_copies d (optional x) none, shape)

repeat_few : (x : Tree) (n : ℕ) (m : Option ℕ) (w : ℕ) → repeats x ≤ w → repeats (repeat_expansion x n m) ≤ 1 + times n m * w
repeat_few x zero None w le = omega (arith, mul_both 1 (repeats x) (times zero None) w (omega arith) le)
repeat_few x (suc n) None w le =
    omega (arith, repeats_copies n x (more (rep x 1 None) none), mul_both (suc n) (repeats x) (times (suc n) None) w (omega arith) le)
repeat_few x n (Some m) w le =
    omega (arith, chosen_few x n m (nat_le n m) refl, mul_both m (repeats x) (times n (Some m)) w (omega arith) le)

mutual
  pub repeats_light : (t : Tree) → repeats (expansion t) ≤ weight t
  repeats_light (cat ts) = omega (arith, all_repeats_light ts)
  repeats_light (alt ts) =
      alternation_is (λ t. repeats t ≤ weight (alt ts)) (expansions ts) (omega (arith, all_repeats_light ts)) (λ set. omega arith)
  repeats_light (rep x n m) = repeat_few (expansion x) n m (weight x) (repeats_light x)
  repeats_light leaf = omega arith

  pub all_repeats_light : (ts : Trees) → repeats_of (expansions ts) ≤ weights ts
  all_repeats_light none = omega arith
  all_repeats_light (more t ts) = omega (arith, repeats_light t, all_repeats_light ts)

nodes_copies : (n : ℕ) (t : Tree) (rest : Trees) → nodes_of (copies n t rest) ≡ n * nodes t + nodes_of rest
nodes_copies zero t rest = omega arith
nodes_copies (suc n) t rest = omega (arith, nodes_copies n t rest)

-- an optional copy has two nodes more
chosen_small : (x : Tree) (n m : ℕ) (b : Bool) → nat_le n m ≡ b →
    nodes (if b then cat (copies n x (copies (m - n) (optional x) none)) else never) ≤ 1 + m * (nodes x + 2)
chosen_small x n m false e = omega arith
chosen_small x n m true e =
    let le : n ≤ m = leb-true n m e in
    let d = m - n in
    let split : n + d ≡ m = omega arith in
    let fewer : n * nodes x ≤ n * (nodes x + 2) = mul_both n (nodes x) n (nodes x + 2) (omega arith) (omega arith) in
    let shape : n * (nodes x + 2) + d * (nodes x + 2) ≡ m * (nodes x + 2) = shared n d (nodes x + 2) ∙ ap (λ k. k * (nodes x + 2)) split in
    omega (arith, nodes_copies n x (copies d (optional x) none), nodes_copies d (optional x) none, fewer, shape)

repeat_small : (x : Tree) (n : ℕ) (m : Option ℕ) (w : ℕ) → nodes x + 2 ≤ w → nodes (repeat_expansion x n m) ≤ 1 + times n m * w
repeat_small x zero None w le = omega (arith, mul_both 1 (nodes x + 2) (times zero None) w (omega arith) le)
repeat_small x (suc n) None w le =
    let fewer : n * nodes x ≤ n * (nodes x + 2) = mul_both n (nodes x) n (nodes x + 2) (omega arith) (omega arith) in
    omega (
      arith,
      nodes_copies n x (more (rep x 1 None) none),
      fewer,
      mul_both (suc n) (nodes x + 2)
          (times (suc n) None) w (omega arith) le,
    )
repeat_small x n (Some m) w le =
    omega (arith, chosen_small x n m (nat_le n m) refl, mul_both m (nodes x + 2) (times n (Some m)) w (omega arith) le)

-- three nodes for each iteration of each part
each_copy : (t w : ℕ) → 3 + t * (3 * w) ≤ 3 * (1 + t * w)
each_copy t w = omega arith

mutual
  nodes_small : (t : Tree) → nodes (expansion t) + 2 ≤ 3 * weight t
  nodes_small (cat ts) = omega (arith, all_small ts)
  nodes_small (alt ts) =
      alternation_is (λ t. nodes t + 2 ≤ 3 * weight (alt ts)) (expansions ts) (omega (arith, all_small ts)) (λ set. omega arith)
  nodes_small (rep x n m) =
      omega (arith, repeat_small (expansion x) n m (3 * weight x) (nodes_small x), each_copy (times n m) (weight x))
  nodes_small leaf = omega arith

  all_small : (ts : Trees) → nodes_of (expansions ts) ≤ 3 * weights ts
  all_small none = omega arith
  all_small (more t ts) = omega (arith, nodes_small t, all_small ts)

pub is_small : (t : Tree) → FitsWeight (expansion t) t
is_small t = record { positions = positions_light t; nodes = omega (arith, nodes_small t) }
