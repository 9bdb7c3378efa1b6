-- The work of passes.
use Rattle.std.proofs.Common.{◌≡◌, ℕ, zero, suc, ◌+◌, ◌-◌, ◌*◌, ◌^◌, ◌<◌, ◌≤◌, ap, arith}
use Rattle.cs_syntax.specs.Matching.{Tree}
use Rattle.cs_match.specs.Passes.{HasRead}
use Rattle.cs_match.specs.SpanList.{finding_of}
use Rattle.cs_match.specs.SpanWork.{ReadsAtMost, pass_work, pass_bytes, find_bytes}
use Rattle.cs_match.specs.declared.spans.pass.Pass.{Pass}
use Rattle.std.proofs.Math.Nat.{pow-suc}
use Rattle.cs_match.proofs.PositionCountLemmas.{scaled}

spread : (a b w : ℕ) → (a + b) * w ≡ a * w + b * w
spread a b w = omega arith

module _ (t : Tree) where
  pub read_none : (p : Pass) → HasRead t 0 p p
  read_none p = record {
    bytes = 0;
    few = omega arith;
    read = omega arith;
    left = omega arith;
    low = omega arith;
    high = omega arith;
  }

  pub read_more : (a b : ℕ) (p q r : Pass) → HasRead t a p q → HasRead t b q r → HasRead t (a + b) p r
  read_more a b p q r g h = record {
    bytes = g.bytes + h.bytes;
    few = omega (arith, g.few, h.few);
    read = omega (arith, g.read, h.read);
    left = omega (arith, g.left, h.left);
    low = omega (arith, g.low, h.low);
    high = omega (arith, g.high, h.high, spread g.bytes h.bytes (pass_work t));
  }

  pub read_up : (a b : ℕ) (p q : Pass) → a ≤ b → HasRead t a p q → HasRead t b p q
  read_up a b p q le h = record {
    bytes = h.bytes;
    few = omega (arith, h.few, le);
    read = h.read;
    left = h.left;
    low = h.low;
    high = h.high;
  }

  -- one more pass
  pub read_on : (a b c : ℕ) (p q r : Pass) → a + b ≤ c → HasRead t a p q → HasRead t b q r → HasRead t c p r
  read_on a b c p q r le g h = read_up (a + b) c p r le (read_more a b p q r g h)

  -- The bisection of an interval that had fewer than 2^k offsets has so many left, after a pass for each half.
  pub record IsHalved (bytes k size : ℕ) (old new : Pass) : Type 0 where
    pub exponent : ℕ
    pub few : exponent ≤ k
    pub left : size < 2 ^ exponent
    pub read : HasRead t ((k - exponent) * pass_bytes bytes) old new

  pub whole_interval : (bytes k left : ℕ) (p : Pass) → left < 2 ^ k → IsHalved bytes k left p p
  whole_interval bytes k left p few =
      record { exponent = k; few = omega arith; left = few; read = read_up 0 ((k - k) * pass_bytes bytes) p p (omega arith) (read_none p) }

  module _ (bytes k left rest : ℕ) (p q r : Pass) (some : 0 < left) (half : 2 * rest ≤ left) (next : HasRead t (pass_bytes bytes) q r) where
    halve_at : (e : ℕ) → e ≤ k → left < 2 ^ e → HasRead t ((k - e) * pass_bytes bytes) p q → IsHalved bytes k rest p r
    halve_at zero few lt read = absurd (omega (arith, some, lt))
    halve_at (suc e) few lt read =
        let b = pass_bytes bytes in
        let one : (k - suc e) + 1 ≡ k - e = omega (arith, few) in
        let more : (k - suc e) * b + b ≤ (k - e) * b = omega (arith, spread (k - suc e) 1 b, ap (λ n. n * b) one) in
        record {
          exponent = e;
          few = omega (arith, few);
          left = omega (arith, lt, pow-suc 2 e, half);
          read = read_on ((k - suc e) * b) b ((k - e) * b) p q r more read next;
        }

    pub halve : IsHalved bytes k left p q → IsHalved bytes k rest p r
    halve h = halve_at h.exponent h.few h.left h.read

  pub halved : (bytes k left : ℕ) (p q : Pass) → IsHalved bytes k left p q → HasRead t (k * pass_bytes bytes) p q
  halved bytes k left p q h =
      read_up ((k - h.exponent) * pass_bytes bytes) (k * pass_bytes bytes) p q (scaled (k - h.exponent) k (pass_bytes bytes) (omega arith)) h.read

  -- the passes of one search
  module _ (bytes k : ℕ) (p q r : Pass) where
    pub search_none : HasRead t (find_bytes k bytes) p p
    search_none = read_up 0 (find_bytes k bytes) p p (omega arith) (read_none p)

    pub search_one : HasRead t (pass_bytes bytes) p q → HasRead t (find_bytes k bytes) p q
    search_one g =
        let b = pass_bytes bytes in
        read_up b (find_bytes k bytes) p q (omega (arith, spread k 3 b)) g

    pub search_two : HasRead t (pass_bytes bytes) p q → HasRead t (pass_bytes bytes) q r → HasRead t (find_bytes k bytes) p r
    search_two g h =
        let b = pass_bytes bytes in
        read_on b b (find_bytes k bytes) p q r (omega (arith, spread k 3 b)) g h

    pub search_all : (u v : Pass) → HasRead t (pass_bytes bytes) p q → HasRead t (pass_bytes bytes) q r →
        HasRead t (k * pass_bytes bytes) r u → HasRead t (pass_bytes bytes) u v → HasRead t (find_bytes k bytes) p v
    search_all u v g h i j =
        let b = pass_bytes bytes in
        read_on (b + (b + k * b)) b (find_bytes k bytes) p u v (omega (arith, spread k 3 b))
        (read_more b (b + k * b) p q u g (read_more b (k * b) q r u h i)) j

  -- the bytes of the budget, as long as it has some left
  pub in_budget : (most : ℕ) (p q : Pass) → 0 < q.left → HasRead t most p q → HasRead t p.left p q
  in_budget most p q some h =
      record {
        bytes = h.bytes;
        few = omega (arith, some, h.left);
        read = h.read;
        left = h.left;
        low = h.low;
        high = h.high;
      }

  pub budget_none : (more : ℕ) (p : Pass) → HasRead t (p.left + more) p p
  budget_none more p = read_up 0 (p.left + more) p p (omega arith) (read_none p)

  pub spent : (most : ℕ) (p q : Pass) → q.left ≡ 0 → HasRead t most p q → p.read.count + p.left ≤ q.read.count
  spent most p q none h = omega (arith, none, h.left, h.read)

  -- what contracts see of it
  pub counted : (most : ℕ) (p q : Pass) → HasRead t most p q →
      ReadsAtMost most (finding_of t p) (finding_of t q)
  counted most p q h = record {
    on = omega (arith, h.read);
    few = omega (arith, h.read, h.few);
    low = omega (arith, h.low);
    high = omega (arith, h.high, scaled h.bytes most (pass_work t) h.few);
  }

-- an exponent for each length
pub some_power : (n : ℕ) → n < 2 ^ n
some_power zero = omega arith
some_power (suc n) = omega (arith, some_power n, pow-suc 2 n)
