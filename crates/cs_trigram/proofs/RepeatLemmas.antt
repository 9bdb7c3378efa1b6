-- The exact strings of repeats.
use Rattle.std.proofs.Common.{◌≡◌, ℕ, zero, suc, ◌+◌, ◌≤◌, List, [], ◌++◌, arith}
use Rattle.cs_trigram.specs.MayMatch.{IsRepeated}

-- at least `least` iterations and at most `most`
abbrev pub SomeIterations : (List ℕ → Type 0) → ℕ → ℕ → List ℕ → Type 0
SomeIterations P least most string = (k : ℕ) × (least ≤ k) × (k ≤ most) × IsRepeated P k string

module _ (P : List ℕ → Type 0) where
  pub no_iteration : (w : List ℕ) → SomeIterations P 0 0 w → w ≡ []
  no_iteration w h = by h.0 h.2 h.3
    where
      by : (k : ℕ) → k ≤ 0 → IsRepeated P k w → w ≡ []
      by zero le r = r
      by (suc k) le r = absurd (omega arith)

  module _ (least most : ℕ) where
    abbrev pub Longer : List ℕ → Type 0
    Longer w = (u v : List ℕ) × P u × SomeIterations P least most v × (w ≡ u ++ v)

    pub longer_iterations : (w : List ℕ) → Longer w → SomeIterations P (least + 1) (most + 1) w
    longer_iterations w l = (suc l.3.0, omega (arith, l.3.1), omega (arith, l.3.2), (l.0, l.1, l.2, l.3.3, l.4))

    pub iterations_longer : (w : List ℕ) (k : ℕ) → least + 1 ≤ k → k ≤ most + 1 → IsRepeated P k w → Longer w
    iterations_longer w zero a b r = absurd (omega arith)
    iterations_longer w (suc k) a b r = (r.0, r.1, r.2, (k, omega (arith, a), omega (arith, b), r.3), r.4)
