use Rattle.std.proofs.Common.{rules, ◌≡◌, ◌≤◌, ◌<◌, ◌+◌, ◌-◌, ℕ, List, length, get_or, take, drop, inl, inr, arith, ap, ◌∙◌, false, length-drop, length-take-le}
use Rattle.std.proofs.lemmas.Bool.{cases_lt}
use Rattle.std.proofs.lemmas.List.{get_or-drop, get_or-take}
use Rattle.cs_index.specs.Nuls.{IsPairAt}
use Rattle.cs_index.proofs.reading.bytes.first_pair.Goals as goal

-- two NULs lie in a span that has both
in_span : (bytes : List ℕ) (at to k : ℕ) → at ≤ k → k + 1 < to → to ≤ length bytes → IsPairAt bytes k →
    IsPairAt (take (to - at) (drop at bytes)) (k - at)
in_span bytes at to k low high end is =
    let d = length-drop at bytes in
    let t = length-take-le (to - at) (drop at bytes) (omega (arith, d, low, high, end)) in
    let byte : (j : ℕ) → at ≤ j → j < to → get_or (take (to - at) (drop at bytes)) (j - at) 0 ≡ get_or bytes j 0 =
    λ j from below. get_or-take (to - at) (drop at bytes) (j - at) 0 (omega (arith, from, below))
    ∙ get_or-drop at bytes (j - at) 0 ∙ ap (λ n. get_or bytes n 0) (let z : at + (j - at) ≡ j = omega (arith, from) in z) in
    record {
      within = omega (arith, t, low, high);
      first = byte k low (omega (arith, high)) ∙ is.first;
      second = ap (λ n. get_or (take (to - at) (drop at bytes)) n 0) (let z : k - at + 1 ≡ k + 1 - at = omega (arith, low) in z)
          ∙ byte (k + 1) (omega (arith, low)) high ∙ is.second;
    }

pub spans-preserved : goal.spans-preserved
spans-preserved c =
    let bytes : List ℕ = c.args.bytes.now in
    let at : ℕ = c.spans.at in
    let to : ℕ = c.min.result in
    let none : c.has_pair.result ≡ false = search rules in
    let within : to ≤ length bytes = search rules in
    λ k low is. elim (cases_lt k at) [
      | inl before ↦ c.spans.invariant k before is
      | inr from ↦ let pair = is.within in let after : at ≤ k = omega (arith, from) in let far : k + 1 < to = search rules in
          c.has_pair.ensures none (k - at) (in_span bytes at to k after far within is)
    ]
