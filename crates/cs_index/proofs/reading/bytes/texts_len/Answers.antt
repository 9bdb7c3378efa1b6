use Rattle.std.proofs.Common.{◌≡◌, ◌≢◌, ◌≤◌, ◌<◌, ◌+◌, ◌-◌, ℕ, zero, suc, List, length, get_or, inl, inr, arith, ap, sym, subst, ◌∙◌}
use Rattle.std.specs.Prelude.{IfSome}
use Rattle.std.proofs.lemmas.Bool.{eq-eqb, eqb-true}
use Rattle.memchr.specs.Find.{IsLastByte, is_byte}
use Rattle.cs_index.specs.Nuls.{AreTextsTo, IsPairAt}
use Rattle.cs_index.proofs.reading.bytes.texts_len.Goals as goal
use Rattle.cs_index.proofs.reading.bytes.texts_len.Goals.{in-Some, in-None}

module _ (bytes : List ℕ) (first : get_or bytes 0 0 ≢ 0) where
  -- a NUL ends a string if no two NULs are before it
  ends_text : (nul : ℕ) → nul < length bytes → ((k : ℕ) → k < nul → IsPairAt bytes k → ⊥) → (k : ℕ) → k < nul + 1 →
      (get_or bytes k 0 ≡ 0) × (0 < k → get_or bytes (k - 1) 0 ≡ 0) → ⊥
  ends_text nul within none zero low is = first is.0
  ends_text nul within none (suc k) low is =
      none k (omega (arith, low)) (record {
        within = omega (arith, within, low);
        first = ap (λ n. get_or bytes n 0) (let z : k ≡ suc k - 1 = omega arith in z) ∙ is.1 (omega arith);
        second = ap (λ n. get_or bytes n 0) (let z : k + 1 ≡ suc k = omega arith in z) ∙ is.0;
      })

  to_pair : (pair : ℕ) → IsPairAt bytes pair → ((k : ℕ) → k < pair → IsPairAt bytes k → ⊥) → AreTextsTo bytes (pair + 1)
  to_pair pair is none = record {
    within = omega (arith, is.within);
    ended = λ _. ap (λ n. get_or bytes n 0) (let z : pair + 1 - 1 ≡ pair = omega arith in z) ∙ is.first;
    each = ends_text pair (omega (arith, is.within)) none;
    rest = inl (is.within, is.second);
  }

  to_last : (nul : ℕ) → nul < length bytes → get_or bytes nul 0 ≡ 0 → ((k : ℕ) → nul + 1 ≤ k → k < length bytes → get_or bytes k 0 ≢ 0) →
      ((k : ℕ) → IsPairAt bytes k → ⊥) → AreTextsTo bytes (nul + 1)
  to_last nul within is after none = record {
    within = omega (arith, within);
    ended = λ _. ap (λ n. get_or bytes n 0) (let z : nul + 1 - 1 ≡ nul = omega arith in z) ∙ is;
    each = ends_text nul within (λ k low. none k);
    rest = inr after;
  }

pub returns-in-Some-last : goal.returns-in-Some-last
returns-in-Some-last c =
    let bytes : List ℕ = c.args.bytes.now in
    elim c.match-first_pair.branch [
      | in-Some w ↦ subst (λ o. IfSome o (λ n. AreTextsTo bytes (n + 1))) (sym w.last-is ∙ c.in-Some-last.is)
          (to_pair bytes c.if-bytes-eq0.false w.in-Some.pair w.in-Some.ensures.some w.in-Some.ensures.first)
      | in-None w ↦ let last = subst (IsLastByte (is_byte 0) bytes) (sym w.last-is ∙ c.in-Some-last.is) w.memrchr-last.ensures in
          to_last bytes c.if-bytes-eq0.false c.in-Some-last.nul last.0.high (eqb-true (get_or bytes c.in-Some-last.nul 0) 0 last.1)
          (λ k low high e. last.0.after k low high (eq-eqb (get_or bytes k 0) 0 e)) w.in-None.ensures.none
    ]
