use Rattle.std.proofs.Common.{◌≡◌, ◌⊎◌, ◌+◌, ◌-◌, ◌≤◌, ◌<◌, ◌∙◌, ℕ, false, inl, inr, length, set, get_or, sym, ap, arith, length-set, get_or-set_same, get_or-set_other}
use Rattle.std.proofs.lemmas.Bool.{cases_lt, ne_eqb}
use Rattle.cs_match.specs.ByteClasses.{begins_at}
use Rattle.cs_match.proofs.ByteClassLemmas.{numbered_on}
use Rattle.cs_match.proofs.byte_classes.number_classes.Goals as goal
use Rattle.cs_match.proofs.byte_classes.number_classes.Goals.{then-begins-byte-eq1, else-begins-byte-eq1}

pub loop-byte-preserved : goal.loop-byte-preserved
loop-byte-preserved c =
    let i = c.loop-byte.invariant in
    let begins = c.args.begins.now in
    let old = c.loop-byte.of in
    let byte = c.loop-byte.byte in
    let last = c.loop-byte.last in
    let now = c.if-begins-byte-eq1.last in
    let new = set old byte now in
    let size = length-set old byte now in
    let step : (now ≡ last + 1) ⊎ ((now ≡ last) × (begins_at begins byte ≡ false)) =
    elim c.if-begins-byte-eq1.branch [
      | then-begins-byte-eq1 w ↦ inl w.last-is
      | else-begins-byte-eq1 w ↦ inr (w.last-is, ne_eqb (get_or begins byte 0) 1 w.if-begins-byte-eq1.false)
    ] in
    let rises : last ≤ now = elim step [ inl more ↦ omega (arith, more) | inr same ↦ omega (arith, same.0) ] in
    let bound : now ≤ byte = elim step [ inl more ↦ omega (arith, more, i.low) | inr same ↦ omega (arith, same.0, i.low) ] in
    let here : now ≡ last → begins_at begins byte ≡ false = λ e. elim step [ inl more ↦ absurd (omega (arith, more, e)) | inr same ↦ same.1 ] in
    let within : byte < length old = omega (arith, i.size, c.loop-byte-test.true) in
    let last_is : get_or new byte 0 ≡ now = get_or-set_same old byte now 0 within in
    let kept : (b : ℕ) → b < byte → get_or new b 0 ≡ get_or old b 0 = λ b lt. get_or-set_other old byte b now 0 (λ e. omega (arith, e, lt)) in
    let next : byte + 1 - 1 ≡ byte = omega arith in
    let first = c.if-begins-byte-eq1.first in
    let firsts = set c.loop-byte.firsts byte first in
    let first_is : (first < byte + 1) × (get_or new first 0 ≡ now) =
    elim c.if-begins-byte-eq1.branch [
      | then-begins-byte-eq1 w ↦ (omega (arith, w.first-is), ap (λ (k : ℕ). get_or new k 0) w.first-is ∙ last_is)
      | else-begins-byte-eq1 w ↦ (
        omega (arith, w.first-is, i.first.0),
        ap (λ (k : ℕ). get_or new k 0) w.first-is ∙ kept c.loop-byte.first i.first.0 ∙ i.first.1 ∙ sym w.last-is,
      )
    ] in
    record {
      size = omega (arith, size, i.size);
      some = omega arith;
      low = omega (arith, bound);
      top = ap (λ (k : ℕ). get_or new k 0) next ∙ last_is;
      below = λ b lt. elim (cases_lt b byte) [
        | inl less ↦ omega (arith, kept b less, i.below b less, rises)
        | inr ge ↦
            let same : b ≡ byte = omega (arith, ge, lt) in
            omega (arith, ap (λ (k : ℕ). get_or new k 0) same, last_is)
      ];
      size_firsts = length-set c.loop-byte.firsts byte first ∙ i.size_firsts;
      first = first_is;
      firsts = λ b lt. elim (cases_lt b byte) [
        | inl less ↦
            let old_first = i.firsts b less in
            let same = get_or-set_other c.loop-byte.firsts byte b first 0 (λ e. omega (arith, e, less)) in (
              omega (arith, same, old_first.0),
              ap (λ (k : ℕ). get_or new k 0) same ∙ kept (get_or c.loop-byte.firsts b 0) (omega (arith, old_first.0, less)) ∙ old_first.1
                  ∙ sym (kept b less),
            )
        | inr ge ↦
            let at : b ≡ byte = omega (arith, ge, lt) in
            let same : get_or firsts b 0 ≡ first = ap (λ (k : ℕ). get_or firsts k 0) at
            ∙ get_or-set_same c.loop-byte.firsts byte first 0 (omega (arith, i.size_firsts, c.loop-byte-test.true)) in (
              omega (arith, same, first_is.0, at),
              ap (λ (k : ℕ). get_or new k 0) same ∙ first_is.1 ∙ sym last_is ∙ sym (ap (λ (k : ℕ). get_or new k 0) at),
            )
      ];
      none = numbered_on begins old new byte last now i.some i.top i.below i.none kept last_is here rises;
    }

pub returns : goal.returns
returns c =
    let i = c.loop-byte.invariant in
    record {
      none = λ b k at from to lt same. i.none b k at from to (omega (arith, lt, c.loop-byte-test.false)) same;
      firsts = record { first = λ b lt. i.firsts b (omega (arith, lt, c.loop-byte-test.false)) };
      range = λ b lt. omega (arith, i.below b (omega (arith, lt, c.loop-byte-test.false)), c.from-count.ensures);
      few = omega (arith, c.from-count.ensures);
    }
