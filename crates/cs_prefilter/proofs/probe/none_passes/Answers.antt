use Rattle.std.proofs.Common.{◌≡◌, ◌+◌, ◌-◌, ◌<◌, ℕ, ap, subst, ◌∙◌, inl, inr, get_or, arith}
use Rattle.std.proofs.lemmas.Bool.{cases_lt, eqb-true}
use Rattle.std.proofs.lemmas.Nat.{le_or_l, le_or_r}
use Rattle.std.proofs.lemmas.Nat.Bits.{bit_at-zero}
use Rattle.std.specs.Int.{bit_at}
use Rattle.cs_prefilter.specs.WordAt.{WordAt}
use Rattle.cs_prefilter.proofs.probe.none_passes.Goals as goal

pub returns : goal.returns
returns g c is k bucket word low high has occurs =
    let at = c.args.offset in
    let here = λ (n : ℕ) (same : k ≡ n). subst (λ (j : ℕ). WordAt c.args.text.now j word) same occurs in
    let clear = λ (j : ℕ). ap (λ m. bit_at m j) (eqb-true c.nonzero.result 0 is) ∙ bit_at-zero j in
    elim (cases_lt (k - at) 32) [
      | inl below ↦
          let j = k - at in
          let some = c.lanes.ensures j bucket word below has (here (at + j) (omega (arith, low))) in
          let lane : 0 < get_or c.lanes.result j 0 = omega (arith, some) in
          absurd (omega (
            arith,
            clear j,
            (c.nonzero.ensures j).1 (λ zero. absurd (omega (
              arith,
              zero,
              lane,
              c.either.ensures.each j below,
              le_or_l (get_or c.lanes.result j 0) (get_or c.lanes-2.result j 0),
            ))),
          ))
      | inr past ↦
          let j = k - at - 32 in
          let below : j < 32 = omega (arith, high, past) in
          let some = c.lanes-2.ensures j bucket word below has (here (at + 32 + j) (omega (arith, low, past))) in
          let lane : 0 < get_or c.lanes-2.result j 0 = omega (arith, some) in
          absurd (omega (
            arith,
            clear j,
            (c.nonzero.ensures j).1 (λ zero. absurd (omega (
              arith,
              zero,
              lane,
              c.either.ensures.each j below,
              le_or_r (get_or c.lanes.result j 0) (get_or c.lanes-2.result j 0),
            ))),
          ))
    ]
