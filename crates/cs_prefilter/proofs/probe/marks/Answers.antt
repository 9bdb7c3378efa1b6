use Rattle.std.proofs.Common.{◌≡◌, ◌+◌, ◌-◌, ◌*◌, ◌%◌, ◌^◌, ℕ, subst, inl, inr, bit_or, arith}
use Rattle.std.proofs.lemmas.Bool.{cases_lt}
use Rattle.std.specs.Int.{bit_at}
use Rattle.cs_prefilter.specs.WordAt.{WordAt}
use Rattle.cs_prefilter.proofs.BitLemmas.{in_either, in_upper_half}
use Rattle.cs_prefilter.proofs.probe.marks.Goals as goal

pub returns : goal.returns
returns g c k bucket word below has occurs =
    let at = c.args.offset in
    elim (cases_lt k 32) [
      | inl first ↦ in_either c.nonzero.result (c.nonzero-2.result * 2 ^ 32 % 2 ^ 64) k
          ((c.nonzero.ensures k).1 (c.lanes.ensures k bucket word first has occurs))
      | inr past ↦
          let j = k - 32 in
          let there : at + k ≡ at + 32 + j = omega (arith, past) in
          let set = (c.nonzero-2.ensures j).1 (c.lanes-2.ensures j bucket word (omega (arith, below, past)) has
          (subst (λ (n : ℕ). WordAt c.args.text.now n word) there occurs)) in
          let back : j + 32 ≡ k = omega (arith, past) in
          subst (λ (n : ℕ). bit_at (bit_or c.nonzero.result (c.nonzero-2.result * 2 ^ 32 % 2 ^ 64)) n ≡ 1) back
          (in_upper_half c.nonzero.result c.nonzero-2.result j (omega (arith, below, past)) set)
    ]
