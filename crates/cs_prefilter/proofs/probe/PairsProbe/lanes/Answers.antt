use Rattle.std.proofs.Common.{◌≡◌, ◌+◌, ℕ, List, get_or, ap, sym, ◌∙◌, not, eqb, arith, inl, inr}
use Rattle.std.proofs.lemmas.Nat.{le_or_l, le_or_r}
use Rattle.cs_prefilter.specs.declared.probe.Pair.{Pair}
use Rattle.cs_prefilter.specs.Pairs.{HasMasks, IsPairOf}
use Rattle.cs_prefilter.proofs.PairLemmas.{pair_passes, flag_is_set}
use Rattle.cs_prefilter.proofs.probe.PairsProbe.lanes.Goals as goal
use Rattle.cs_prefilter.proofs.probe.PairsProbe.lanes.Goals.{then-this-ne0, else-this-ne0}

pub returns : goal.returns
returns g c k bucket word below has occurs zero =
    let pairs = c.args.self.now in
    let folded = not (eqb g.row.FOLDED 0) in
    let passes = λ (pair : Pair) (masks : HasMasks folded pair) (is : IsPairOf pair word).
    pair_passes folded c.args.text.now (c.args.offset + k) word pair (λ i. (c.type_inv.text i).fits) masks is occurs in
    elim c.if-this-ne0.branch [
      | then-this-ne0 w ↦
          let lane : get_or c.if-this-ne0.result k 0 ≡ get_or w.either.result k 0 = ap (λ (v : List ℕ). get_or v k 0) w.result-is in
          let two = w.either.ensures.each k below in
          elim has [
            | inl one ↦
                let some = (c.lanes-lanes.ensures k below).1 (passes pairs.first one.1 one.2) in
                some (omega (arith, zero, lane, two, le_or_l (get_or c.lanes-lanes.result k 0) (get_or w.lanes.result k 0)))
            | inr other ↦
                let some = (w.lanes.ensures k below).1 (passes pairs.second other.2 other.3) in
                some (omega (arith, zero, lane, two, le_or_r (get_or c.lanes-lanes.result k 0) (get_or w.lanes.result k 0)))
          ]
      | else-this-ne0 w ↦
          let lane : get_or c.if-this-ne0.result k 0 ≡ get_or c.lanes-lanes.result k 0 = ap (λ (v : List ℕ). get_or v k 0) w.result-is in
          elim has [
            | inl one ↦ (c.lanes-lanes.ensures k below).1 (passes pairs.first one.1 one.2) (sym lane ∙ zero)
            | inr other ↦ flag_is_set g.row.TWO w.if-this-ne0.false other.0
          ]
    ]
