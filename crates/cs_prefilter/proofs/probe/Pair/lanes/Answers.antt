use Rattle.std.proofs.Common.{◌≡◌, ◌+◌, ℕ, get_or, ap, sym, ◌∙◌, not, eqb, bit_and, bit_or, arith}
use Rattle.cs_prefilter.specs.ByteTest.{used_mask}
use Rattle.cs_prefilter.specs.Lanes.{full_if_equal}
use Rattle.cs_prefilter.proofs.PairLemmas.{both_full}
use Rattle.cs_prefilter.proofs.probe.Pair.lanes.Goals as goal

pub returns : goal.returns
returns g c k below =
    let pair = c.args.self.now in
    let text = c.args.text.now in
    let at = c.args.offset in
    let folded = not (eqb g.row.FOLDED 0) in
    let byte : ℕ → ℕ = λ j. get_or text j 0 in
    let a = bit_or (byte (at + k + pair.first_at)) (used_mask folded pair.first) in
    let b = bit_or (byte (at + k + pair.second_at)) (used_mask folded pair.second) in
    let first : get_or c.lanes.result k 0 ≡ full_if_equal a pair.first.byte =
    c.lanes.ensures.each k below ∙ ap (λ j. full_if_equal (bit_or (byte j) (used_mask folded pair.first)) pair.first.byte) (omega arith) in
    let second : get_or c.lanes-2.result k 0 ≡ full_if_equal b pair.second.byte =
    c.lanes-2.ensures.each k below ∙ ap (λ j. full_if_equal (bit_or (byte j) (used_mask folded pair.second)) pair.second.byte) (omega arith) in
    let lane : get_or c.both.result k 0 ≡ bit_and (full_if_equal a pair.first.byte) (full_if_equal b pair.second.byte) =
    c.both.ensures.each k below ∙ (λ i. bit_and (first i) (second i)) in
    let full = both_full a pair.first.byte b pair.second.byte in
    (λ some. full.0 (λ zero. some (lane ∙ zero)), λ pass zero. full.1 pass (sym lane ∙ zero))
