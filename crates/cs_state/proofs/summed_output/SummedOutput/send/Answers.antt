use Rattle.std.proofs.Common.{◌≡◌, ◌∙◌, ◌++◌, ◌/◌, append-nil, ap, sym, suc, length, min, false, ℕ, List, arith}
use Rattle.std.proofs.lemmas.List.{length-append}
use Rattle.cs_state.specs.Sums.{sum_of, sums_within}
use Rattle.cs_state.proofs.SumLemmas.{sums_len, sums_sent, sums_whole}
use Rattle.cs_state.proofs.summed_output.SummedOutput.send.Goals as goal

pub returns-clause-sums : goal.returns-clause-sums
returns-clause-sums g c = λ summed.
    let self = c.args.self.now in
    let sent : List ℕ = g.O.Output.given self.out in
    let within = self.within in
    let len = self.piece.ok.0 in
    let many = self.sums.ok.0 in
    let size = ap length summed.sums ∙ sums_len self.seal sent summed.count in
    sums_sent self.seal sent summed.count summed.sent self.piece.items self.sums.items c.extend_from_slice.new.self.items c.sum-sum.result
    (c.len-number.result / 8) c.requires (omega (arith, within, len)) summed.sums c.in_ok-extend_from_slice.ensures.items
    (c.sum-sum.ensures ∙ ap (sum_of self.seal (c.len-number.result / 8) false) c.deref.ensures.value) (omega (arith, many, size))

pub returns-clause-summed : goal.returns-clause-summed
returns-clause-summed g c = λ full summed.
    let self = c.args.self.now in
    let sent : List ℕ = g.O.Output.given self.out in
    let piece = self.piece.items in
    let new : g.O.Output.given c.append.new.self ≡ sent ++ piece = c.in_ok-append.ensures.given ∙ ap (λ p. sent ++ p) c.deref-2.ensures.value in
    let size = length-append sent piece in
    let whole = sums_whole self.seal (sent ++ piece) (suc summed.count) (omega (arith, size, full, summed.sent)) in
    record {
      count = suc summed.count;
      sent = omega (arith, size, full, summed.sent, ap length new);
      sums = returns-clause-sums g c summed ∙ whole ∙ ap (λ l. sums_within self.seal l (suc summed.count)) (sym new);
      len = summed.len ∙ ap (λ xs. min (length xs) 18446744073709551615) (sym new ∙ sym (append-nil (g.O.Output.given c.append.new.self))
          ∙ ap (λ p. g.O.Output.given c.append.new.self ++ p) (sym c.clear.ensures.items));
    }
