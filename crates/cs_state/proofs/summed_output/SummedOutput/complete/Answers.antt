use Rattle.std.proofs.Common.{◌≡◌, ◌∙◌, ◌++◌, append-nil, ℕ, List, length, ap, sym}
use Rattle.std.proofs.lemmas.Bool.{eqb-true}
use Rattle.std.proofs.lemmas.List.{nil_from_length}
use Rattle.cs_state.specs.Sums.{sums_of}
use Rattle.cs_state.proofs.SumLemmas.{sums_whole}
use Rattle.cs_state.proofs.summed_output.SummedOutput.complete.Goals as goal

pub returns-then-is_empty-clause-sums : goal.returns-then-is_empty-clause-sums
returns-then-is_empty-clause-sums g c = λ summed.
    let self = c.args.self.now in
    let sent : List ℕ = g.O.Output.given self.out in
    let none : length self.piece.items ≡ 0 = sym self.piece.ok.0 ∙ eqb-true self.piece.len 0 (sym c.is_empty.ensures ∙ c.if-is_empty.true) in
    summed.sums ∙ sym (sums_whole self.seal sent summed.count summed.sent)
    ∙ ap (sums_of self.seal) (sym (append-nil sent) ∙ ap (λ p. sent ++ p) (sym (nil_from_length self.piece.items none)))
