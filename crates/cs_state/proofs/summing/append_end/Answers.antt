use Rattle.std.proofs.Common.{◌≡◌, ◌∙◌, ◌++◌, ap, true, ℕ, List}
use Rattle.cs_state.specs.StateFile.{eight_bytes, state_magic}
use Rattle.cs_state.specs.Sums.{piece_count, sum_of}
use Rattle.cs_state.proofs.SumLemmas.{on_ok, regrouped}
use Rattle.cs_state.proofs.summing.append_end.Goals as goal

pub returns : goal.returns
unfolding eight_bytes
returns g c = λ at.
    let seal = c.args.seal in
    let out : List ℕ = g.O.Output.given c.args.out.now in
    let len = eight_bytes c.args.index_len in
    let sum = sum_of seal (piece_count c.args.index_len) true len in
    let moment = eight_bytes seal.moment in
    let first : g.O.Output.given c.append.new.self ≡ out ++ len = c.in_ok-append.ensures.given ∙ ap (λ l. out ++ l) c.to_be_bytes-last.ensures in
    let summed : c.sum.result ≡ sum = c.sum.ensures ∙ (λ i. sum_of seal (at i) true (c.to_be_bytes-last.ensures i)) in
    let second : g.O.Output.given c.append-2.new.self ≡ (out ++ len) ++ sum = c.in_ok-append-2.ensures.given ∙ (λ i. first i ++ summed i) in
    let third : g.O.Output.given c.append-3.new.self ≡ ((out ++ len) ++ sum) ++ moment =
    c.in_ok-append-3.ensures.given ∙ (λ i. second i ++ c.to_be_bytes.ensures i) in
    on_ok c.append-4.result (λ (sent : g.O.Output.given c.append-4.new.self ≡ g.O.Output.given c.append-3.new.self ++ state_magic).
    sent ∙ ap (λ l. l ++ state_magic) third ∙ regrouped out len sum moment state_magic) c.append-4.ensures.given
