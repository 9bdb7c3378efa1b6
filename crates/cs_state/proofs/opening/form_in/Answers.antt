use Rattle.std.proofs.Common.{◌≡◌, ◌∙◌, ◌++◌, bytes_eq, true, sym, ap, ℕ, List}
use Rattle.std.proofs.lemmas.Slice.Eq.{bytes_eq-Decides}
use Rattle.cs_state.specs.StateFile.{eight_bytes, end_of, state_magic}
use Rattle.cs_state.specs.Sums.{piece_count, seal_of, sum_of}
use Rattle.cs_state.proofs.OpeningLemmas.{end_parts}
use Rattle.cs_state.proofs.SumLemmas.{not_false}
use Rattle.cs_state.proofs.opening.form_in.Goals as goal

pub returns-clause-end : goal.returns-clause-end
returns-clause-end c =
    let seal = seal_of c.args.key c.number.result in
    let last : List ℕ = c.split_at.result.0.now in
    let sum : List ℕ = c.split_at-2.result.0.now in
    let magic : List ℕ = c.split_at-3.result.1.now in
    let len = c.number-index_len.result in
    let last_is : last ≡ eight_bytes len = sym c.number-index_len.ensures in
    let sum_is : sum ≡ sum_of seal (piece_count len) true last =
    (bytes_eq-Decides sum c.as_slice.result.now).0 (not_false (bytes_eq sum c.as_slice.result.now) (sym c.ne-2.ensures ∙ c.if-ne-2.false))
    ∙ c.as_slice.ensures ∙ c.sum.ensures ∙ (λ i. sum_of seal (c.piece_count-count.ensures i) true last) in
    let magic_is : magic ≡ state_magic =
    (bytes_eq-Decides magic state_magic).0 (not_false (bytes_eq magic state_magic) (sym c.ne.ensures ∙ c.if-ne.false)) in
    end_parts c.args.end.now last c.split_at.result.1.now sum c.split_at-2.result.1.now c.split_at-3.result.0.now magic
    (cc) c.split_at.ensures.back (cc) c.split_at-2.ensures.back (cc) c.split_at-3.ensures.back
    ∙ (λ i. last_is i ++ (sum_is ∙ (λ j. sum_of seal (piece_count len) true (last_is j))) i ++ sym c.number.ensures i ++ magic_is i)
