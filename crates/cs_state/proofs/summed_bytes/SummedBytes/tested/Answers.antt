use Rattle.std.proofs.Common.{◌≡◌, ◌∙◌, ◌+◌, ◌*◌, sym, ap, min, bytes_eq, false}
use Rattle.cs_tree.specs.Store.{part_of}
use Rattle.cs_state.specs.Sums.{sum_of}
use Rattle.cs_state.proofs.StoreLemmas.{at_some}
use Rattle.cs_state.proofs.SumLemmas.{is_tested, not_false}
use Rattle.cs_state.proofs.summed_bytes.SummedBytes.tested.Goals as goal

pub returns-clause-tested : goal.returns-clause-tested
returns-clause-tested g c all m =
    let self = c.args.self.now in
    let number = c.args.number in
    let piece = c.in_ok-piece.piece.items in
    let sum = c.in_ok-sum.sum.items in
    is_tested self.seal all piece sum self.len number
    (at_some (λ bytes. piece ≡ part_of bytes (number * 65536) c.min-len.result) _ all m c.in_ok-piece.ensures.bytes
    ∙ ap (part_of all (number * 65536)) (c.min-len.ensures ∙ ap (λ n. min 65536 n) c.saturating_sub.ensures))
    (at_some (λ bytes. sum ≡ part_of bytes (self.len + 8 * number) 8) _ all (c.in_ok-piece.ensures.store.0 ∙ m) c.in_ok-sum.ensures.bytes)
    ((λ i. bytes_eq (sym c.as_slice.ensures.value i)
    (sym (c.as_slice-2.ensures ∙ c.sum.ensures ∙ ap (sum_of self.seal number false) c.deref.ensures.value) i))
    ∙ not_false (bytes_eq c.as_slice.result.now c.as_slice-2.result.now) (sym c.ne.ensures ∙ c.if-ne.false))
