use Rattle.std.proofs.Common.{◌≡◌, ◌+◌, ◌∙◌, ◌||◌, [], ℕ, List, false, get_or, drop, sym, ap, arith}
use Rattle.std.proofs.Math.Bool.{or-false}
use Rattle.std.proofs.lemmas.List.{drop_all}
use Rattle.cs_trigram.specs.Trigram.{has}
use Rattle.cs_index.specs.IdStream.{ids_by_deltas}
use Rattle.cs_index.proofs.postings.EncodedRuns.{from_onward}
use Rattle.cs_index.proofs.encoded_run.mark_deltas.Goals as goal

pub returns : goal.returns
returns c =
    let i = c.deltas.invariant in
    let deltas : List ℕ = c.args.deltas.now in
    let none : drop c.deltas.delta-index deltas ≡ [] = drop_all c.deltas.delta-index deltas c.deltas-test.false in
    let at : c.args.at ≡ c.args.at + 0 = omega arith in
    record {
      width = i.width;
      flags = λ k.
          sym (or-false (get_or c.deltas.row k false))
          ∙ ap (λ (ds : List ℕ). get_or c.deltas.row k false || has (ids_by_deltas c.deltas.next ds) k) (sym none) ∙ i.flags k
          ∙ ap (λ (ids : List ℕ). get_or c.args.row.now k false || has ids k) (ap (λ n. ids_by_deltas n deltas) at
          ∙ from_onward c.args.at 0 deltas c.requires.short);
    }
