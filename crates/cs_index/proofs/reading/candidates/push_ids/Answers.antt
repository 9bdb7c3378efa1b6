use Rattle.std.proofs.Common.{◌≡◌, ◌<◌, ◌+◌, ◌-◌, ◌∙◌, ◌∷◌, ◌++◌, [], ap, sym, false, cond, List, ℕ, Bool, Vec, Global, length, get_or, arith}
use Rattle.std.specs.Prelude.{filter}
use Rattle.std.specs.List.{range_with_len}
use Rattle.cs_index.proofs.postings.IteratorSteps.{marked_step}
use Rattle.cs_index.proofs.candidates.WindowRows.{all_pushed}
use Rattle.cs_index.proofs.reading.candidates.push_ids.Goals as goal
use Rattle.cs_index.proofs.reading.candidates.push_ids.Goals.{then-is_marked+in_ok-push, else-is_marked}

pub loop-is_marked-preserved : goal.loop-is_marked-preserved
loop-is_marked-preserved c =
    let row : List Bool = c.args.row.now in
    let start : ℕ = c.args.start in
    let id : ℕ = c.loop-is_marked.id in
    let ids : List ℕ = c.loop-is_marked.ids.items in
    let test : ℕ → Bool = λ k. get_or row (k - start) false in
    let all : List ℕ = c.args.ids.now.items ++ filter test (range_with_len start (length row)) in
    let at : id - start ≡ c.loop-is_marked.is_marked-index = omega (arith, c.loop-is_marked.invariant.id) in
    let below : id < start + length row = omega (arith, c.loop-is_marked.invariant.id, c.loop-is_marked-test.true) in
    elim c.if-is_marked.branch [
      | then-is_marked+in_ok-push w ↦ record {
        id = omega (arith, c.loop-is_marked.invariant.id);
        ids = marked_step test (start + length row) id all ids c.if-is_marked.ids.items below c.loop-is_marked.invariant.ids
            (ap (λ (v : Vec ℕ Global). v.items) w.ids-is ∙ w.in_ok-push.ensures.items
            ∙ sym (ap (λ b. cond b (ids ++ id ∷ []) ids) (ap (λ k. get_or row k false) at ∙ w.if-is_marked.true)));
      }
      | else-is_marked w ↦ record {
        id = omega (arith, c.loop-is_marked.invariant.id);
        ids = marked_step test (start + length row) id all ids c.if-is_marked.ids.items below c.loop-is_marked.invariant.ids
            (ap (λ (v : Vec ℕ Global). v.items) w.ids-is
            ∙ sym (ap (λ b. cond b (ids ++ id ∷ []) ids) (ap (λ k. get_or row k false) at ∙ w.if-is_marked.false)));
      }
    ]

pub returns : goal.returns
returns c = all_pushed c.args.row.now c.args.start c.args.end c.loop-is_marked.id c.args.ids.now.items
    c.loop-is_marked.ids.items c.requires.width
    (omega (arith, c.loop-is_marked.invariant.id, c.loop-is_marked-test.false)) c.loop-is_marked.invariant.ids
