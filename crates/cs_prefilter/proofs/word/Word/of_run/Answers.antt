use Rattle.std.proofs.Common.{◌+◌, ◌-◌, ◌++◌, List, Bool, take, drop, ap, ◌∙◌, arith}
use Rattle.cs_syntax.specs.Matching.{member}
use Rattle.cs_prefilter.proofs.RunLemmas.{part_occurs, is_a_byte}
use Rattle.cs_prefilter.proofs.word.Word.of_run.Goals as goal
use Rattle.cs_prefilter.proofs.word.Word.of_run.Goals.{then-from-eq0, else-from-eq0}

pub invariant_of-result-clause-begins : goal.invariant_of-result-clause-begins
invariant_of-result-clause-begins c = elim c.if-from-eq0.branch [
  | then-from-eq0 w ↦ ap (λ (set : List Bool). member set 10) w.before-is ∙ c.requires
  | else-from-eq0 w ↦ ap (λ (set : List Bool). member set 10) (w.before-is ∙ w.all-before.ensures) ∙ is_a_byte 10 (omega arith)
]

pub returns : goal.returns
returns c = λ text j e.
    let run = c.args.run.now in
    let from = c.min-from.result in
    let to = from + c.min-len.result in
    part_occurs text c.args.before.now run j from (to - from) _ e (omega (arith, c.min-from.ensures, c.min-len.ensures))
    (c.in_ok-extend_from_slice.ensures.items
    ∙ ap (λ (sets : List (List Bool)). sets ++ take (to - from) (drop from run)) c.new-sets.ensures.items)
    (λ at. elim c.if-from-eq0.branch [
      | then-from-eq0 w ↦ w.before-is
      | else-from-eq0 w ↦ absurd (omega (arith, at, w.if-from-eq0.false))
    ])
    (λ later. elim c.if-from-eq0.branch [
      | then-from-eq0 w ↦ absurd (omega (arith, later, w.if-from-eq0.true))
      | else-from-eq0 w ↦ w.before-is ∙ w.all-before.ensures
    ])
