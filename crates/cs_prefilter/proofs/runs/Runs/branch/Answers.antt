use Rattle.std.proofs.Common.{◌-◌, ◌++◌, List, Bool, length, take, drop, refl, ap, ◌∙◌, arith, length-drop}
use Rattle.std.proofs.lemmas.List.{take_all}
use Rattle.cs_prefilter.proofs.RunLemmas.{begins_here, branch_ends}
use Rattle.cs_prefilter.proofs.runs.Runs.branch.Goals as goal

pub returns-then-run-gt-MOST_SETS-clause-ends : goal.returns-then-run-gt-MOST_SETS-clause-ends
returns-then-run-gt-MOST_SETS-clause-ends c = λ line i e.
    begins_here line c.new-runs.result i c.new-runs.ensures.start c.new-runs.ensures.anywhere e.is_line e.ends.within

pub returns-clause-ends : goal.returns-clause-ends
returns-clause-ends c = λ line i e.
    let old = c.args.self.now in
    let sets = c.deref.result.now in
    let none = c.new-runs.ensures.sets in
    branch_ends line old _ i (omega (arith, c.new-runs.ensures.start, ap length none))
    (c.in_ok-extend_from_slice.ensures.items
    ∙ ap (λ (before : List (List Bool)). before ++ take (length sets - old.start) (drop old.start sets)) none
    ∙ take_all _ (drop old.start sets) (omega (arith, length-drop old.start sets)) ∙ ap (drop old.start) c.deref.ensures.value)
    refl refl e
