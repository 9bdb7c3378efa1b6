use Rattle.std.proofs.Common.{◌≡◌, ℕ, suc, ◌+◌, ◌-◌, List, drop, sym, ◌∙◌, ap, arith, drop_of_length-le}
use Rattle.cs_syntax.specs.Matching.{more, none}
use Rattle.cs_syntax.specs.TreeList.{append}
use Rattle.cs_syntax.proofs.TreeListLemmas.{append_assoc_trees, append_none}
use Rattle.cs_match.specs.declared.parts.Fragment.{Fragment}
use Rattle.cs_match.specs.Parts.{run, runs, shape_of, shapes_of}
use Rattle.cs_match.proofs.PartLemmas.{shape_of-Run, shapes_from, runs_last}
use Rattle.cs_match.proofs.parts.runs_of.Goals as goal

pub loop-part-preserved : goal.loop-part-preserved
loop-part-preserved c =
    let next = shapes_from c.args.parts.now c.loop-part.part-index c.part-item.result c.loop-part-test.true c.part-item.is in
    let n = c.in-Run.n in
    let some : suc (n - 1) ≡ n = omega arith in
    let old = runs c.loop-part.following.items in
    let rest = shapes_of (drop (c.loop-part.part-index + 1) c.args.parts.now) in
    ap (λ (ns : List ℕ). append (runs ns) rest) c.in_ok-push-in-Run.ensures.items
    ∙ ap (λ ts. append ts rest) (runs_last c.loop-part.following.items (n - 1))
    ∙ append_assoc_trees old (more (run (suc (n - 1))) none) rest
    ∙ ap (λ t. append old (more t rest)) (ap run some ∙ sym (ap shape_of c.in-Run.is ∙ shape_of-Run n))
    ∙ ap (append old) (sym next)
    ∙ c.loop-part.invariant

pub returns : goal.returns
returns c =
    sym c.loop-part.invariant
    ∙ ap (λ (ps : List Fragment). append (runs c.loop-part.following.items) (shapes_of ps))
    (drop_of_length-le c.args.parts.now {i = c.loop-part.part-index} (omega arith))
    ∙ append_none (runs c.loop-part.following.items)
