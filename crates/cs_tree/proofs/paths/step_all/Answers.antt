use Rattle.std.proofs.Common.{rules, sym, ap, ◌∙◌}
use Rattle.std.specs.Prelude.{reverse}
use Rattle.std.specs.List.{fold}
use Rattle.cs_tree.specs.Clean.{elements, with_element}
use Rattle.cs_tree.specs.PathParts.{texts}
use Rattle.cs_tree.proofs.SplitLemmas.{split_says}
use Rattle.cs_tree.proofs.CleanLemmas.{on_ok, steps-one}
use Rattle.cs_tree.proofs.paths.step_all.Goals as goal

pub elements-preserved : goal.elements-preserved
elements-preserved c =
    let split = (rw c.in-Some.is at (split_says c.elements.rest.now c.split_once.result c.split_once.ensures.cases)) in
    record {
      text = search rules;
      left = steps-one (reverse (texts c.elements.above.items)) (reverse (texts c.step.new.above.items))
          c.in-Some.element.now (elements c.elements.rest.now) (elements c.in-Some.later.now) split c.in_ok-step.ensures
          ∙ c.elements.invariant.left;
    }

pub returns : goal.returns
returns c =
    let split = (rw c.in_default.is at (split_says c.elements.rest.now c.split_once.result c.split_once.ensures.cases)) in
    on_ok c.step-2.result (λ is. is ∙ sym (ap (fold with_element (reverse (texts c.elements.above.items))) split)
    ∙ c.elements.invariant.left) c.step-2.ensures
