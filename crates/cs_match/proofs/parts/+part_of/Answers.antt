use Rattle.std.proofs.Common.{◌≡◌, ◌+◌, ◌-◌, List, take, drop, length, ◌∙◌, sym, ap, subst, arith, drop_of_length-le}
use Rattle.std.proofs.lemmas.Grind.{common_steps}
use Rattle.cs_syntax.specs.Matching.{Tree, Trees, cat, alt, more, none}
use Rattle.cs_syntax.specs.TreeList.{append}
use Rattle.cs_syntax.specs.Node.{tree_of}
use Rattle.cs_syntax.specs.NodeList.{trees_of}
use Rattle.cs_syntax.specs.declared.node.Node.{Node}
use Rattle.cs_syntax.proofs.TreeLemmas.{trees_from}
use Rattle.cs_syntax.proofs.TreeListLemmas.{append_assoc_trees, append_none}
use Rattle.cs_match.specs.Parts.{runs, shape_of, shapes_of, sizes_of, HaveSameShape}
use Rattle.cs_match.specs.Glushkov.{position_count_of}
use Rattle.cs_match.proofs.PartLemmas.{shape_of-Alternation, shape_of-Cat, shapes_last, shapes_none, size_of-Alternation, sizes_last, words_few}
use Rattle.cs_match.proofs.ShapeLemmas.{shape_trans, cat_first, cat_rest, alt_more, before_same, position_count_append}
use Rattle.cs_match.proofs.TraversalLemmas.{only_one}
use Rattle.cs_match.proofs.parts.+part_of.Goals as goal

pub alternation_of-loop-node-preserved : goal.alternation_of-loop-node-preserved
alternation_of-loop-node-preserved t c =
    let next = trees_from c.args.nodes.now c.loop-node.node-index c.node-item.result c.loop-node-test.true c.node-item.is in
    let t = tree_of c.node-item.result in
    let ts = trees_of (drop (c.loop-node.node-index + 1) c.args.nodes.now) in
    let s = shape_of c.in_ok-part.part in
    let ss = shapes_of c.loop-node.parts.items in
    let all = trees_of c.args.nodes.now in
    let pushed : append (shapes_of c.push.new.self.items) ts ≡ append ss (more s ts) =
    ap (λ us. append us ts) (ap shapes_of c.in_ok-push.ensures.items
    ∙ shapes_last c.loop-node.parts.items c.in_ok-part.part) ∙ append_assoc_trees ss (more s none) ts in
    let same : HaveSameShape (alt all) (alt (append (shapes_of c.push.new.self.items) ts)) =
    subst (λ (us : Trees). HaveSameShape (alt all) (alt us)) (sym pushed)
    (shape_trans _ _ _ (rw next at c.loop-node.invariant.same) (alt_more ss t s ts c.in_ok-part.ensures.shape)) in
    record {
      same = same;
      size = omega (
        arith,
        c.in_ok-part.ensures.size,
        rw next at c.loop-node.invariant.size,
        ap sizes_of c.in_ok-push.ensures.items ∙ sizes_last c.loop-node.parts.items c.in_ok-part.part,
      );
      total = sym (position_count_append (shapes_of c.push.new.self.items) ts) ∙ sym same.positions;
    }

pub alternation_of-returns-in_ok-new-in-Some-clause-shape : goal.alternation_of-returns-in_ok-new-in-Some-clause-shape
alternation_of-returns-in_ok-new-in-Some-clause-shape t c =
    let ss = shapes_of c.loop-node.parts.items in
    let all = trees_of c.args.nodes.now in
    let ns = c.in-Some.following.items in
    let known : shapes_of c.deref.result.now ≡ runs ns = rw c.in-Some.is at c.in_ok-following.ensures in
    let shapes : ss ≡ runs c.in_ok-new-in-Some.field-0 = ap shapes_of (sym c.deref.ensures.value) ∙ known
    ∙ ap runs (sym c.in_ok-new-in-Some.ensures) in
    let none_left : alt (append ss (trees_of (drop c.loop-node.node-index c.args.nodes.now))) ≡ alt ss =
    ap (λ (rest : List Node). alt (append ss (trees_of rest)))
    (drop_of_length-le c.args.nodes.now {i = c.loop-node.node-index} (omega arith)) ∙ ap alt (append_none ss) in
    subst (λ (u : Tree). HaveSameShape (alt all) u)
    (none_left ∙ ap alt shapes ∙ sym (shape_of-Alternation c.in_ok-new-in-Some.field-0))
    c.loop-node.invariant.same

pub alternation_of-returns-in-None-clause-shape : goal.alternation_of-returns-in-None-clause-shape
alternation_of-returns-in-None-clause-shape t c =
    let ss = shapes_of c.loop-node.parts.items in
    let none_left : alt (append ss (trees_of (drop c.loop-node.node-index c.args.nodes.now))) ≡ alt ss =
    ap (λ (ns : List Node). alt (append ss (trees_of ns)))
    (drop_of_length-le c.args.nodes.now {i = c.loop-node.node-index} (omega arith)) ∙ ap alt (append_none ss) in
    shape_trans _ _ _ (rw none_left at c.loop-node.invariant.same) c.alternation.ensures.shape

pub alternation_of-returns-in_ok-new-in-Some-clause-size : goal.alternation_of-returns-in_ok-new-in-Some-clause-size
alternation_of-returns-in_ok-new-in-Some-clause-size t c =
    let ns = c.in_ok-new-in-Some.field-0 in
    let known : shapes_of c.deref.result.now ≡ runs c.in-Some.following.items = rw c.in-Some.is at c.in_ok-following.ensures in
    let shapes : shapes_of c.loop-node.parts.items ≡ runs ns = ap shapes_of (sym c.deref.ensures.value) ∙ known
    ∙ ap runs (sym c.in_ok-new-in-Some.ensures) in
    omega (
      arith,
      size_of-Alternation ns,
      words_few (trees_of c.args.nodes.now) (position_count_of (runs ns))
          (omega (arith, ap position_count_of shapes, c.loop-node.invariant.total)),
    )

pub alternation_of-returns-in-None-clause-size : goal.alternation_of-returns-in-None-clause-size
alternation_of-returns-in-None-clause-size t c = omega (arith, c.alternation.ensures.size, c.loop-node.invariant.size)

pub sequence_of-loop-node-preserved : goal.sequence_of-loop-node-preserved
sequence_of-loop-node-preserved t c =
    let next = trees_from _ c.loop-node.node-index c.node-item.result c.loop-node-test.true c.node-item.is in
    let ts = trees_of (drop (c.loop-node.node-index + 1) (take (length c.args.nodes.now - 1) (drop 1 c.args.nodes.now))) in
    let s = shape_of c.loop-node.last in
    let ss = shapes_of c.loop-node.parts.items in
    let us = shapes_of c.add_part.new.parts.items in
    let u = shape_of c.in_ok-last-2.last in
    let same : HaveSameShape (cat (trees_of c.args.nodes.now)) (cat (append us (more u ts))) =
    shape_trans _ _ _ (rw next at c.loop-node.invariant.same)
    (shape_trans _ _ _ (before_same ss _ _ (cat_rest s _ _ (cat_first _ _ ts c.in_ok-part.ensures.shape)))
    (c.in_ok-last-2.ensures.shape ts)) in
    record {
      same = same;
      size = omega (arith, c.in_ok-part.ensures.size, c.in_ok-last-2.ensures.size, rw next at c.loop-node.invariant.size);
      total = omega (arith, same.positions, position_count_append us (more u ts));
    }

pub sequence_of-returns-then-is_empty-clause-shape : goal.sequence_of-returns-then-is_empty-clause-shape
sequence_of-returns-then-is_empty-clause-shape t c =
    let empty : length c.loop-node.parts.items ≡ 0 = grind (arith, common_steps) in
    let others = take (length c.args.nodes.now - 1) (drop 1 c.args.nodes.now) in
    shape_trans _ _ _
    (rw (
      drop_of_length-le others {i = c.loop-node.node-index} (omega arith),
      shapes_none c.loop-node.parts.items
          empty,
    ) at c.loop-node.invariant.same)
    (only_one (shape_of c.loop-node.last))

pub sequence_of-returns-clause-shape : goal.sequence_of-returns-clause-shape
sequence_of-returns-clause-shape t c =
    let others = take (length c.args.nodes.now - 1) (drop 1 c.args.nodes.now) in
    rw (shape_of-Cat c.push.new.self, ap shapes_of c.in_ok-push.ensures.items ∙ shapes_last c.loop-node.parts.items c.loop-node.last)
    (rw (drop_of_length-le others {i = c.loop-node.node-index} (omega arith)) at c.loop-node.invariant.same)
