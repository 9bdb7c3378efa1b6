use Rattle.std.proofs.Common.{◌≡◌, ◌+◌, ◌-◌, ◌<◌, ◌≤◌, List, drop, sym, ◌∙◌, ap, arith, drop_of_length-le}
use Rattle.cs_syntax.specs.TreeList.{append}
use Rattle.std.specs.Prelude.{None, if◌then◌else◌}
use Rattle.std.proofs.lemmas.Bool.{le-leb}
use Rattle.cs_syntax.specs.Matching.{Tree, cat, alt, rep, empty, none, more}
use Rattle.cs_syntax.specs.Node.{tree_of}
use Rattle.cs_syntax.specs.NodeList.{trees_of}
use Rattle.cs_syntax.specs.declared.node.Node.{Node}
use Rattle.cs_syntax.specs.declared.node.Node.TheVariants.{Rep}
use Rattle.cs_match.specs.Expansion.{expansion, expansions, copies, optional}
use Rattle.cs_syntax.proofs.NodeLemmas.{tree_of-Empty, tree_of-Cat, tree_of-Alt, tree_of-Rep}
use Rattle.cs_syntax.proofs.TreeLemmas.{trees_last, trees_from}
use Rattle.cs_syntax.proofs.TreeListLemmas.{append_assoc_trees, append_none}
use Rattle.cs_match.proofs.CopyLemmas.{append_copies, counted_loop, pushed_copy}
use Rattle.cs_match.proofs.expand.+expand.Goals as goal
use Rattle.cs_match.proofs.expand.+expand.Goals.{add_copies-then-are_optional+in_ok-vec, add_copies-else-are_optional}

pub expand_all-returns : goal.expand_all-returns
expand_all-returns t c =
    sym (append_none (trees_of c.loop-part.all.items))
    ∙ ap (λ (ns : List Node). append (trees_of c.loop-part.all.items) (expansions (trees_of ns)))
    (sym (drop_of_length-le c.args.parts.now {i = c.loop-part.part-index} (omega arith)))
    ∙ c.loop-part.invariant

pub expand_all-loop-part-preserved : goal.expand_all-loop-part-preserved
expand_all-loop-part-preserved t c =
    let all = trees_of c.loop-part.all.items in
    let others = expansions (trees_of (drop (c.loop-part.part-index + 1) c.args.parts.now)) in
    let next = trees_from c.args.parts.now c.loop-part.part-index c.part-item.result c.loop-part-test.true c.part-item.is in
    ap (λ (ns : List Node). append (trees_of ns) others) c.in_ok-push.ensures.items
    ∙ ap (λ us. append us others) (trees_last c.loop-part.all.items c.in_ok-written.written)
    ∙ append_assoc_trees all (more (tree_of c.in_ok-written.written) none) others
    ∙ ap (λ u. append all (more u others)) c.in_ok-written.ensures
    ∙ ap (λ us. append all (expansions us)) (sym next)
    ∙ c.loop-part.invariant

pub expand_repeat-returns-in_ok-push-in-None : goal.expand_repeat-returns-in_ok-push-in-None
expand_repeat-returns-in_ok-push-in-None t c =
    let x = expansion (tree_of c.args.node.now) in
    let n = c.args.least in
    let some : 0 < n = omega arith in
    let first : trees_of c.add_copies.new.parts.items ≡ copies (n - 1) x none = c.in_ok-add_copies-in-None.ensures
    ∙ ap (λ (ns : List Node). append (trees_of ns) (copies (n - 1) x none)) c.new-parts.ensures.items in
    let last = Rep c.in_ok-body-in-None.body 1 None in
    let loop : tree_of last ≡ rep x 1 None = tree_of-Rep c.in_ok-body-in-None.body 1 None
    ∙ ap (λ (y : Node). rep (tree_of y) 1 None) c.in_ok-body-in-None.ensures.ok ∙ ap (λ u. rep u 1 None) c.in_ok-expand-in-None.ensures in
    rw c.in-None.is
    (tree_of-Cat _ ∙ ap (λ (ns : List Node). cat (trees_of ns)) c.in_ok-push-in-None.ensures.items
    ∙ ap cat (trees_last c.add_copies.new.parts.items last
    ∙ ap (λ us. append us (more (tree_of last) none)) first
    ∙ ap (λ u. append (copies (n - 1) x none) (more u none)) loop ∙ append_copies (n - 1) x (more (rep x 1 None) none))
    ∙ sym (counted_loop x n some))

pub expand_repeat-returns-in_ok-add_copies-in-Some-2 : goal.expand_repeat-returns-in_ok-add_copies-in-Some-2
expand_repeat-returns-in_ok-add_copies-in-Some-2 t c =
    let x = expansion (tree_of c.args.node.now) in
    let n = c.args.least in
    let m = c.in-Some.most in
    let le : n ≤ m = omega arith in
    let first : trees_of c.add_copies-in-Some.new.parts.items ≡ copies n x none = c.in_ok-add_copies-in-Some.ensures
    ∙ ap (λ (ns : List Node). append (trees_of ns) (copies n x none)) c.new-parts.ensures.items in
    let others = copies (m - n) (optional x) none in
    rw (c.in-Some.is, le-leb n m le)
    (tree_of-Cat _ ∙ ap cat (c.in_ok-add_copies-in-Some-2.ensures ∙ ap (λ us. append us others) first ∙ append_copies n x others))

pub add_copies-loop-k-preserved : goal.add_copies-loop-k-preserved
add_copies-loop-k-preserved t c =
    let x = expansion (tree_of c.args.node.now) in
    let each : Tree = if c.args.are_optional then optional x else x in
    let copy : tree_of c.if-are_optional.copy ≡ each =
    elim c.if-are_optional.branch [
      | add_copies-then-are_optional+in_ok-vec w ↦
          rw w.if-are_optional.true
          (ap tree_of w.copy-is ∙ tree_of-Alt _ ∙ ap (λ (ns : List Node). alt (trees_of ns)) w.in_ok-vec.ensures.items
          ∙ ap (λ u. alt (more (tree_of c.in_ok-copy.copy) (more u none))) tree_of-Empty
          ∙ ap (λ u. alt (more u (more empty none))) c.in_ok-copy.ensures)
      | add_copies-else-are_optional w ↦ rw w.if-are_optional.false (ap tree_of w.copy-is ∙ c.in_ok-copy.ensures)
    ] in
    ap trees_of c.in_ok-push.ensures.items
    ∙ pushed_copy c.args.parts.now.items c.loop-k.parts.items c.if-are_optional.copy each c.loop-k.k c.loop-k.invariant copy
