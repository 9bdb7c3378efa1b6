use Rattle.std.proofs.Common.{◌≡◌, sym, ◌∙◌, ap}
use Rattle.cs_syntax.specs.Matching.{Trees, rep}
use Rattle.cs_syntax.specs.Node.{tree_of}
use Rattle.cs_syntax.specs.NodeList.{trees_of}
use Rattle.cs_syntax.specs.PartialGroups.{PartialGroup, with_last_repeated, with_last}
use Rattle.cs_syntax.specs.declared.node.Node.{Node}
use Rattle.cs_syntax.proofs.NodeLemmas.{tree_of-Rep}
use Rattle.cs_syntax.proofs.PartialGroupLemmas.{with_last_repeated-last}
use Rattle.cs_syntax.proofs.TreeLemmas.{trees_last}
use Rattle.cs_syntax.proofs.parser.GroupBuilder.repeat.Goals as goal

pub returns : goal.returns
returns c =
    let n = c.args.least in
    let m = c.args.most in
    let before = c.pop.new.self.items in
    let bs = trees_of c.args.self.now.branches.items in
    let f = λ (us : Trees). (let h : PartialGroup = record { branches = bs; atoms = us } in h) in
    let t = tree_of c.in-Some.atom in
    let was : trees_of c.args.self.now.atoms.items ≡ with_last (trees_of before) t = ap trees_of c.in-Some.ensures.items
    ∙ trees_last before c.in-Some.atom in
    let is =
    ap trees_of c.in_ok-push.ensures.items ∙ trees_last before _
    ∙ ap (with_last (trees_of before)) (tree_of-Rep _ _ _ ∙ ap (λ (x : Node). rep (tree_of x) n m) c.in_ok-new.ensures.ok) in
    ap f (is ∙ sym (with_last_repeated-last n m (trees_of before) t)) ∙ sym (ap (λ us. f (with_last_repeated n m us)) was)
