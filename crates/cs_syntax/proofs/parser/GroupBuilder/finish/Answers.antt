use Rattle.std.proofs.Common.{◌<◌, length, sym, ◌∙◌, ap, arith}
use Rattle.cs_syntax.specs.Matching.{alt, none}
use Rattle.cs_syntax.specs.PartialGroups.{alternation_after}
use Rattle.cs_syntax.specs.NodeList.{trees_of}
use Rattle.cs_syntax.proofs.NodeLemmas.{tree_of-Alt}
use Rattle.cs_syntax.proofs.TreeLemmas.{branches_last}
use Rattle.cs_syntax.proofs.parser.GroupBuilder.finish.Goals as goal

pub returns : goal.returns
returns c =
    let some : 0 < length c.args.self.branches.items = grind (arith, c.is_empty.ensures) in
    let b = branches_last c.args.self.branches.items c.sequence_of-last.result some in
    tree_of-Alt _ ∙ ap (λ x. alt (trees_of x)) c.in_ok-push.ensures.items
    ∙ sym (ap (λ t. alternation_after (trees_of c.args.self.branches.items) t none) (sym c.sequence_of-last.ensures)
    ∙ b)
