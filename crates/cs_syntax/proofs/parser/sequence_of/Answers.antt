use Rattle.std.proofs.Common.{◌≤◌, length, sym, ◌∙◌, arith}
use Rattle.cs_syntax.proofs.NodeLemmas.{tree_of-Cat}
use Rattle.cs_syntax.proofs.TreeLemmas.{several}
use Rattle.cs_syntax.proofs.parser.sequence_of.Goals as goal

pub returns-else-is_empty : goal.returns-else-is_empty
returns-else-is_empty c =
    let many : 2 ≤ length c.args.atoms.items = grind (arith, c.if-is_empty.ensures) in
    tree_of-Cat c.args.atoms ∙ sym (several c.args.atoms.items many)
