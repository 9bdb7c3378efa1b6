use Rattle.std.proofs.Common.{◌+◌, List, ℕ, drop, sym, ◌∙◌, ap, drop_of_length-le}
use Rattle.cs_syntax.specs.Matching.{Tree, Trees, one_of, more}
use Rattle.cs_syntax.specs.Tokens.{byte_sets, sequence}
use Rattle.cs_syntax.specs.NodeList.{trees_of}
use Rattle.cs_syntax.specs.TreeList.{append}
use Rattle.cs_syntax.proofs.TreeListLemmas.{append_none, append_last}
use Rattle.cs_syntax.proofs.ListLemmas.{here_is}
use Rattle.cs_syntax.proofs.NodeLemmas.{tree_of-Set}
use Rattle.cs_syntax.proofs.TreeLemmas.{trees_last}
use Rattle.cs_syntax.proofs.parser.bytes_node.Goals as goal

pub loop-byte-preserved : goal.loop-byte-preserved
loop-byte-preserved c =
    let i = c.loop-byte.byte-index in
    let bs = c.args.bytes.now in
    let old = trees_of c.loop-byte.sets.items in
    let rest = byte_sets (drop (i + 1) bs) in
    ap (λ (ts : Trees). append ts rest) (ap trees_of c.in_ok-push.ensures.items ∙ trees_last c.loop-byte.sets.items _)
    ∙ append_last old rest _
    ∙ ap (λ (t : Tree). append old (more t rest)) (tree_of-Set _ ∙ ap one_of c.of_char.ensures)
    ∙ sym (ap (λ (xs : List ℕ). append old (byte_sets xs)) (here_is bs i c.loop-byte-test.true))
    ∙ c.loop-byte.invariant

pub returns : goal.returns
returns c =
    let old = trees_of c.loop-byte.sets.items in
    let none = drop_of_length-le c.args.bytes.now {i = c.loop-byte.byte-index} c.loop-byte-test.false in
    c.sequence_of.ensures
    ∙ ap sequence (sym (append_none old) ∙ sym (ap (λ (xs : List ℕ). append old (byte_sets xs)) none) ∙ c.loop-byte.invariant)
