use Rattle.std.proofs.Common.{ap, ◌∙◌}
use Rattle.cs_syntax.specs.Matching.{Trees, alt}
use Rattle.cs_syntax.specs.TreeList.{append}
use Rattle.cs_syntax.specs.NodeList.{trees_of}
use Rattle.cs_syntax.specs.Joining.{branches_of, either, pattern_of}
use Rattle.cs_syntax.proofs.JoiningLemmas.{trees_append, is_wanted}
use Rattle.cs_syntax.proofs.NodeLemmas.{tree_of-Alt}
use Rattle.cs_syntax.proofs.node.Pattern.either.Goals as goal

pub returns : goal.returns
returns c =
    let own = trees_of c.in_ok-branches.branches.items in
    let others = trees_of c.in_ok-more.more.items in
    let is = is_wanted (pattern_of (either c.args.self c.args.other)) c.new.result
    (c.new.ensures ∙ ap pattern_of (tree_of-Alt c.append.new.self ∙ ap alt (ap trees_of c.in_ok-append.ensures.items
    ∙ trees_append c.in_ok-branches.branches.items c.in_ok-more.more.items
    ∙ ap (λ (ts : Trees). append ts others) (c.in_ok-branches.ensures ∙ ap branches_of c.self.view_is)
    ∙ ap (append (branches_of c.args.self)) (c.in_ok-more.ensures ∙ ap branches_of c.other.view_is)))) in
    record { tree = is.0; fault = is.1 }
