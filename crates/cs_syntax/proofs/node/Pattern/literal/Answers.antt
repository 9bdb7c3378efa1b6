use Rattle.std.proofs.Common.{sym, ap, ◌∙◌}
use Rattle.std.proofs.lemmas.List.{map-id}
use Rattle.std.proofs.lemmas.Iterator.{YieldsList-from_chars}
use Rattle.std.proofs.lemmas.Iterator.Consumers.{YieldsList-end}
use Rattle.cs_syntax.specs.Matching.{Trees}
use Rattle.cs_syntax.specs.NodeList.{trees_of}
use Rattle.cs_syntax.specs.PartialGroups.{with_last}
use Rattle.cs_syntax.specs.Tokens.{sequence, char_tree}
use Rattle.cs_syntax.specs.Quoting.{atoms_of}
use Rattle.cs_syntax.specs.Joining.{literal, pattern_of}
use Rattle.cs_syntax.proofs.TreeLemmas.{trees_last}
use Rattle.cs_syntax.proofs.JoiningLemmas.{atoms_last, is_wanted}
use Rattle.cs_syntax.proofs.node.Pattern.literal.Goals as goal

pub loop-c-preserved : goal.loop-c-preserved
loop-c-preserved c =
    let old = c.loop-c.atoms.items in
    ap trees_of c.in_ok-push.ensures.items ∙ trees_last old _
    ∙ ap (with_last (trees_of old)) c.in_ok-char_node.ensures
    ∙ ap (λ (ts : Trees). with_last ts (char_tree c.args.fold c.in-Some.c)) c.loop-c.invariant
    ∙ sym (atoms_last c.args.fold c.loop-c.yielded c.in-Some.c)

pub returns : goal.returns
returns c =
    let all = YieldsList-end (YieldsList-from_chars c.args.text.now c.utf8.text cc) c.loop-c.yielded _ c.loop-c.yielded_by _ _ c.in-None.is c.next.ensures.steps in
    let is = is_wanted (pattern_of (literal c.args.fold c.args.text.now)) c.new.result
    (c.new.ensures ∙ ap pattern_of (c.sequence_of.ensures ∙ ap sequence (c.loop-c.invariant
    ∙ ap (atoms_of c.args.fold) (sym (map-id c.loop-c.yielded) ∙ all.0)))) in
    record { tree = is.0; fault = is.1 }
