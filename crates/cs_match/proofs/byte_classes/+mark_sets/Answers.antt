use Rattle.std.proofs.Common.{ap, ◌∙◌, rules}
use Rattle.cs_syntax.specs.Characters.{has_char}
use Rattle.cs_syntax.specs.Node.{tree_of}
use Rattle.cs_syntax.proofs.NodeLemmas.{tree_of-Chars}
use Rattle.cs_match.proofs.ByteClassLemmas.{marks_of}
use Rattle.cs_match.proofs.byte_classes.+mark_sets.Goals as goal

pub returns-in-Chars : goal.returns-in-Chars
returns-in-Chars t c =
    let test = has_char c.in-Chars.set in
    rw (ap tree_of c.in-Chars.is ∙ tree_of-Chars c.in-Chars.set)
    (marks_of test c.of.result _ _ (c.of.ensures test (search rules)) c.mark_set-in-Chars.ensures)
