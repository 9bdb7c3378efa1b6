use Rattle.cs_match.proofs.NewlineLemmas.{next_none, next_some}
use Rattle.cs_match.proofs.WholeLineLemmas.{whole_has_newline}
use Rattle.cs_lines.proofs.lines.line_end.Goals as goal

pub returns-clause-part : goal.returns-clause-part
returns-clause-part c = (next_some c.args.block.now c.args.from c.in-Some.offset c.in-Some.ensures).2

pub returns-clause-newline : goal.returns-clause-newline
returns-clause-newline c = (next_some c.args.block.now c.args.from c.in-Some.offset c.in-Some.ensures).3

pub unreachable-requires : goal.unreachable-requires
unreachable-requires c =
    whole_has_newline c.args.block.now c.args.from c.requires.within c.requires.whole
    (next_none c.args.block.now c.args.from c.in-None.ensures)
