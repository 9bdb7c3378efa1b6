use Rattle.std.proofs.Common.{arith}
use Rattle.cs_match.proofs.NewlineLemmas.{part_nowhere, part_after}
use Rattle.cs_match.proofs.SkippedLineLemmas.{whole_to, whole_none}
use Rattle.cs_match.proofs.listing.whole_lines_len.Goals as goal

pub returns-in-Some-clause-whole : goal.returns-in-Some-clause-whole
returns-in-Some-clause-whole c = whole_to c.args.text.now c.in-Some.offset (omega (arith, c.in-Some.ensures.0.high)) c.in-Some.ensures.1

pub returns-in-None-clause-whole : goal.returns-in-None-clause-whole
returns-in-None-clause-whole c = whole_none

pub returns-in-Some-clause-rest : goal.returns-in-Some-clause-rest
returns-in-Some-clause-rest c = part_after c.args.text.now c.in-Some.offset c.in-Some.ensures.0

pub returns-in-None-clause-rest : goal.returns-in-None-clause-rest
returns-in-None-clause-rest c = part_nowhere c.args.text.now c.in-None.ensures
