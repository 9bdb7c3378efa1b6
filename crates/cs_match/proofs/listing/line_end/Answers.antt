use Rattle.std.proofs.Common.{arith}
use Rattle.cs_match.proofs.NewlineLemmas.{next_none, next_some}
use Rattle.cs_match.proofs.WholeLineLemmas.{whole_has_newline}
use Rattle.cs_match.proofs.listing.line_end.Goals as goal

pub returns : goal.returns
returns c =
    let h = next_some c.args.block.now c.args.from c.in-Some.offset c.in-Some.ensures in
    record { low = h.0; high = h.1; part = h.2; newline = h.3; work = omega (arith, c.add.ensures) }

pub unreachable-requires : goal.unreachable-requires
unreachable-requires c =
    whole_has_newline c.args.block.now c.args.from c.requires.within c.requires.whole
    (next_none c.args.block.now c.args.from c.in-None.ensures)
