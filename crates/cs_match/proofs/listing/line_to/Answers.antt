use Rattle.std.proofs.Common.{◌≤◌, length-take, arith}
use Rattle.cs_match.proofs.ListingLemmas.{line_at}
use Rattle.cs_match.proofs.listing.line_to.Goals as goal

pub returns-clause-line : goal.returns-clause-line
returns-clause-line c =
    let lines = c.whole_lines_len.ensures in
    let within : c.whole_lines_len.result ≤ c.args.end = omega (arith, lines.within, length-take c.args.end c.args.block.now) in
    line_at c.args.block.now c.args.from c.whole_lines_len.result c.args.end c.requires.low c.requires.within c.requires.newline
    within lines.whole lines.rest c.max-start.result c.max-start.ensures
