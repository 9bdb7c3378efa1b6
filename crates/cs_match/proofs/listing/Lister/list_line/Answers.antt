use Rattle.std.proofs.Common.{arith}
use Rattle.cs_match.proofs.ListingLemmas.{line_lines, whole_past}
use Rattle.cs_match.proofs.listing.Lister.list_line.Goals as goal

pub list_ends-requires-clause-lines : goal.list_ends-requires-clause-lines
list_ends-requires-clause-lines c = line_lines c.args.self.now.dfa.tree c.args.block.now c.args.line.start c.args.line.end c.requires.line

pub returns-clause-all : goal.returns-clause-all
returns-clause-all c =
    let e = c.list_ends.ensures in
    whole_past c.args.self.now.dfa.tree c.args.block.now c.args.line.start c.args.line.end c.requires.line
    c.list_ends.result.to (e.moves (omega (arith, c.requires.line.order))) e.most e.listed.lines.whole
