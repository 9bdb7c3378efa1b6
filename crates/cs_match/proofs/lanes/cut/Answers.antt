use Rattle.std.proofs.Common.{◌+◌, arith, inl}
use Rattle.cs_match.proofs.ChunkLemmas.{line_chunk, fewest_lines}
use Rattle.cs_match.proofs.WholeLineLemmas.{whole_from}
use Rattle.cs_match.proofs.lanes.cut.Goals as goal

pub line_end-requires-clause-whole : goal.line_end-requires-clause-whole
line_end-requires-clause-whole c = whole_from c.args.block.now c.args.from (c.args.from + c.args.size) (omega arith) c.requires.whole

pub returns-clause-cut : goal.returns-clause-cut
returns-clause-cut c =
    let end = c.line_end.ensures in
    record {
      lines = (line_chunk c.args.block.now c.args.size c.args.from c.requires.within c.requires.whole c.line_end.result end.low end.high end.part
          end.newline).lines;
      long = inl (omega (arith, end.low));
      fewest = fewest_lines c.args.block.now c.args.size c.args.from c.requires.within c.requires.whole c.line_end.result end.low end.part;
    }

pub returns-clause-chunk : goal.returns-clause-chunk
returns-clause-chunk c =
    let end = c.line_end.ensures in
    line_chunk c.args.block.now c.args.size c.args.from c.requires.within c.requires.whole c.line_end.result end.low end.high end.part end.newline
