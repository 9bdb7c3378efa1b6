use Rattle.std.proofs.Common.{◌+◌, arith}
use Rattle.cs_match.proofs.NewlineLemmas.{next_none, next_some}
use Rattle.cs_match.proofs.WholeLineLemmas.{whole_line}
use Rattle.codesearch_c.proofs.lines.part_end.Goals as goal

pub returns-in-Some : goal.returns-in-Some
returns-in-Some c =
    let h = next_some c.args.block.now c.args.start c.in-Some.offset c.in-Some.ensures in (
      omega arith,
      record {
        low = omega arith;
        high = omega (arith, h.1);
        whole = whole_line c.args.block.now c.args.start (c.args.start + c.in-Some.offset) h.0 h.3;
      },
    )

pub returns-in-None : goal.returns-in-None
returns-in-None c = next_none c.args.block.now c.args.start c.in-None.ensures
