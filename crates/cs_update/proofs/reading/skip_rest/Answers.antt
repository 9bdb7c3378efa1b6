use Rattle.std.proofs.Common.{◌++◌, take}
use Rattle.cs_update.proofs.SourceLemmas.{more_read}
use Rattle.cs_update.proofs.reading.skip_rest.Goals as goal

pub reads-preserved : goal.reads-preserved
reads-preserved g c =
    let was = c.reads.invariant in
    let model = g.R.Source.model in
    let more = take c.in-Ok.field-0 c.read.new.buf in
    record {
      read = (
        was.read.0 ++ more,
        more_read (model c.args.source.now) (model c.reads.source) (model c.read.new.self) was.read.0 more
            was.read.1 c.in-Ok.ensures.bytes.0,
      );
      keeps = g.met.R.Source.keeps_trans c.args.source.now c.reads.source c.read.new.self was.keeps c.in-Ok.ensures.keeps;
    }
