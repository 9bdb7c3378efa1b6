use Rattle.std.proofs.Common.{refl, sym, ◌∙◌}
use Rattle.cs_tree.specs.SinkOutputs.{given}
use Rattle.cs_tree.proofs.SinkOutputLemmas.{counts_failed, has_failed, has_past}
use Rattle.cs_tree.proofs.sink_output.SinkOutput.print.Goals as goal

pub returns-then-is_some : goal.returns-then-is_some
returns-then-is_some g c =
    let old = c.args.self.now in (
      c.push.ensures,
      record {
        reference = refl;
        grows = (c.args.bytes.now, c.push.ensures);
        handed = λ start has. has_past old.fault start (g.O.Sink.model old.sink.now) (given old) c.args.bytes.now c.push.new.self.bytes
            (sym c.is_some.ensures ∙ c.if-is_some.true) c.push.ensures has;
        counted = λ count is. is;
      },
    )

pub returns-in-Err : goal.returns-in-Err
returns-in-Err g c =
    let old = c.args.self.now in
    let none = sym c.is_some.ensures ∙ c.if-is_some.false in (
      c.push.ensures,
      record {
        reference = refl;
        grows = (c.args.bytes.now, c.push.ensures);
        handed = λ start has. has_failed old.fault start (g.O.Sink.model old.sink.now) (g.O.Sink.model c.write_all.new.out) (given old) c.args.bytes.now
            c.push.new.self.bytes none c.push.ensures c.in-Err.ensures.model has;
        counted = λ count is. c.in-Err.ensures.failed ∙ counts_failed old.fault count (g.O.Sink.failed old.sink.now) c.in-Err.fault none is;
      },
    )
