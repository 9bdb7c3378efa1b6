use Rattle.std.proofs.Common.{◌+◌, ◌-◌, Bool, cond, ap, arith}
use Rattle.cs_prefilter.proofs.ScanLemmas.{none_joined, none_found}
use Rattle.cs_prefilter.proofs.comparing.WordList.first.Goals as goal

pub strides-preserved : goal.strides-preserved
strides-preserved g c =
    let words = c.args.self.now.words.items in
    let text = c.args.text.now in
    let before = c.strides.invariant in
    let stop = c.first_in_stride-stop.result in
    let this = c.first_in_stride-stop.ensures in
    let skipped = c.skip_strides-offset.ensures in
    let no_word = ap (λ (b : Bool). stop.offset - c.strides.offset + cond b 1 0) c.if-stop.false in
    record {
      low = omega (arith, before.low, this.stop.low, skipped.low);
      high = skipped.high;
      none = none_joined words text c.args.from stop.offset c.skip_strides-offset.result
          (none_joined words text c.args.from c.strides.offset stop.offset before.none this.stop.none)
          (none_found words text (g.P.Probe.Finds c.args.probe.now) c.requires.finds stop.offset c.skip_strides-offset.result skipped.none);
      rises = omega (arith, before.rises, this.work.0, skipped.work);
      work = omega (arith, before.work, before.low, this.stop.low, this.work.1, no_word, skipped.low, skipped.work);
    }

pub returns-then-stop-clause-stop : goal.returns-then-stop-clause-stop
returns-then-stop-clause-stop g c =
    let before = c.strides.invariant in
    let this = c.first_in_stride-stop.ensures.stop in
    record {
      low = omega (arith, before.low, this.low);
      high = this.high;
      none = none_joined c.args.self.now.words.items c.args.text.now c.args.from c.strides.offset
          c.first_in_stride-stop.result.offset before.none this.none;
      stops = this.stops;
    }

pub returns-clause-stop : goal.returns-clause-stop
returns-clause-stop g c =
    let before = c.strides.invariant in
    let this = c.first_in_rest-stop.ensures.stop in
    record {
      low = omega (arith, before.low, this.low);
      high = this.high;
      none = none_joined c.args.self.now.words.items c.args.text.now c.args.from c.strides.offset
          c.first_in_rest-stop.result.offset before.none this.none;
      stops = this.stops;
    }
