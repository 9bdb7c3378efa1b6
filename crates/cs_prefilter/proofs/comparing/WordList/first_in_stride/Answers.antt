use Rattle.std.proofs.Common.{◌≡◌, ◌+◌, ◌<◌, ap, sym, ◌∙◌, w64, true≢false, arith}
use Rattle.std.specs.Int.{trailing_zeros}
use Rattle.std.specs.Int.Count.{trailing_of_zero}
use Rattle.cs_prefilter.proofs.BitLemmas.{lowest_within, lowest_rises}
use Rattle.cs_prefilter.proofs.ScanLemmas.{none_before_lowest, none_cleared, none_unmarked, in_buckets}
use Rattle.cs_prefilter.proofs.comparing.WordList.first_in_stride.Goals as goal

pub marks-init : goal.marks-init
marks-init g c = record {
  none = none_unmarked c.args.self.now.words.items c.args.text.now (g.P.Probe.Finds c.args.probe.now) c.requires.finds c.args.offset
      c.marks-rest.result c.marks-rest.ensures;
  wasted = omega arith;
  rises = omega arith;
  work = omega arith;
}

pub occur-requires-clause-buckets : goal.occur-requires-clause-buckets
occur-requires-clause-buckets g c =
    in_buckets c.args.self.now.words.items c.args.text.now (g.P.Probe.Finds c.args.probe.now) c.requires.finds
    (c.args.offset + trailing_zeros w64 c.marks.rest) c.buckets.result c.buckets.ensures

pub marks-preserved : goal.marks-preserved
marks-preserved g c =
    let rest = c.marks.rest in
    let some : 0 < rest = omega (arith, c.marks-test.true) in
    let fits = c.marks.auto.rest-fits.fits in
    let rises = lowest_rises w64 rest some fits (trailing_of_zero 64) in
    record {
      none = none_cleared c.args.self.now.words.items c.args.text.now c.args.offset rest some fits c.marks.invariant.none
          (λ inside any. absurd (true≢false (sym (c.occur.ensures.found.1 any) ∙ c.if-occur.false)));
      wasted = omega (arith, c.marks.invariant.wasted, rises);
      rises = omega (arith, c.marks.invariant.rises, c.occur.ensures.work.0);
      work = omega (arith, c.marks.invariant.work, c.occur.ensures.work.1, rises);
    }

pub marks-smaller : goal.marks-smaller
marks-smaller g c =
    let rest = c.marks.rest in
    let some : 0 < rest = omega (arith, c.marks-test.true) in
    let fits = c.marks.auto.rest-fits.fits in
    omega (arith, lowest_within w64 rest some fits, lowest_rises w64 rest some fits (trailing_of_zero 64))

pub returns-then-occur-clause-stop : goal.returns-then-occur-clause-stop
returns-then-occur-clause-stop g c =
    let rest = c.marks.rest in
    let some : 0 < rest = omega (arith, c.marks-test.true) in
    let fits = c.marks.auto.rest-fits.fits in
    let below = lowest_within w64 rest some fits in
    record {
      low = omega arith;
      high = omega (arith, below, c.requires.within);
      none = none_before_lowest c.args.self.now.words.items c.args.text.now c.args.offset rest
          (c.args.offset + trailing_zeros w64 rest) fits c.marks.invariant.none (omega arith) (omega (arith, below, c.requires.within));
      stops = λ t. c.occur.ensures.found.0 c.if-occur.true;
    }

pub returns-clause-stop : goal.returns-clause-stop
returns-clause-stop g c =
    let rest = c.marks.rest in
    let whole : trailing_zeros w64 rest ≡ 64 = ap (λ n. trailing_zeros w64 n) c.marks-test.false ∙ trailing_of_zero 64 in
    record {
      low = omega arith;
      high = omega (arith, c.requires.within);
      none = none_before_lowest c.args.self.now.words.items c.args.text.now c.args.offset rest (c.args.offset + 64)
          c.marks.auto.rest-fits.fits c.marks.invariant.none (omega (arith, whole)) (omega (arith, c.requires.within));
      stops = λ t. absurd (true≢false (sym t));
    }
