use Rattle.std.proofs.Common.{◌<◌, ap, sym, subst, ◌∙◌, inl, inr, length, w8, true≢false, arith}
use Rattle.std.specs.Int.{bit_at, trailing_zeros}
use Rattle.std.specs.Int.Count.{trailing_of_zero}
use Rattle.std.proofs.lemmas.Bool.{cases_eq}
use Rattle.std.proofs.lemmas.Nat.Bits.{bit_at-zero}
use Rattle.cs_prefilter.specs.declared.word.Word.{Word}
use Rattle.cs_prefilter.specs.WordAt.{WordAt}
use Rattle.cs_prefilter.specs.WordBuckets.{IsInPart}
use Rattle.cs_prefilter.proofs.BitLemmas.{lowest_within, other_bit_kept, lowest_rises}
use Rattle.cs_prefilter.proofs.WordBucketLemmas.{in_a_part, part_below}
use Rattle.cs_prefilter.proofs.comparing.WordList.occur.Goals as goal

pub buckets-init : goal.buckets-init
buckets-init c = record {
  none = λ i bucket d within part clear occurs. absurd (omega (arith, clear, c.requires.buckets i bucket d within part occurs));
  rises = omega arith;
  work = omega arith;
}

pub buckets-preserved : goal.buckets-preserved
buckets-preserved c =
    let n = length c.args.self.now.words.items in
    let rest = c.buckets.rest in
    let bucket = trailing_zeros w8 rest in
    let some : 0 < rest = omega (arith, c.buckets-test.true) in
    let fits = c.buckets.auto.rest-fits.fits in
    let this = c.occurs_in.ensures in
    record {
      none = λ i other d within part clear occurs. elim (cases_eq other bucket) [
        | inl same ↦ this.none c.if-occurs_in.false i d within (subst (λ b. IsInPart n b i) same part) occurs
        | inr differs ↦ c.buckets.invariant.none i other d within part
            (sym (other_bit_kept w8 rest some fits other (part_below n other i within part) differs) ∙ clear) occurs
      ];
      rises = omega (arith, c.buckets.invariant.rises, this.work.0);
      work = omega (arith, c.buckets.invariant.work, this.work.1, lowest_rises w8 rest some fits (trailing_of_zero 8));
    }

pub buckets-smaller : goal.buckets-smaller
buckets-smaller c =
    let rest = c.buckets.rest in
    let some : 0 < rest = omega (arith, c.buckets-test.true) in
    let fits = c.buckets.auto.rest-fits.fits in
    omega (arith, lowest_within w8 rest some fits, lowest_rises w8 rest some fits (trailing_of_zero 8))

pub returns-clause-found : goal.returns-clause-found
returns-clause-found c = (
  λ f. absurd (true≢false (sym f)),
  λ any.
      let part = in_a_part (length c.args.self.now.words.items) any.0 any.2 in
      absurd (c.buckets.invariant.none any.0 part.0 any.1 any.2 part.2
      (ap (λ n. bit_at n part.0) c.buckets-test.false ∙ bit_at-zero part.0)
      (subst (λ (w : Word). WordAt c.args.text.now c.args.offset w) (sym any.3) any.4)),
)
