use Rattle.std.proofs.Common.{◌≡◌, ◌∙◌, ◌<◌, true, true≢false, refl, sym, subst, arith, length-set}
use Rattle.std.proofs.lemmas.Bool.{eqb-true, leb-true}
use Rattle.cs_prefilter.proofs.ByteTestLemmas.{all_members}
use Rattle.cs_prefilter.proofs.PrefixLemmas.{byte_of, tests_more, prefix_of}
use Rattle.cs_prefilter.proofs.comparing.Prefix.of.Goals as goal
use Rattle.cs_prefilter.proofs.comparing.Prefix.of.Goals.{then-is_whole, else-is_whole, then-len-le8, else-len-le8}

pub loop-index-init : goal.loop-index-init
loop-index-init c = record {
  tests = λ i lt. absurd (omega (arith, lt));
  mask_long = refl;
  bytes_long = refl;
  short = λ e. elim c.if-len-le8.branch [
    | then-len-le8 w ↦ omega (arith, w.if-len-le8.true, c.len.ensures)
    | else-len-le8 w ↦ absurd (omega (arith, w.if-len-le8.false, leb-true _ 8 (sym w.is_whole-is ∙ e)))
  ];
  any = λ e b small. elim c.if-len-le8.branch [
    | then-len-le8 w ↦
        let len = w.len-then-len-le8.ensures in
        all_members c.args.word.now.before (sym len.members ∙ eqb-true w.len-then-len-le8.result 256 (sym w.is_whole-is ∙ e) ∙ sym len.bytes) b
        (subst (λ n. b < n) (sym len.bytes) small)
    | else-len-le8 w ↦ absurd (omega (arith, w.if-len-le8.false, leb-true _ 8 (sym w.is_whole-is ∙ e)))
  ];
}

pub loop-index-preserved : goal.loop-index-preserved
loop-index-preserved c =
    let old = c.loop-index in
    let both : c.if-is_whole.is_whole ≡ true → (old.is_whole ≡ true) × (c.byte_test-is_exact.result.1 ≡ true) =
    elim c.if-is_whole.branch [
      | then-is_whole w ↦ λ e. (w.if-is_whole.true, sym w.is_whole-is ∙ e)
      | else-is_whole w ↦ λ e. absurd (true≢false (sym e ∙ w.is_whole-is ∙ w.if-is_whole.false))
    ] in
    record {
      tests = tests_more c.args.word.now old.mask old.bytes old.is_whole c.if-is_whole.is_whole old.index c.byte_test-is_exact.result
          (omega (arith, c.loop-index-test.true, old.invariant.mask_long)) (omega (arith, c.loop-index-test.true, old.invariant.bytes_long))
          old.invariant.tests c.byte_test-is_exact.ensures both;
      mask_long = length-set old.mask old.index _ ∙ old.invariant.mask_long;
      bytes_long = length-set old.bytes old.index _ ∙ old.invariant.bytes_long;
      short = λ e. old.invariant.short (both e).0;
      any = λ e. old.invariant.any (both e).0;
    }

pub returns : goal.returns
returns c =
    let done = c.loop-index in
    prefix_of c.args.word.now (byte_of done.mask done.bytes done.is_whole)
    (λ i lt. done.invariant.tests i (omega (arith, lt, c.loop-index-test.false))) _ (omega (arith, c.from_le_bytes.ensures))
    (omega (arith, c.from_le_bytes-2.ensures)) (λ e. (done.invariant.short e, done.invariant.any e, λ i lt. e))
