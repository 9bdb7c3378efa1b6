use Rattle.std.proofs.Common.{◌≡◌, ℕ, ap, sym, subst, ◌∙◌, inl, inr, length, get_or, arith}
use Rattle.std.proofs.lemmas.Bool.{cases_lt}
use Rattle.std.proofs.lemmas.List.{get_or_default}
use Rattle.cs_prefilter.specs.declared.word.Word.{Word}
use Rattle.cs_prefilter.specs.WordBuckets.{IsInPart}
use Rattle.cs_prefilter.proofs.WordBucketLemmas.{same_part}
use Rattle.cs_prefilter.specs.Buckets.{HasBucket}
use Rattle.cs_prefilter.proofs.BucketLemmas.{HasBucket-kept}
use Rattle.cs_prefilter.proofs.probe.WordMasks.of.Goals as goal

pub loop-i-preserved : goal.loop-i-preserved
loop-i-preserved c k bucket d below part =
    let words = c.args.words.now in
    let i = c.loop-i.i in
    let word = c.index-words-i.result in
    let new = c.add.new.self in
    elim (cases_lt k i) [
      | inl before ↦ HasBucket-kept c.loop-i.word_masks new c.add.ensures.keeps bucket (get_or words k d)
          (c.loop-i.invariant k bucket d before part)
      | inr here ↦
          let last : i ≡ k = omega arith in
          let own = same_part (length words) c.bucket_of.result bucket i c.bucket_of.ensures.is (subst (λ j. IsInPart (length words) bucket j) (sym last) part) in
          let this : HasBucket new bucket word = subst (λ (b : ℕ). HasBucket new b word) own c.add.ensures.has in
          let is : word ≡ get_or words k d = c.index-words-i.is ∙ get_or_default words i word d c.loop-i-test.true ∙ ap (λ j. get_or words j d) last in
          subst (λ (w : Word). HasBucket new bucket w) is this
    ]

pub returns : goal.returns
returns c i bucket d within part = c.loop-i.invariant i bucket d (omega arith) part
