use Rattle.std.proofs.Common.{◌≡◌, ◌∙◌, ℕ, List, Result, Ok, Err, ap, sym, subst, IfErr, IfOk, MatchResult, ◌≤◌, ◌<◌, ◌^◌, true, false, length, refl, arith}
use Rattle.cs_cindex.proofs.Common.{are_distinct, Parts, Sent, CindexFault, Memory, IsMergeRefusal, MergesShort, true≢false, and_from, false_from_ne_true, are_whole, IsMergeable, refusal_of}
use Rattle.cs_index.specs.Opening.{opening}
use Rattle.cs_index.specs.OpenedParts.{are_covered}
use Rattle.cs_merge.specs.declared.fault.MergeFault.{MergeFault}
use Rattle.cs_merge.specs.Mergeable.{both_distinct, both_whole, merge_index}
use Rattle.cs_merge.specs.MergeResult.{most_bytes, IsMerged, IsMergeFault, unsorted, uncovered, damaged, long, refused}
use Rattle.cs_cindex.proofs.walked.merge_old.Goals as goal

module _ (old newer : Parts) (once : are_distinct old.names ≡ true) where
  abbrev Refuses : MergeFault → Type 0
  Refuses fault = IsMergeRefusal old (Ok newer) (refusal_of fault)

  distinct : IsMergeable newer → both_distinct old newer ≡ true
  distinct sound = and_from (are_distinct old.names) (are_distinct newer.names) once sound.distinct

  covered : IsMergeable newer → are_covered newer ≡ true
  unfolding are_covered
  covered sound = sound.covered

  old_damaged : IsMergeable newer → both_whole old newer ≡ false → are_whole old ≡ false
  old_damaged sound fails = false_from_ne_true (are_whole old)
      (λ whole. true≢false (sym (and_from (are_whole old) (are_whole newer) whole sound.whole) ∙ fails))

  refusal : (fault : MergeFault) → IsMergeFault old newer most_bytes fault → IsMergeRefusal old (Ok newer) (refusal_of fault)
  refusal fault (unsorted is fails) = subst Refuses (sym is) (λ sound. true≢false (sym (distinct sound) ∙ fails))
  refusal fault (uncovered is holds fails) = subst Refuses (sym is) (λ sound. absurd (true≢false (sym (covered sound) ∙ fails)))
  refusal fault (damaged is tested fails) = subst Refuses (sym is) (λ sound. (refl, old_damaged sound fails))
  refusal fault (long is mergeable more) =
      subst Refuses (sym is) (
        mergeable,
        (let above : 2 ^ 32 ≤ length (merge_index old newer) = omega (arith, more) in
            above),
      )
  refusal fault (refused is tested) = subst Refuses (sym is) tt

-- an answer of the merge
abbrev Answers : Parts → Parts → Result Sent MergeFault → Type 0
Answers old newer answer = MatchResult answer (λ index. IsMerged old newer most_bytes index.bytes)
    (λ fault. IsMergeFault old newer most_bytes fault)

merged_short : (old newer : Parts) (index : List ℕ) → IsMerged old newer most_bytes index → MergesShort old (Ok newer) index
merged_short old newer index merged = record {
  merges = (merged.mergeable, merged.index.are);
  short = (let least = merged.index.short in let below : length index < 2 ^ 32 = omega (arith, least) in below);
}

pub returns-in-Ok-Ok-clause-merged : goal.returns-in-Ok-Ok-clause-merged
returns-in-Ok-Ok-clause-merged g c = λ bytes known parts are.
    subst (λ o. MergesShort parts o c.in-Ok-Ok.index.bytes) c.in-Ok.ensures.opens
    (merged_short parts c.in-Ok.index c.in-Ok-Ok.index.bytes
    (subst (Answers parts c.in-Ok.index) c.in-Ok-Ok.field-0-is (c.in-Ok-Ok.ensures.merged bytes known parts are)))

pub returns-in-Ok-Err-clause-merged : goal.returns-in-Ok-Err-clause-merged
returns-in-Ok-Err-clause-merged g c = λ bytes known parts are.
    subst (λ o. IsMergeRefusal parts o c.merge_refusal.result) c.in-Ok.ensures.opens
    (subst (IsMergeRefusal parts (Ok c.in-Ok.index)) (sym c.merge_refusal.ensures)
    (refusal parts c.in-Ok.index (ap are_distinct (sym are.names) ∙ c.requires.fit.distinct) c.in-Ok-Err.fault
    (subst (Answers parts c.in-Ok.index) c.in-Ok-Err.field-0-is
    (c.in-Ok-Err.ensures.merged bytes known parts are))))
