use Rattle.std.proofs.Common.{◌<◌, List, Bool, length, get_or, ap, sym, subst, ◌∙◌, arith}
use Rattle.std.proofs.lemmas.Bool.{ltb-true}
use Rattle.std.proofs.lemmas.List.{get_or_default}
use Rattle.cs_syntax.specs.Matching.{member}
use Rattle.cs_prefilter.specs.declared.probe.WordMasks.{WordMasks}
use Rattle.cs_prefilter.specs.Buckets.{SetIsInBucket, IsInBucket}
use Rattle.cs_prefilter.proofs.BucketLemmas.{masks_keep, masks_have}
use Rattle.cs_prefilter.proofs.RunLemmas.{is_a_byte}
use Rattle.cs_prefilter.proofs.probe.WordMasks.add.Goals as goal
use Rattle.cs_prefilter.proofs.probe.WordMasks.add.Goals.{in-Some, in-None}

pub loop-i-preserved : goal.loop-i-preserved
loop-i-preserved c =
    let old = c.loop-i in
    let word = c.args.word.now in
    let bucket = c.args.bucket in
    elim c.match-get.branch [
      | in-Some w ↦
          let found = w.in-Some.ensures.lookup in
          let within : old.i < length word.sets.items = omega (arith, ltb-true old.i (length c.deref.result.now) (sym found.0), c.deref.ensures.len) in
          let set = λ (d : List Bool). found.1 ∙ ap (λ (s : List (List Bool)). get_or s old.i w.in-Some.set.now) c.deref.ensures.value
          ∙ get_or_default word.sets.items old.i w.in-Some.set.now d within in
          record {
            has = λ j m below. subst (λ (s : WordMasks). SetIsInBucket (get_or s.at j m) word j bucket) (sym w.self-is)
                (masks_have old.self.at old.i _ (omega arith) word bucket old.invariant.has
                (λ b d small may. w.add.ensures.has b small (ap (λ s. member s b) (set d) ∙ may within)) j m below);
            keeps = λ j m lt b g h. subst (λ (s : WordMasks). IsInBucket (get_or s.at j m) b g) (sym w.self-is)
                (masks_keep old.self.at old.i _ (omega arith) _ w.add.ensures.keeps j m b g (old.invariant.keeps j m lt b g h));
          }
      | in-None w ↦ record {
        has = λ j m below. subst (λ (s : WordMasks). SetIsInBucket (get_or s.at j m) word j bucket) (sym w.self-is)
            (masks_have old.self.at old.i _ (omega arith) word bucket old.invariant.has
            (λ b d small may. w.add-in-None.ensures.has b small (ap (λ s. member s b) w.all.ensures ∙ is_a_byte b small)) j m below);
        keeps = λ j m lt b g h. subst (λ (s : WordMasks). IsInBucket (get_or s.at j m) b g) (sym w.self-is)
            (masks_keep old.self.at old.i _ (omega arith) _ w.add-in-None.ensures.keeps j m b g (old.invariant.keeps j m lt b g h));
      }
    ]

pub returns-clause-has : goal.returns-clause-has
returns-clause-has c i m within = c.loop-i.invariant.has i m (omega arith)
