use Rattle.std.proofs.Common.{◌≡◌, ◌∙◌, ℕ, List, false, cond, refl, ap, sym, map, subst, Option, Some, None, Result, string_bytes, option_map, IfOk, MatchResult}
use Rattle.cs_cindex.proofs.Common.{option_or, IoFault, given_texts, first_bad, Sent, IndexJob, CindexFault, BadPath, Write, Memory, AreCleanFault, UnreadPrints, count_if, is_failed_write, output, base, base_fault, early_walk_fault}
use Rattle.cs_tree.specs.FailureCount.{count_after}
use Rattle.cs_tree.specs.declared.fault.IoFault.TheVariants.{Failed}
use Rattle.cs_cindex.specs.Effects.{Effects, effects}
use Rattle.cs_cindex.specs.OldIndex.{IsIndex}
use Rattle.cs_cindex.specs.WalkAnswers.{AnswersWalk}
use Rattle.cs_cindex.proofs.JobOutputLemmas.{unclean_answers, unclean_printed}
use Rattle.cs_cindex.proofs.StoredIndexLemmas.{known_bytes}
use Rattle.cs_cindex.proofs.walked.walked_index.Goals as goal

no_write : (folder : List ℕ) (texts : List (List ℕ)) (fault : CindexFault) → AreCleanFault folder texts fault →
    is_failed_write fault ≡ false
no_write folder texts (BadPath path_index) h = refl
no_write folder texts Memory h = refl
no_write folder texts Write h = absurd h
no_write folder texts _ h = refl

pub returns-in-Err-clause-walk : goal.returns-in-Err-clause-walk
returns-in-Err-clause-walk g c =
    let job = c.args.call.job.now in
    let fault = c.in-Err.fault in
    let texts = subst (λ paths. AreCleanFault c.deref.result.now (map string_bytes paths) fault) c.deref-2.ensures.value
    c.in-Err.ensures.fault in
    let cleaned = subst (λ folder. AreCleanFault folder (given_texts job) fault) c.deref.ensures texts in
    let written = no_write c.deref.result.now (given_texts job) fault texts in (
      (λ index is. (
        tt,
        unclean_answers job (g.T.Tree.snapshot c.args.tree.now) (base job index) fault cleaned,
        unclean_printed job (g.T.Tree.snapshot c.args.tree.now) (base job index) fault (g.T.Tree.failed c.args.tree.now)
            (output g.E.Sink.model g.E.Sink.failed c.args.err.now) written cleaned,
      )),
      sym (ap (λ b. count_if b (g.E.Sink.failed c.args.err.now)) written),
    )

-- ---- the old index is the base index

module _ (job : IndexJob) (index : Option (List ℕ)) (bytes : List ℕ) (kept : job.reset ≡ false)
    (is : index ≡ Some bytes) (good : first_bad (string_bytes job.cwd) (given_texts job) ≡ None) where
  base_is : Some bytes ≡ base job index
  base_is = sym (ap (λ b. cond b None index) kept ∙ is)

  early_is : base_fault job (Some bytes) ≡ early_walk_fault job (base job index)
  early_is =
      sym (ap (λ b. option_or (option_map (λ path_index. BadPath path_index) b) (base_fault job (Some bytes))) good)
      ∙ ap (early_walk_fault job) base_is

  answers_on : (to : Effects) (r : Result (Result Sent CindexFault) IoFault) →
      IfOk r (AnswersWalk job (Some bytes) (base_fault job (Some bytes)) to) →
      IfOk r (AnswersWalk job (base job index) (early_walk_fault job (base job index)) to)
  answers_on to r h =
      subst (λ early. IfOk r (AnswersWalk job (base job index) early to)) early_is
      (subst (λ old. IfOk r (AnswersWalk job old (base_fault job (Some bytes)) to)) base_is h)

pub returns-in-Some-clause-walk : goal.returns-in-Some-clause-walk
returns-in-Some-clause-walk g c =
    let job = c.args.call.job.now in
    let part = c.extended_index.ensures.walk in
    let to = effects g.T.Tree.snapshot g.T.Tree.failed g.E.Sink.model g.E.Sink.failed c.args.tree.now
    c.extended_index.new.tree c.args.err.now c.extended_index.new.err in (
      (λ index is.
          let here = subst (λ o. IsIndex g.S.Store.model o index) c.in-Some.is is in
          let k = known_bytes (g.S.Store.model c.in-Some.store) index here in
          let good = subst (λ folder. first_bad folder (given_texts job) ≡ None) c.deref.ensures
          (subst (λ paths. first_bad c.deref.result.now (map string_bytes paths) ≡ None) c.deref-2.ensures.value
          c.in-Ok.ensures.fault) in
          answers_on job index k.bytes c.if-not-job.true k.index_is good to c.extended_index.result
          (subst (λ old. IfOk c.extended_index.result (AnswersWalk job old (base_fault job old) to)) k.index_is
          (part.0 index here))),
      subst (λ o. MatchResult c.extended_index.result
          (λ (walked : Result Sent CindexFault). to.later.failed ≡ count_after is_failed_write walked to.err.failed)
          (λ (fault : IoFault). (fault ≡ Failed) × UnreadPrints job to.tree (IsIndex g.S.Store.model o) to.err to.later
          × (to.later.failed ≡ to.err.failed))) (sym c.in-Some.is) part.1,
    )
