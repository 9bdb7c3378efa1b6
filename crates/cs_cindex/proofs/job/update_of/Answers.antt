use Rattle.std.proofs.Common.{◌≡◌, ◌∙◌, ◌&&◌, [], false, sym, ap, refl, subst, Result, nat_eq}
use Rattle.cs_cindex.proofs.Common.{true≢false, Grows, Grows-same, Sent, CindexFault, has_no_path, Output, before, is_failed_write, base, early_walk_fault}
use Rattle.cs_tree.specs.FailureCount.{count_after}
use Rattle.cs_cindex.specs.Effects.{effects}
use Rattle.cs_cindex.specs.WalkAnswers.{AnswersWalk}
use Rattle.cs_cindex.proofs.StepLemmas.{walk_done}
use Rattle.cs_cindex.proofs.job.update_of.Goals as goal
use Rattle.cs_cindex.proofs.job.update_of.Goals.{else-job-2-via-then-job-2+else-is_empty, else-job-2-via-else-job-2}

pub returns-in-Err-clause-runs : goal.returns-in-Err-clause-runs
returns-in-Err-clause-runs g c =
    let unread = c.in-Err.ensures.lists.1 in (
      (λ index is. tt),
      (
        unread.0,
        record {
          reads = λ f. absurd (true≢false (sym c.if-job.true ∙ f));
          out = subst (λ (o : Output). Grows (g.O.Sink.model c.args.out.now) o.model []) (sym unread.1)
              (Grows-same (g.O.Sink.model c.args.out.now));
          err = before (Grows-same _, refl);
          listed = λ _. (Grows-same _, refl);
          writes = (ap (λ (o : Output). o.failed) unread.1, refl);
        },
      ),
      (λ _. tt),
    )

pub returns-in-Ok-Ok-walked_index-clause-runs : goal.returns-in-Ok-Ok-walked_index-clause-runs
returns-in-Ok-Ok-walked_index-clause-runs g c =
    let job = c.args.call.job.now in
    let part = c.in-Ok-Ok-walked_index.ensures.walk in
    let to = effects g.T.Tree.snapshot g.T.Tree.failed g.E.Sink.model g.E.Sink.failed c.args.tree.now
    c.walked_index.new.tree c.args.err.now c.walked_index.new.err in
    let walks : (job.reset && has_no_path job) ≡ false = elim c.else-job-2.branch [
      | else-job-2-via-then-job-2+else-is_empty w ↦ ap (λ b. b && has_no_path job) w.if-job-2.true
          ∙ ap (λ n. nat_eq n 0) (sym job.paths.ok.0) ∙ sym w.if-is_empty.ensures
      | else-job-2-via-else-job-2 w ↦ ap (λ b. b && has_no_path job) w.if-job-2.false
    ] in (
      (λ index is.
          let answer = subst (λ (r : Result Sent CindexFault). AnswersWalk job (base job index)
          (early_walk_fault job (base job index)) to r) c.in-Ok-Ok-walked_index.field-0-is (part.0 index is) in
          walk_done job to.tree _ _ (c.if-job.false, walks) (base job index) refl (Grows-same _) refl
          c.in-Ok-Ok-walked_index.index.bytes answer.1 answer.0 answer.2
          (subst (λ (r : Result Sent CindexFault). to.later.failed ≡ count_after is_failed_write r to.err.failed)
          c.in-Ok-Ok-walked_index.field-0-is part.1)),
      tt,
      (λ l. absurd (true≢false (sym l ∙ c.if-job.false))),
    )

pub returns-in-Err-walked_index-clause-runs : goal.returns-in-Err-walked_index-clause-runs
returns-in-Err-walked_index-clause-runs g c =
    let part = c.in-Err-walked_index.ensures.walk.1 in (
      (λ index is. tt),
      (
        part.0,
        record {
          reads = λ _. c.in-Err-walked_index.ensures.unread;
          out = Grows-same _;
          err = part.1;
          listed = λ l. absurd (true≢false (sym l ∙ c.if-job.false));
          writes = (refl, part.2);
        },
      ),
      (λ _. tt),
    )
