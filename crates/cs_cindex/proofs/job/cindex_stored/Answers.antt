use Rattle.std.proofs.Common.{◌≡◌, refl, subst, Result}
use Rattle.cs_cindex.proofs.Common.{Grows-same, leaves_flushed, CindexFault, IndexJob, Done, Refused, IsStepTo, JobTree, Outputs, State}
use Rattle.cs_storage.specs.FileAfter.{file_after}
use Rattle.cs_storage.specs.declared.update.IndexUpdate.{IndexUpdate}
use Rattle.cs_cindex.proofs.OutcomeLemmas.{right_after}
use Rattle.cs_cindex.proofs.StepLemmas.{out_unflushed, err_unflushed}
use Rattle.cs_cindex.proofs.job.cindex_stored.Goals as goal

stepped : (job : IndexJob) (tree : JobTree) (old : State) (later : Outputs) (r s : Result IndexUpdate CindexFault) →
    r ≡ s → IsStepTo job tree r old later → IsStepTo job tree s old later
stepped job tree old later r s e step = subst (λ r. IsStepTo job tree r old later) e step

pub returns-in-Ok-Err-clause-replies : goal.returns-in-Ok-Err-clause-replies
returns-in-Ok-Err-clause-replies g c = λ index is.
    let step = stepped _ _ _ _ _ _ c.in-Ok-Err.field-0-is (c.in-Ok-Err.ensures.runs.0 index is) in
    right_after c.args.call.job.now (g.T.Tree.snapshot c.args.tree.now) index index (Refused c.in-Ok-Err.fault) step.cause step.walked

pub returns-in-Err-flush-clause-runs : goal.returns-in-Err-flush-clause-runs
returns-in-Err-flush-clause-runs g c = (
  (λ index is.
      let step = stepped _ _ _ _ _ _ c.in-Ok-Ok.field-0-is (c.in-Ok-Ok.ensures.runs.0 index is) in
      out_unflushed _ _ _ _ _ _ step c.from.result _ c.from.ensures c.in-Err-flush.ensures.failed refl
      c.in-Err-flush.ensures.bytes (Grows-same _)),
  tt,
  (λ _. tt),
)

pub returns-in-Err-flush-2-clause-runs : goal.returns-in-Err-flush-2-clause-runs
returns-in-Err-flush-2-clause-runs g c = (
  (λ index is.
      let step = stepped _ _ _ _ _ _ c.in-Ok-Ok.field-0-is (c.in-Ok-Ok.ensures.runs.0 index is) in
      err_unflushed _ _ _ _ _ _ step c.from-in-Err-flush-2.result _ c.from-in-Err-flush-2.ensures
      c.in_default.ensures.failed c.in-Err-flush-2.ensures.failed c.in_default.ensures.bytes
      c.in-Err-flush-2.ensures.bytes),
  tt,
  (λ _. tt),
)

pub returns-clause-replies : goal.returns-clause-replies
returns-clause-replies g c = λ index is.
    let step = stepped _ _ _ _ _ _ c.in-Ok-Ok.field-0-is (c.in-Ok-Ok.ensures.runs.0 index is) in
    right_after c.args.call.job.now (g.T.Tree.snapshot c.args.tree.now) index (file_after c.in-Ok-Ok.update index) Done step.cause step.walked

pub returns-clause-flushed : goal.returns-clause-flushed
returns-clause-flushed g c = (leaves_flushed _ _ _ c.in_default.ensures.bytes, leaves_flushed _ _ _ c.in_default-flush.ensures.bytes)
