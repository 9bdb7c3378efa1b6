-- What one job does, and what jobs do one after another, over any old index.
-- docs/PROMISES.md, "Jobs of cindex".
use Rattle.std.specs.Prelude.{◌≡◌, ℕ, true, false, List, [], ◌∷◌, map, Option, None, zip}
use Rattle.cs_tree.specs.Sinks.{CountsOne, SinkModel, Grows, HasFlushed, GrowsFlushed}
use Rattle.cs_tree.specs.TakesPrefix.{MayEnd}
use Rattle.cs_tree.specs.Snapshot.{Snapshot}
use Rattle.cs_args.specs.declared.jobs.IndexJob.{IndexJob}
use Rattle.cs_args.specs.declared.jobs.Reply.{Reply}
use Rattle.cs_args.specs.declared.jobs.Reply.TheVariants.{Done, Refused}
use Rattle.cs_cindex.specs.Next.{IsNext}
use Rattle.cs_cindex.specs.Refusals.{HasCause, base}
use Rattle.cs_cindex.specs.Output.{JobTree, Output, job_tree, output, WritesBy, JobPrintsBy, UnreadPrints, IsSilent, list_lines, is_write_refusal}
use Rattle.cs_history.specs.History.{History}
use Rattle.cs_history.specs.Jobs.{has_no_path}
use Rattle.cs_history.specs.Premises.{modelled_snapshot, Premises}
use Rattle.cs_history.specs.Headline.{Indexes}
use Rattle.cs_history.specs.JobKinds.{job_kind, Walks}
use Rattle.cs_history.specs.Replies.{AreRightReplies}

-- ---- the index

-- `-list` and a job that fails leave the old index, and `-reset` without paths leaves none.
abbrev pub KeepsIndex : IndexJob → Reply → Option (List ℕ) → Option (List ℕ) → Type 0
KeepsIndex job (Refused fault) old new = new ≡ old
KeepsIndex job Done old new =
    (job.list ≡ true → new ≡ old)
    × (job.list ≡ false → job.reset ≡ true → has_no_path job ≡ true → new ≡ None)

-- ---- the replies

-- each reply is right after the jobs before it and any earlier jobs that left the old index
abbrev pub RightAll : List (Option Snapshot) → Option (List ℕ) → List IndexJob → List Reply → Type 0
RightAll trees old jobs replies =
    (earlier : History) → Premises trees old earlier →
    AreRightReplies earlier jobs (map modelled_snapshot trees) replies

-- ---- job by job

-- both outputs
pub record Outputs : Type 0 where
  pub out : Output
  pub err : Output

-- The state that jobs change: the index and the outputs.
pub record State : Type 0 where
  pub index : Option (List ℕ)
  pub outputs : Outputs

-- of two sinks
module _ {O E : Type 0} (out_model : O → Option SinkModel) (out_failed : O → ℕ) (err_model : E → Option SinkModel)
    (err_failed : E → ℕ) where
  abbrev pub outputs : O → E → Outputs
  outputs out err = record { out = output out_model out_failed out; err = output err_model err_failed err }

  abbrev pub state : Option (List ℕ) → O → E → State
  state index out err = record { index = index; outputs = outputs out err }

-- the trees of jobs, before and after them
abbrev pub job_trees : {T : Type 0} → (T → Option Snapshot) → (T → ℕ) → List T → List T → List JobTree
job_trees snapshot failed trees later = map (λ both. job_tree snapshot failed both.0 both.1) (zip trees later)

-- What a job does before it flushes: the index is that of its history, an error has its cause, the old index is left
-- or merged as the kind of job requires, and the diagnostics are printed.
pub record IsStep (job : IndexJob) (tree : JobTree) (reply : Reply) (old new : State) : Type 0 where
  pub index : Indexes (job ∷ []) (tree.snapshot ∷ []) (reply ∷ []) old.index new.index
  pub cause : HasCause job tree.snapshot old.index reply
  pub keeps : KeepsIndex job reply old.index new.index
  -- for a job that walks; with `-reset` there is no base index
  pub walked : reply ≡ Done → Walks job → IsNext job tree.snapshot (base job old.index) new.index
  pub out : WritesBy reply (list_lines (job_kind job) old.index) old.outputs.out.model new.outputs.out.model
  pub err : JobPrintsBy (job_kind job) reply job tree old.index old.outputs.err new.outputs.err
  pub writes : CountsOne (is_write_refusal reply) old.outputs.out.failed new.outputs.out.failed
      old.outputs.err.failed new.outputs.err.failed

-- A job that succeeds ends by flushing both outputs once. A job that fails has flushed `out` at most once and `err`
-- never, so `out` is flushed first.
abbrev pub FlushesBy : Reply → Outputs → Outputs → Type 0
FlushesBy Done printed later =
    GrowsFlushed printed.out.model later.out.model [] × GrowsFlushed printed.err.model later.err.model []
FlushesBy (Refused fault) printed later =
    MayEnd [] printed.out.model later.out.model × Grows printed.err.model later.err.model []

-- What a job does: it prints, and then it flushes.
pub record IsWholeStep (job : IndexJob) (tree : JobTree) (reply : Reply) (old new : State) : Type 0 where
  pub printed : Outputs
  pub step : IsStep job tree reply old (record { index = new.index; outputs = printed })
  pub flushes : FlushesBy reply printed new.outputs
  pub out_failed : new.outputs.out.failed ≡ printed.out.failed
  pub err_failed : new.outputs.err.failed ≡ printed.err.failed

-- A job ends because a read of the old index failed; `-reset` reads none. Only a job that walks has printed anything,
-- and no write failed.
pub record IsUnread (job : IndexJob) (tree : JobTree) (IsOld : Option (List ℕ) → Type 0) (old new : Outputs) : Type 0 where
  pub reads : job.list ≡ false → job.reset ≡ false
  pub out : Grows old.out.model new.out.model []
  pub err : UnreadPrints job tree IsOld old.err new.err
  pub listed : job.list ≡ true → IsSilent tree old.err new.err
  pub writes : CountsOne false old.out.failed new.out.failed old.err.failed new.err.failed

-- A job that succeeds has flushed both outputs after everything that it printed.
abbrev pub LeavesFlushed : Reply → Outputs → Type 0
LeavesFlushed Done outputs = HasFlushed outputs.out.model × HasFlushed outputs.err.model
LeavesFlushed (Refused fault) outputs = Unit {0}

-- each job, with its tree and its reply, starts from the state that the one before it left
abbrev pub Steps : List (IndexJob × (JobTree × Reply)) → State → State → Type 0
Steps [] old new = new ≡ old
Steps (one ∷ more) old new = (mid : State) × IsWholeStep one.0 one.1.0 one.1.1 old mid × Steps more mid new
