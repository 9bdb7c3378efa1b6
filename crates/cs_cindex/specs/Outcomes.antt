-- Inside a job: its reply, the index after it, and what it printed.
use Rattle.std.specs.Prelude.{◌≡◌, ℕ, List, [], ◌∷◌, Option, None, Result, Ok, Err, MatchResult}
use Rattle.cs_tree.specs.Snapshot.{Snapshot}
use Rattle.cs_args.specs.declared.jobs.Reply.{Reply}
use Rattle.cs_args.specs.declared.jobs.Reply.TheVariants.{Done, Refused}
use Rattle.cs_args.specs.declared.jobs.IndexJob.{IndexJob}
use Rattle.cs_args.specs.declared.fault.CindexFault.{CindexFault}
use Rattle.cs_storage.specs.FileAfter.{file_after}
use Rattle.cs_storage.specs.declared.update.IndexUpdate.{IndexUpdate}
use Rattle.cs_history.specs.History.{History}
use Rattle.cs_history.specs.Premises.{modelled_snapshot, Premises}
use Rattle.cs_history.specs.Replies.{IsRightReply}
use Rattle.cs_cindex.specs.Refusals.{EarlyOr}
use Rattle.cs_cindex.specs.Output.{JobTree, Output, WalkPrints, WalkPrintsSome}
use Rattle.cs_cindex.specs.Steps.{Outputs, State, IsStep, IsWholeStep}

-- ---- the index

-- the index after the job; a job that fails leaves the old one
abbrev pub index_from : Option (List ℕ) → Result IndexUpdate CindexFault → Option (List ℕ)
index_from old (Ok update) = file_after update old
index_from old (Err fault) = old

abbrev pub reply_of : {A : Type 0} → Result A CindexFault → Reply
reply_of (Ok answer) = Done
reply_of (Err fault) = Refused fault

-- the job has done its step, with the index and the reply of this update
abbrev pub IsStepTo : IndexJob → JobTree → Result IndexUpdate CindexFault → State → Outputs → Type 0
IsStepTo job tree update old later =
    IsStep job tree (reply_of update) old (record { index = index_from old.index update; outputs = later })

-- the same, including its flushes
abbrev pub IsWholeStepTo : IndexJob → JobTree → Result IndexUpdate CindexFault → State → Outputs → Type 0
IsWholeStepTo job tree update old later =
    IsWholeStep job tree (reply_of update) old
    (record { index = index_from old.index update; outputs = later })

-- ---- the reply

-- the reply is right after any earlier jobs that left the old index
abbrev pub RightAfter : Option Snapshot → Option (List ℕ) → IndexJob → Reply → Type 0
RightAfter tree old job reply =
    (earlier : History) → Premises (tree ∷ []) old earlier →
    IsRightReply earlier job (modelled_snapshot tree) reply

-- A result is `Ok` only without an early error, and each error has its cause.
abbrev pub AnswersFor : {A : Type 0} → Result A CindexFault → Option CindexFault → (CindexFault → Type 0) →
    Type 0
AnswersFor result early IsLate =
    MatchResult result (λ _. early ≡ None) (λ fault. EarlyOr early (IsLate fault) fault)

-- ---- what was printed

-- the diagnostics of a job that walks, by its result
abbrev pub WalkPrintsFor : {A : Type 0} → Result A CindexFault → Option CindexFault → IndexJob → JobTree →
    Option (List ℕ) → Output → Output → Type 0
WalkPrintsFor result early job tree old err later =
    MatchResult result (λ _. WalkPrints job tree old err later) (λ fault. WalkPrintsSome early fault job tree old err later)
