-- What a walk answers and prints: that of some paths, and that of a job.
use Rattle.std.specs.Prelude.{◌≡◌, ◌⊎◌, ℕ, Bool, List, Option, Some, IfOk, MatchResult, Result}
use Rattle.cs_tree.specs.FailureCount.{count_after}
use Rattle.cs_tree.specs.PathSet.{Paths}
use Rattle.cs_tree.specs.Snapshot.{Snapshot}
use Rattle.cs_tree.specs.declared.fault.IoFault.{IoFault}
use Rattle.cs_tree.specs.declared.fault.IoFault.TheVariants.{Failed}
use Rattle.cs_args.specs.declared.jobs.IndexJob.{IndexJob}
use Rattle.cs_args.specs.declared.fault.CindexFault.{CindexFault}
use Rattle.cs_args.specs.declared.fault.CindexFault.TheVariants.{TooLarge}
use Rattle.cs_tree.specs.declared.output.Sent.{Sent}
use Rattle.cs_history.specs.Premises.{IsShort}
use Rattle.cs_cindex.specs.Effects.{Effects, PrintsWalk, PrintsWalkPrefix}
use Rattle.cs_cindex.specs.Files.{IsIndexingFault}
use Rattle.cs_cindex.specs.Next.{IsIndex, IsIndexOf, IsNext, IsTreeTooLarge}
use Rattle.cs_cindex.specs.Outcomes.{AnswersFor, WalkPrintsFor}
use Rattle.cs_cindex.specs.Output.{AreTooLarge, UnreadPrints, is_failed_write}
use Rattle.cs_cindex.specs.Refusals.{IsWalkFault}

-- ---- of some paths

-- The bytes are the index of what a walk from the paths finds: fewer than 2^32 bytes, an index of these paths, and, if
-- the tree is modelled, of its files.
abbrev pub IsWalkIndex : Option Snapshot → Paths → List ℕ → Type 0
IsWalkIndex tree paths bytes = IsIndexOf tree paths bytes × IsIndex paths bytes × IsShort (Some bytes)

-- Why there is no such index. If it would be too large, all diagnostics were printed, unless that was certain before.
abbrev pub IsWalkFailure : Bool → Paths → Effects → CindexFault → Type 0
IsWalkFailure log_skip paths to fault =
    IsIndexingFault fault
    × (fault ≡ TooLarge → IsTreeTooLarge to.tree.snapshot paths)
    × (fault ≡ TooLarge → AreTooLarge to.tree.snapshot paths ⊎ PrintsWalk log_skip paths to)
    × PrintsWalkPrefix log_skip paths to

-- The answer has the bytes of the index of a walk from the paths, and its diagnostics were printed.
abbrev pub IndexesWalk : {A : Type 0} → Result A CindexFault → (A → List ℕ) → Bool → Paths → Effects → Type 0
IndexesWalk result bytes_of log_skip paths to =
    MatchResult result
    (λ index. IsWalkIndex to.tree.snapshot paths (bytes_of index) × PrintsWalk log_skip paths to)
    (IsWalkFailure log_skip paths to)
    × (to.later.failed ≡ count_after is_failed_write result to.err.failed)

-- ---- of a job

-- over a base index: the index after the job, its error, and its diagnostics
abbrev pub AnswersWalk : IndexJob → Option (List ℕ) → Option CindexFault → Effects → Result Sent CindexFault → Type 0
AnswersWalk job old early to result =
    IfOk result (λ sent. IsNext job to.tree.snapshot old (Some sent.bytes))
    × AnswersFor result early (IsWalkFault job to.tree.snapshot old)
    × WalkPrintsFor result early job to.tree old to.err to.later

-- The same over an old index in a store, unless a read of it fails. The functions give the base index for the old one,
-- and the early error for the base index.
abbrev pub WalksOver :
    IndexJob → (Option (List ℕ) → Type 0) → (Option (List ℕ) → Option (List ℕ)) →
    (Option (List ℕ) → Option CindexFault) → Effects → Result (Result Sent CindexFault) IoFault → Type 0
WalksOver job IsOld base_of early_of to result =
    ((index : Option (List ℕ)) → IsOld index →
    IfOk result (AnswersWalk job (base_of index) (early_of (base_of index)) to))
    × MatchResult result
    (λ walked. to.later.failed ≡ count_after is_failed_write walked to.err.failed)
    (λ fault. (fault ≡ Failed) × UnreadPrints job to.tree IsOld to.err to.later × (to.later.failed ≡ to.err.failed))
