-- A job over an old index in a store. docs/PROMISES.md, "Jobs of cindex".
use Rattle.std.specs.Prelude.{◌≡◌, ℕ, true, List, Option, IfOk, IfErr, Result}
use Rattle.cs_tree.specs.declared.fault.IoFault.{IoFault}
use Rattle.cs_tree.specs.declared.fault.IoFault.TheVariants.{Failed}
use Rattle.cs_args.specs.declared.jobs.IndexJob.{IndexJob}
use Rattle.cs_args.specs.declared.fault.CindexFault.{CindexFault}
use Rattle.cs_storage.specs.declared.update.IndexUpdate.{IndexUpdate}
use Rattle.cs_storage.specs.declared.update.IndexUpdate.TheVariants.{Keep}
use Rattle.cs_cindex.specs.Output.{JobTree}
use Rattle.cs_cindex.specs.Steps.{IsUnread, Outputs, State}

-- The job does its step from the old index and the outputs as they were, unless a read of the index fails. `-list`
-- keeps the index.
abbrev pub RunsJob :
    (IndexJob → JobTree → Result IndexUpdate CindexFault → State → Outputs → Type 0) → IndexJob → JobTree →
    (Option (List ℕ) → Type 0) → Outputs → Outputs → Result (Result IndexUpdate CindexFault) IoFault → Type 0
RunsJob Does job tree IsOld old later result =
    ((index : Option (List ℕ)) → IsOld index →
    IfOk result (λ update. Does job tree update (record { index = index; outputs = old }) later))
    × IfErr result (λ fault. (fault ≡ Failed) × IsUnread job tree IsOld old later)
    × (job.list ≡ true → IfOk result (λ answer. IfOk answer (λ update. update ≡ Keep)))
