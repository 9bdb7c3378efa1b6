-- What reading the base index answers.
use Rattle.std.specs.Prelude.{◌≡◌, ℕ, false, List, IfErr, IfOk, MatchResult, Option, Result, Some, true}
use Rattle.cs_tree.specs.Cover.{least}
use Rattle.cs_tree.specs.declared.fault.IoFault.{IoFault}
use Rattle.cs_tree.specs.declared.fault.IoFault.TheVariants.{Failed}
use Rattle.cs_index.specs.Opening.{opening}
use Rattle.cs_index.specs.OpenedParts.{Parts}
use Rattle.cs_index.specs.Tables.{TableParts, TablesIn}
use Rattle.cs_index.specs.declared.fault.IndexFault.{IndexFault}
use Rattle.cs_args.specs.declared.fault.CindexFault.{CindexFault}
use Rattle.cs_merge.specs.Replacing.{is_replaced}
use Rattle.cs_tree.specs.declared.output.Sent.{Sent}
use Rattle.cs_cindex.specs.Merges.{IsMergeRefusal, MergesShort}
use Rattle.cs_cindex.specs.FitTables.{IsFitFor}
use Rattle.cs_cindex.specs.Next.{IsReducedIndex}
use Rattle.cs_cindex.specs.Output.{is_failed_write}
use Rattle.cs_cindex.specs.Refusals.{EarlyOr, IsOutputFault, opening_fault, unfit_parts_fault}

-- the tables of an index that can be a base, or why it cannot
abbrev pub OpensBase : List ℕ → Result TableParts CindexFault → Type 0
OpensBase bytes opened =
    MatchResult opened (IsFitFor bytes)
    (λ fault. EarlyOr (opening_fault unfit_parts_fault (opening bytes)) (IsOutputFault fault) fault)

-- the merged index, which has fewer than 2^32 bytes, or why there is none
abbrev pub AnswersMerge : Parts → Result Parts IndexFault → Result Sent CindexFault → Type 0
AnswersMerge old newer result = MatchResult result (λ index. MergesShort old newer index.bytes) (IsMergeRefusal old newer)

-- the same over an index whose bytes are known, which has these tables, and an index of a walk
abbrev pub MergesOver : Option (List ℕ) → TableParts → List ℕ → Result (Result Sent CindexFault) IoFault → Type 0
MergesOver model tables newer result = (bytes : List ℕ) → model ≡ Some bytes → (parts : Parts) →
    TablesIn bytes tables parts → IfOk result (AnswersMerge parts (opening newer))

-- The index of a walk, whose paths cover all paths and names of the base index, which has these tables.
pub record ReplacesBase (bytes : List ℕ) (tables : TableParts) : Type 0 where
  pub walk : IsReducedIndex bytes
  pub covers : (base : List ℕ) (parts : Parts) → TablesIn base tables parts → is_replaced (least walk.paths) parts ≡ true

-- No error of the job is a failed write, and one of the store is a failed read.
abbrev pub OnlyReads : {A : Type 0} → Result (Result A CindexFault) IoFault → Type 0
OnlyReads result =
    MatchResult result (λ answer. IfErr answer (λ fault. is_failed_write fault ≡ false)) (λ fault. fault ≡ Failed)
