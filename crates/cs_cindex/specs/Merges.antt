-- How the base index is merged with that of a walk.
use Rattle.std.specs.Prelude.{◌≡◌, ℕ, false, List, Some, Result, IsOkAnd}
use Rattle.cs_index.specs.OpenedParts.{Parts, are_whole}
use Rattle.cs_index.specs.declared.fault.IndexFault.{IndexFault}
use Rattle.cs_index.specs.declared.fault.IndexFault.TheVariants.{BadNames, BadList}
use Rattle.cs_args.specs.Faults.{index_refusal}
use Rattle.cs_args.specs.declared.fault.CindexFault.{CindexFault}
use Rattle.cs_args.specs.declared.fault.CindexFault.TheVariants.{BadIndex, Unsorted, TooLarge, Memory}
use Rattle.cs_merge.specs.declared.fault.MergeFault.{MergeFault}
use Rattle.cs_merge.specs.declared.fault.MergeFault.TheVariants as merge
use Rattle.cs_merge.specs.Mergeable.{merge_index, AreMergeable}
use Rattle.cs_history.specs.WellFormed.{IsMergeable}
use Rattle.cs_history.specs.Premises.{IsShort}
use Rattle.cs_history.specs.Replies.{IsLong}

-- the newer index opens and can be merged with the old one, and `bytes` is the merged index
abbrev pub MergesTo : Parts → Result Parts IndexFault → List ℕ → Type 0
MergesTo old opening bytes =
    IsOkAnd opening (λ newer. AreMergeable old newer × (bytes ≡ merge_index old newer))

-- it has fewer than 2^32 bytes
pub record MergesShort (old : Parts) (newer : Result Parts IndexFault) (bytes : List ℕ) : Type 0 where
  pub merges : MergesTo old newer bytes
  pub short : IsShort (Some bytes)

-- why the two cannot be merged
abbrev pub IsMergeRefusal : Parts → Result Parts IndexFault → CindexFault → Type 0
IsMergeRefusal old newer (BadIndex fault) = IsOkAnd newer IsMergeable → (fault ≡ BadList) × (are_whole old ≡ false)
IsMergeRefusal old newer TooLarge =
    IsOkAnd newer (λ newer. AreMergeable old newer × IsLong (Some (merge_index old newer)))
IsMergeRefusal old newer Memory = Unit {0}
IsMergeRefusal old newer Unsorted = IsOkAnd newer IsMergeable → ⊥
IsMergeRefusal old newer _ = ⊥

-- an error of the merge, as that of a job
abbrev pub refusal_of : MergeFault → CindexFault
refusal_of merge.Unsorted = Unsorted
refusal_of merge.Uncovered = BadIndex BadNames
refusal_of (merge.Index fault) = index_refusal fault
refusal_of merge.TooLarge = TooLarge
refusal_of merge.Memory = Memory
