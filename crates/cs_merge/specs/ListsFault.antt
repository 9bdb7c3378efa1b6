-- Why the merged lists are not written.
-- docs/PROMISES.md, "Merging".
use Rattle.std.specs.Prelude.{◌≡◌, ℕ, ◌<◌, Bool, true, false, if◌then◌else◌, List, length, drop}
use Rattle.std.specs.List.{list_all}
use Rattle.cs_index.specs.Encoding.{ListEntry, PostingList, encoding_of}
use Rattle.cs_index.specs.OpenedParts.{Parts, ids_read, lists_in}
use Rattle.cs_index.specs.PostingLists.{entries_of}
use Rattle.cs_index.specs.Written.{Written}
use Rattle.cs_index.specs.declared.fault.IndexFault.{IndexFault}
use Rattle.cs_index.specs.declared.fault.IndexFault.TheVariants as index
use Rattle.cs_index.specs.declared.fault.IndexFault.TheVariants.{BadList}
use Rattle.cs_merge.specs.declared.fault.MergeFault.{MergeFault}
use Rattle.cs_merge.specs.declared.fault.MergeFault.TheVariants.{Index, TooLarge, Memory}
use Rattle.cs_merge.specs.IdMap.{NewIds, AreMappedLists}
use Rattle.cs_merge.specs.Mergeable.{both_whole}

-- an error of reading lists as one of the merge; an allocation failure becomes `Memory`
abbrev pub merge_fault_of : IndexFault → MergeFault
merge_fault_of index.Memory = Memory
merge_fault_of fault = Index fault

-- whether the lists from a position on are whole
abbrev pub are_whole_from : Parts → ℕ → Bool
are_whole_from parts position = list_all (λ (e : ListEntry). (ids_read parts e).whole) (drop position parts.entries)

-- a damaged list goes before lists that are too long
abbrev pub rest_fault : Bool → MergeFault
rest_fault whole = if whole then TooLarge else Index BadList

-- The merged lists, with which the index has more than `most` bytes.
pub record AreTooLong (older newer : Parts) (older_ids newer_ids : NewIds) (output : Written) (most : ℕ) : Type 0 where
  pub lists : List PostingList
  pub older_sets : AreMappedLists older_ids (lists_in older) lists
  pub newer_sets : AreMappedLists newer_ids (lists_in newer) lists
  pub long : most < length (encoding_of output.paths (entries_of 0 output.names lists))

pub data IsListsFault (older newer : Parts) (older_ids newer_ids : NewIds) (output : Written) (most : ℕ) (fault : MergeFault) : Type 0 where
  damaged : fault ≡ Index BadList → both_whole older newer ≡ false → IsListsFault older newer older_ids newer_ids output most fault
  long : fault ≡ TooLarge → both_whole older newer ≡ true → AreTooLong older newer older_ids newer_ids output most →
      IsListsFault older newer older_ids newer_ids output most fault
  refused : fault ≡ Memory → IsListsFault older newer older_ids newer_ids output most fault
