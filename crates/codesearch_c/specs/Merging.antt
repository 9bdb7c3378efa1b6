-- What the call answers that merges two indexes. docs/PROMISES.md, "Merging".
use Rattle.std.specs.Prelude.{◌≡◌, ℤ, Option, None, Result, Ok, Err}
use Rattle.cs_index.specs.OpenedParts.{Parts}
use Rattle.cs_index.specs.declared.fault.IndexFault.{IndexFault}
use Rattle.cs_merge.specs.MergeResult.{most_bytes, IsMerged, IsMergeFault}
use Rattle.cs_merge.specs.declared.fault.MergeFault.{MergeFault}
use Rattle.codesearch_c.specs.declared.slot.Held.{Held}
use Rattle.codesearch_c.specs.Codes.{done, index_code, merge_code}
use Rattle.codesearch_c.specs.Slots.{OnBytes}

-- the slot is empty, and the code is that of an error that the merge of the two indexes has
abbrev pub IsUnmerged : Parts → Parts → Option Held → ℤ → Type 0
IsUnmerged old newer slot code =
    (slot ≡ None) × (fault : MergeFault) × IsMergeFault old newer most_bytes fault × (code ≡ merge_code fault)

-- an empty slot is filled with the merged index, or it stays empty
abbrev pub IsMergeOf : Parts → Parts → Option Held → ℤ → Type 0
IsMergeOf old newer slot code =
    OnBytes slot (IsUnmerged old newer slot code) (λ bytes. IsMerged old newer most_bytes bytes × (code ≡ done))

-- the same of bytes, by what they open as; or the slot stays empty, as the older bytes are no index, or else the newer ones
abbrev pub IsMergeOfOpened : Result Parts IndexFault → Result Parts IndexFault → Option Held → ℤ → Type 0
IsMergeOfOpened (Ok old) (Ok newer) slot code = IsMergeOf old newer slot code
IsMergeOfOpened (Ok old) (Err fault) slot code = (slot ≡ None) × (code ≡ index_code fault)
IsMergeOfOpened (Err fault) newer slot code = (slot ≡ None) × (code ≡ index_code fault)
