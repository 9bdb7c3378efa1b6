-- The result of a merge.
use Rattle.std.specs.Prelude.{◌≡◌, ℕ, ◌-◌, ◌<◌, ◌≤◌, ◌^◌, ◌++◌, true, false, List, length, Result, IfOk, MatchResult}
use Rattle.cs_index.specs.OpenedParts.{Parts, are_covered}
use Rattle.cs_index.specs.declared.fault.IndexFault.TheVariants.{BadList}
use Rattle.cs_index.specs.declared.fault.BuildFault.{BuildFault}
use Rattle.cs_index.specs.declared.fault.BuildFault.TheVariants as build
use Rattle.cs_tree.specs.declared.output.Sent.{Sent}
use Rattle.cs_merge.specs.declared.fault.MergeFault.{MergeFault}
use Rattle.cs_merge.specs.declared.fault.MergeFault.TheVariants.{Unsorted, Uncovered, Index, TooLarge, Memory}
use Rattle.cs_merge.specs.Mergeable.{both_ascend, both_distinct, both_whole, merge_index, AreMergeable, AreTested}

-- the most bytes that an index can have: its offsets have 32 bits
abbrev pub most_bytes : ℕ
most_bytes = 2 ^ 32 - 1

-- The bytes are this index, and at most `most` of them.
pub record IsIndexWithin (most : ℕ) (index bytes : List ℕ) : Type 0 where
  pub are : bytes ≡ index
  pub short : length bytes ≤ most

-- an error of building the merged index as one of the merge; its paths and names are valid
abbrev pub build_refusal : BuildFault → MergeFault
build_refusal build.TooLarge = TooLarge
build_refusal fault = Memory

-- Why an index is not built.
pub data IsBuildFault (most : ℕ) (index : List ℕ) (fault : MergeFault) : Type 0 where
  too_long : fault ≡ TooLarge → most < length index → IsBuildFault most index fault
  memory : fault ≡ Memory → IsBuildFault most index fault

-- The bytes are the merged index, and at most `most` of them.
pub record IsMerged (old newer : Parts) (most : ℕ) (bytes : List ℕ) : Type 0 where
  pub mergeable : AreMergeable old newer
  pub index : IsIndexWithin most (merge_index old newer) bytes

-- Why two indexes cannot be merged. Each error means that the checks before it passed. Checking names that ascend
-- allocates nothing.
pub data IsMergeFault (old newer : Parts) (most : ℕ) (fault : MergeFault) : Type 0 where
  unsorted : fault ≡ Unsorted → both_distinct old newer ≡ false → IsMergeFault old newer most fault
  uncovered : fault ≡ Uncovered → both_distinct old newer ≡ true → are_covered newer ≡ false → IsMergeFault old newer most fault
  damaged : fault ≡ Index BadList → AreTested old newer → both_whole old newer ≡ false → IsMergeFault old newer most fault
  long : fault ≡ TooLarge → AreMergeable old newer → most < length (merge_index old newer) → IsMergeFault old newer most fault
  refused : fault ≡ Memory → (both_ascend old newer ≡ true → AreTested old newer) → IsMergeFault old newer most fault

-- the answer of a merge that sends its index: the merged index, or why there is none
abbrev pub IsMergeAnswer : Parts → Parts → ℕ → Result Sent MergeFault → Type 0
IsMergeAnswer old newer most answer =
    MatchResult answer (λ (index : Sent). IsMerged old newer most index.bytes) (IsMergeFault old newer most)

-- the output was given the bytes of the merged index
abbrev pub IsGivenIndex : List ℕ → List ℕ → Result Sent MergeFault → Type 0
IsGivenIndex before after answer = IfOk answer (λ (index : Sent). after ≡ before ++ index.bytes)
