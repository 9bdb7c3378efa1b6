-- What a list of the paths of an index answers and prints.
use Rattle.std.specs.Prelude.{◌≡◌, ℕ, List, Option, IfOk, MatchResult, Result}
use Rattle.cs_tree.specs.FailureCount.{count_after}
use Rattle.cs_tree.specs.WritesBytes.{WritesBytes}
use Rattle.cs_tree.specs.declared.fault.IoFault.{IoFault}
use Rattle.cs_tree.specs.declared.fault.IoFault.TheVariants.{Failed}
use Rattle.cs_args.specs.declared.fault.CindexFault.{CindexFault}
use Rattle.cs_cindex.specs.Outcomes.{AnswersFor}
use Rattle.cs_cindex.specs.Output.{Output, index_lines, is_failed_write}
use Rattle.cs_cindex.specs.Refusals.{IsOutputFault, list_fault}

-- the paths of this index were printed, unless it does not open
abbrev pub ListsPaths : {A : Type 0} → Option (List ℕ) → Output → Output → Result A CindexFault → Type 0
ListsPaths index out later result =
    AnswersFor result (list_fault index) IsOutputFault
    × WritesBytes (index_lines index) out.model later.model result

-- the same over an index in a store; if it cannot be read, nothing was printed
abbrev pub ListsOver : {A : Type 0} → (Option (List ℕ) → Type 0) → Output → Output → Result (Result A CindexFault) IoFault → Type 0
ListsOver IsOld out later result =
    ((index : Option (List ℕ)) → IsOld index → IfOk result (ListsPaths index out later))
    × MatchResult result
    (λ listed. later.failed ≡ count_after is_failed_write listed out.failed)
    (λ fault. (fault ≡ Failed) × (later ≡ out))
