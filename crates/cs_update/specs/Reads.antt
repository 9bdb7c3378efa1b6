-- Reads of a source to its end, during which its first bytes are watched for a NUL, and all are counted.
use Rattle.std.specs.Prelude.{◌≡◌, ◌||◌, ℕ, Bool, true, false, nat_eq, List, length, take, Option, Some, None, IfSome, IsSomeAnd, option_map, Result, MatchResult}
use Rattle.std.specs.List.{list_any}
use Rattle.cs_tree.specs.StreamModels.{SourceModel, ends, fails}
use Rattle.cs_tree.specs.Transfers.{IsAt}
use Rattle.cs_tree.specs.declared.fault.IoFault.{IoFault}
use Rattle.cs_tree.specs.declared.fault.IoFault.TheVariants.{Failed}
use Rattle.cs_update.specs.Contents.{Content, found_content, sized_content}
use Rattle.cs_update.specs.declared.types.Found.{Found}
use Rattle.cs_update.specs.declared.types.Watched.{Watched}

abbrev pub has_nul : List ℕ → Bool
has_nul bytes = list_any (λ b. nat_eq b 0) bytes

-- whether there is a NUL among the first bytes: among those that were read, or those that are left
abbrev pub nul_ahead : {R : Type 0} → (R → Option SourceModel) → Watched R → Option Bool
nul_ahead model watched =
    option_map (λ (source : SourceModel). watched.has_nul || has_nul (take watched.left source.bytes)) (model watched.rest)

-- whether so many bytes are missing
abbrev pub is_missing : Option ℕ → ℕ → Bool
is_missing None n = false
is_missing (Some missing) n = nat_eq n missing

-- whether there are as many bytes as are expected: those that were read, and those that are left
abbrev pub whole_ahead : {R : Type 0} → (R → Option SourceModel) → Watched R → Option Bool
whole_ahead model watched =
    option_map (λ (source : SourceModel). is_missing watched.missing (length source.bytes)) (model watched.rest)

-- a read does not change the one nor the other
abbrev pub KeepsAhead : {R : Type 0} → (Watched R → Option Bool) → Watched R → Watched R → Type 0
KeepsAhead ahead old new = (found : Bool) → ahead old ≡ Some found → ahead new ≡ Some found

-- Where the answer is true, a file is open, from which so many bytes are expected. This is its content, if it can be read to its
-- end. Else there is none.
abbrev pub HasOpened : ℕ → Option SourceModel → Option Content → Bool → Type 0
HasOpened size opened content true = IsSomeAnd opened (λ source.
    (source.ending ≡ ends → content ≡ Some (sized_content size source.bytes)) × (source.ending ≡ fails → content ≡ None))
HasOpened size opened content false = content ≡ None

-- The source is read to its end; or its ending is a failure.
abbrev pub IsReadToEnd : Option SourceModel → Option SourceModel → Result (Unit {0}) IoFault → Type 0
IsReadToEnd model later answer = IfSome model (λ source.
    MatchResult answer (λ _. (source.ending ≡ ends) × IsAt ends later) (λ fault. fault ≡ Failed → source.ending ≡ fails))

-- What is found is the content of the bytes, which end; or they end with a failure. So many are expected.
abbrev pub IsFoundIn : Option SourceModel → ℕ → Result Found IoFault → Type 0
IsFoundIn model size answer = IfSome model (λ source.
    MatchResult answer (λ found. (found_content found ≡ sized_content size source.bytes) × (source.ending ≡ ends))
    (λ fault. fault ≡ Failed → source.ending ≡ fails))
