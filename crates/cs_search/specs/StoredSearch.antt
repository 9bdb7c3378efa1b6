-- The promise about a search by an index in a store. docs/PROMISES.md, "Searches of an index".
use Rattle.std.specs.Prelude.{ℕ, ◌≡◌, ◌≢◌, ◌⊎◌, List, Option, Some, Result, Err, IfSome, IfOk}
use Rattle.std.specs.Result.{IsOkAnd}
use Rattle.cs_tree.specs.declared.fault.IoFault.{IoFault}
use Rattle.cs_trigram.specs.declared.queries.Query.{Query}
use Rattle.cs_index.specs.declared.fault.IndexFault.{IndexFault}
use Rattle.cs_index.specs.declared.fault.IndexFault.TheVariants as index
use Rattle.cs_index.specs.Stored.{StoredParts, DecodesOrFails}
use Rattle.cs_args.specs.declared.fault.ToolFault.{ToolFault}
use Rattle.cs_args.specs.declared.fault.ToolFault.TheVariants.{BadIndex}
use Rattle.cs_args.specs.declared.jobs.SearchJob.{SearchJob}
use Rattle.cs_search.specs.Csearch.{IsSound, AreAccepted, RefusedInOrder}

-- the bytes of the store's model decode as that index, or have that error
abbrev pub IsOpened : Option (List ℕ) → Result StoredParts IndexFault → Type 0
IsOpened model opened = IfSome model (λ bytes. DecodesOrFails bytes opened)

-- `Claim` holds of the index and the answer, if the store could be read and its model has the bytes of the index.
abbrev pub IfRead : {A : Type 0} → Option (List ℕ) → Result A IoFault → (Option (List ℕ) → A → Type 0) → Type 0
IfRead model result Claim = IfOk result (λ answer. IfSome model (λ bytes. Claim (Some bytes) answer))

-- If opening returned an error, the search fails for a pattern or out of memory, whatever the index is; or both
-- patterns are accepted, and the search returns that error, which is not out of memory.
abbrev pub IsUnopened : {A : Type 0} → SearchJob → IndexFault → Result (Result A ToolFault) IoFault → Type 0
IsUnopened job fault result = IsOkAnd result (λ answer.
    ((index : Option (List ℕ)) → (query : Query) × RefusedInOrder IsSound job index query answer)
    ⊎ (AreAccepted job × (answer ≡ Err (BadIndex fault)) × (fault ≢ index.Memory)))
