-- How reads change the model of a source. For an unmodelled source the relations hold trivially.
-- docs/PROMISES.md, "Sources and sinks".
use Rattle.std.specs.Prelude.{◌≡◌, ℕ, ◌<◌, List, [], ◌++◌, length, take, Option, IfSome, IsSomeAnd, Result, MatchResult, Bool, true, false}
use Rattle.cs_tree.specs.declared.fault.IoFault.{IoFault}
use Rattle.cs_tree.specs.declared.fault.IoFault.TheVariants.{Failed, Memory}
use Rattle.cs_tree.specs.StreamModels.{Ending, SourceModel, ends, fails}

-- these bytes were read, and the ending is the same
abbrev pub Consumes : Option SourceModel → Option SourceModel → List ℕ → Type 0
Consumes model later bytes = IfSome model (λ was. IsSomeAnd later (λ now.
    (was.bytes ≡ bytes ++ now.bytes) × (was.ending ≡ now.ending)))

-- no byte is left, and this ending follows
abbrev pub IsAt : Ending → Option SourceModel → Type 0
IsAt ending model = IfSome model (λ now. (now.bytes ≡ []) × (now.ending ≡ ending))

-- A read returns the next bytes, and none only for an empty buffer or at the end. On error it consumes nothing, and
-- it is `Failed` only at an ending that fails.
abbrev pub ReadGives : Option SourceModel → Option SourceModel → Result ℕ IoFault → List ℕ → Type 0
ReadGives model later answer buf =
    MatchResult answer (λ n. Consumes model later (take n buf) × (n ≡ 0 → 0 < length buf → IsAt ends later))
    (λ fault. Consumes model later [] × (fault ≡ Failed → IsAt fails later))

-- whether an error is counted as a failure: an allocation failure is not
abbrev pub is_io_failure : IoFault → Bool
is_io_failure Failed = true
is_io_failure Memory = false
