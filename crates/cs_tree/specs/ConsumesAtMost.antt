-- An upper bound on the bytes that a call reads.
-- docs/PROMISES.md, "Sources and sinks".
use Rattle.std.specs.Prelude.{◌≡◌, ℕ, ◌+◌, ◌-◌, ◌≤◌, length, drop, Option, IfSome, IsSomeAnd}
use Rattle.cs_tree.specs.StreamModels.{SourceModel}

-- at most this many bytes were read from the source, and the ending is the same
abbrev pub ConsumesAtMost : ℕ → Option SourceModel → Option SourceModel → Type 0
ConsumesAtMost most model later = IfSome model (λ was. IsSomeAnd later (λ now.
    (now.bytes ≡ drop (length was.bytes - length now.bytes) was.bytes)
    × (length was.bytes ≤ most + length now.bytes) × (was.ending ≡ now.ending)))
