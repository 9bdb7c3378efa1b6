-- What was read of the files of a tree between two counts.
-- docs/PROMISES.md, "Trees and paths".
use Rattle.std.specs.Prelude.{◌≡◌, ◌≤◌, ℕ, max, Option, IfSome, IsSomeAnd}
use Rattle.cs_tree.specs.ReadCounts.{ReadCounts}

-- no path was looked up, and at most this many bytes were read from each opened file
abbrev pub ReadsWithin : ℕ → Option ReadCounts → Option ReadCounts → Type 0
ReadsWithin limit counts later = IfSome counts (λ (was : ReadCounts). IsSomeAnd later (λ (now : ReadCounts).
    (now.most ≤ max was.most limit) × (now.lookups ≡ was.lookups)))
