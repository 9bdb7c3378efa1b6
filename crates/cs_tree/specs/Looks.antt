-- What a look at a path shows. docs/PROMISES.md, "Trees and walks".
use Rattle.std.specs.Prelude.{ℕ, ◌+◌, ◌*◌, ◌^◌, ℤ, pos, nat_lt, if◌then◌else◌, Option, Some, None}
use Rattle.cs_tree.specs.declared.tree.Kind.{Kind}
use Rattle.cs_tree.specs.declared.tree.Seen.{Seen}

-- the kind of the item
abbrev pub kind_seen : Seen → Kind
kind_seen seen = seen.kind

-- seconds and nanoseconds since 1970 as nanoseconds, if these are not negative and fit 64 bits
abbrev pub nanoseconds_of : ℤ → ℤ → Option ℕ
nanoseconds_of (pos seconds) (pos rest) =
    if nat_lt (seconds * 1000000000 + rest) (2 ^ 64) then Some (seconds * 1000000000 + rest) else None
nanoseconds_of _ _ = None
