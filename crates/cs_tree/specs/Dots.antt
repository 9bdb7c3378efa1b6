-- The two names that the disk lists in each folder, and a tree does not. docs/FORMAT.md, "Paths and names".
use Rattle.std.specs.Prelude.{ℕ, Bool, ◌||◌, codes, List, bytes_eq}

-- whether a name is `.` or `..`
abbrev pub are_dots : List ℕ → Bool
are_dots name = bytes_eq name (codes ".") || bytes_eq name (codes "..")
