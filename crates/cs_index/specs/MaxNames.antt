-- The limit of names. docs/FORMAT.md, "Limits".
use Rattle.std.specs.Prelude.{ℕ}

-- the maximum number of names of a builder
abbrev pub max_names : ℕ
max_names = 1073741824
