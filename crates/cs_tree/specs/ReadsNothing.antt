-- Calls that look paths up and read no file.
-- docs/PROMISES.md, "Trees and paths".
use Rattle.std.specs.Prelude.{◌≡◌, ℕ, Option, option_map}
use Rattle.cs_tree.specs.ReadCounts.{ReadCounts}

-- the read counts without the lookups
abbrev pub bytes_read : ReadCounts → ℕ × ℕ
bytes_read counts = (counts.of_open, counts.most)

-- no file was opened, and none was read
abbrev pub ReadsNothing : Option ReadCounts → Option ReadCounts → Type 0
ReadsNothing counts later = option_map bytes_read later ≡ option_map bytes_read counts
