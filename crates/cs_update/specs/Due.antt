-- When an update of a state is due, and how many files one takes.
use Rattle.std.specs.Prelude.{◌+◌, ◌/◌, ◌<◌, ◌≤◌, ℕ, Bool, nat_lt, if◌then◌else◌, List, length, take}
use Rattle.std.specs.List.{sum_by}
use Rattle.cs_known.specs.declared.types.SeenFile.{SeenFile}
use Rattle.cs_state.specs.Known.{is_old}

-- the bytes of a file, if its stamp is old
abbrev pub old_size : ℕ → SeenFile → ℕ
old_size moment file = if is_old moment file.stamp then file.stamp.size else 0

abbrev pub old_bytes : ℕ → List SeenFile → ℕ
old_bytes moment files = sum_by (old_size moment) files

-- The unknown files with an old stamp have more bytes than 1 MB and half of those of the state.
abbrev pub is_due : ℕ → ℕ → List SeenFile → Bool
is_due moment len unknown = nat_lt (len / 2 + 1000000) (old_bytes moment unknown)

abbrev pub bytes_of : List SeenFile → ℕ
bytes_of files = sum_by (λ (file : SeenFile). file.stamp.size) files

-- So many files come first that have at most `most` bytes, and one more would have more. One file may have more.
pub record IsBatch (most : ℕ) (files : List SeenFile) (count : ℕ) : Type 0 where
  pub within : count ≤ length files
  pub some : 0 < length files → 0 < count
  pub bounded : 1 < count → bytes_of (take count files) ≤ most
  pub longest : count < length files → most < bytes_of (take (count + 1) files)
