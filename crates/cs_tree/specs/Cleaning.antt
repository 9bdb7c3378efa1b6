-- The errors of `clean`. docs/FORMAT.md, "Paths and names".
use Rattle.std.specs.Prelude.{◌&&◌, ℕ, Bool, nat_lt, length, List, [], ◌∷◌, if◌then◌else◌, Option, Some, None, is_none, bytes_eq}
use Rattle.std.specs.Path.{slash}
use Rattle.cs_tree.specs.Clean.{absolute, clean_path, is_clean, has_nul, longest_path}
use Rattle.cs_tree.specs.declared.paths.PathFault.{PathFault}
use Rattle.cs_tree.specs.declared.paths.PathFault.TheVariants.{Empty, Nul, TooLong}

-- the error of the first failed test, if any
abbrev pub clean_fault : List ℕ → List ℕ → Option PathFault
clean_fault folder text =
    if bytes_eq text [] then Some Empty
    else (if has_nul (absolute folder text) then Some Nul
    else (if nat_lt longest_path (length (clean_path folder text)) then Some TooLong else None))

-- The path is normalized: cleaning accepts it and leaves it unchanged. The folder does not matter.
abbrev pub is_normalized : List ℕ → Bool
is_normalized path = is_none (clean_fault (slash ∷ []) path) && is_clean path
