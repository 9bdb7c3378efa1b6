-- When `cs` is called, and its arguments; when the tools are asked for.
use Rattle.std.specs.Prelude.{ℕ, Bool, true, false, ◌&&◌, if◌then◌else◌, List, [], ◌∷◌, Option, Some, None, is_none, is_some, codes, bytes_eq, string_bytes}
use Rattle.std.specs.Path.{path_file_name}
use Rattle.codesearch.specs.Program.{given_args, own_tool}
use Rattle.codesearch.specs.declared.given.Given.{Given}

-- the arguments after a first one with this name
abbrev pub first_is : List ℕ → List (List ℕ) → Option (List (List ℕ))
first_is name [] = None
first_is name (arg ∷ args) = if bytes_eq arg name then Some args else None

abbrev pub is_named : List ℕ → Option (List ℕ) → Bool
is_named name None = false
is_named name (Some own) = bytes_eq own name

-- All arguments if the program is run by the name `cs`; those after `cs` if it is run by that of no tool.
abbrev pub project_args : Given → Option (List (List ℕ))
project_args given =
    if is_named (codes "cs") (path_file_name (string_bytes given.program)) then Some (given_args given)
    else if is_none (own_tool given) then first_is (codes "cs") (given_args given) else None

-- The program is run by the name of no tool, and the first argument is `--help`.
abbrev pub asks_for_help : Given → Bool
asks_for_help given = is_none (own_tool given) && is_some (first_is (codes "--help") (given_args given))
