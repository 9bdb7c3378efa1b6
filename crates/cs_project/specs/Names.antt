-- The names that are printed for the files below a folder.
use Rattle.std.specs.Prelude.{ℕ, nat_eq, List, [], ◌∷◌, ◌++◌, length, drop, string_bytes, bytes_eq, if◌then◌else◌}
use Rattle.std.specs.Path.{slash}
use Rattle.std.specs.List.{starts_with, ends_with}
use Rattle.cs_project.specs.declared.names.NameForm.{NameForm}

-- a path with a slash at its end
abbrev pub with_slash : List ℕ → List ℕ
with_slash path = if ends_with nat_eq path (slash ∷ []) then path else path ++ slash ∷ []

-- what stands for a folder: the word that names it, and nothing for the current one
abbrev pub prefix_of : List ℕ → List ℕ
prefix_of word = if bytes_eq word [] then [] else with_slash word

-- the name of a path below a folder
abbrev pub name_below : List ℕ → List ℕ → List ℕ → List ℕ
name_below stem prefix path = if starts_with nat_eq path stem then prefix ++ drop (length stem) path else path

abbrev pub name_of : NameForm → List ℕ → List ℕ
name_of form path = name_below (string_bytes form.stem) (string_bytes form.prefix) path
