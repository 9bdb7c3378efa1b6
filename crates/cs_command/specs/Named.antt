-- The letters and the names of the options of `cs`: those of rg and grep.
use Rattle.std.specs.Prelude.{ℕ, nat_eq, List, [], ◌∷◌, Option, unwrap_or, codes, bytes_eq}
use Rattle.std.specs.List.{zip}
use Rattle.std.specs.Map.{lookup}
use Rattle.std.specs.Option.{option_or}
use Rattle.cs_command.specs.declared.named.Named.{Named}
use Rattle.cs_command.specs.declared.named.Named.TheVariants.{Switch as A_switch, Valued, LeftOut, Unknown}
use Rattle.cs_command.specs.declared.named.Switch.TheVariants.{Literal, Fold, Smart, Exact, Words, Lines, Invert, Count, Names, Others, Only, Silent, Text, Number, NoNumber, WithName, Bare, Nul, Column, Each, Heading, Files, TypeList, Unrestricted, Hidden, Update, NoUpdate, NoState, Help, Version}
use Rattle.cs_command.specs.declared.named.Valued.TheVariants.{Pattern, After, Before, Around, Most, Colour, Glob, NotType, Depth, FileType}

-- each letter with its option
abbrev pub letters : List (ℕ × Named)
letters =
    zip (codes "eABCmgtTdFiSswxvclLoqanNHh0urU") (
    Valued Pattern ∷ Valued After ∷ Valued Before ∷ Valued Around ∷ Valued Most ∷ Valued Glob ∷
    Valued FileType ∷ Valued NotType ∷ Valued Depth ∷ A_switch Literal ∷ A_switch Fold ∷ A_switch Smart ∷
    A_switch Exact ∷ A_switch Words ∷ A_switch Lines ∷ A_switch Invert ∷ A_switch Count ∷ A_switch Names ∷
    A_switch Others ∷ A_switch Only ∷ A_switch Silent ∷ A_switch Text ∷ A_switch Number ∷
    A_switch NoNumber ∷ A_switch WithName ∷ A_switch Bare ∷ A_switch Nul ∷ A_switch Unrestricted ∷
    LeftOut ∷ LeftOut ∷ [])

abbrev pub letter_option : ℕ → Named
letter_option letter = unwrap_or (lookup (nat_eq letter) letters) Unknown

-- what matches
abbrev pub search_name : List ℕ → Option Named
search_name name =
    lookup (bytes_eq name) (
    (codes "regexp", Valued Pattern) ∷ (codes "fixed-strings", A_switch Literal) ∷
    (codes "ignore-case", A_switch Fold) ∷ (codes "smart-case", A_switch Smart) ∷
    (codes "case-sensitive", A_switch Exact) ∷ (codes "word-regexp", A_switch Words) ∷
    (codes "line-regexp", A_switch Lines) ∷ (codes "invert-match", A_switch Invert) ∷
    (codes "text", A_switch Text) ∷ (codes "max-count", Valued Most) ∷ (codes "silent", A_switch Silent) ∷ [])

-- what is printed of a text
abbrev pub line_name : List ℕ → Option Named
line_name name =
    lookup (bytes_eq name) (
    (codes "count", A_switch Count) ∷ (codes "files-with-matches", A_switch Names) ∷
    (codes "files-without-match", A_switch Others) ∷ (codes "only-matching", A_switch Only) ∷
    (codes "after-context", Valued After) ∷ (codes "before-context", Valued Before) ∷
    (codes "context", Valued Around) ∷ (codes "line-number", A_switch Number) ∷
    (codes "no-line-number", A_switch NoNumber) ∷ [])

-- what is beside a line
abbrev pub form_name : List ℕ → Option Named
form_name name =
    lookup (bytes_eq name) (
    (codes "with-filename", A_switch WithName) ∷ (codes "no-filename", A_switch Bare) ∷
    (codes "null", A_switch Nul) ∷ (codes "column", A_switch Column) ∷ (codes "vimgrep", A_switch Each) ∷
    (codes "heading", A_switch Heading) ∷ (codes "color", Valued Colour) ∷ [])

-- which files are searched, and the state
abbrev pub file_name : List ℕ → Option Named
file_name name =
    lookup (bytes_eq name) (
    (codes "files", A_switch Files) ∷ (codes "glob", Valued Glob) ∷ (codes "type", Valued FileType) ∷
    (codes "type-not", Valued NotType) ∷ (codes "type-list", A_switch TypeList) ∷
    (codes "unrestricted", A_switch Unrestricted) ∷ (codes "hidden", A_switch Hidden) ∷
    (codes "max-depth", Valued Depth) ∷ (codes "update", A_switch Update) ∷
    (codes "no-update", A_switch NoUpdate) ∷ (codes "no-state", A_switch NoState) ∷ [])

-- the program itself
abbrev pub about_name : List ℕ → Option Named
about_name name = lookup (bytes_eq name) ((codes "help", A_switch Help) ∷ (codes "version", A_switch Version) ∷ [])

-- options of rg that `cs` does not have
abbrev pub left_out : List ℕ → Option Named
left_out name =
    lookup (bytes_eq name) (
    (codes "replace", LeftOut) ∷ (codes "sort", LeftOut) ∷ (codes "sortr", LeftOut) ∷
    (codes "stats", LeftOut) ∷ (codes "multiline", LeftOut) ∷ (codes "json", LeftOut) ∷ [])

abbrev pub name_option : List ℕ → Named
name_option name =
    unwrap_or (option_or (option_or (option_or (option_or (option_or (search_name name) (line_name name)) (form_name name))
    (file_name name)) (about_name name)) (left_out name)) Unknown
