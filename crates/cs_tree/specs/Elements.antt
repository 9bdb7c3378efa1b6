-- Names that a folder may list. docs/FORMAT.md, "Paths and names".
use Rattle.std.specs.Prelude.{ℕ, Bool, true, not, ◌&&◌, nat_eq, List, [], ◌∷◌, bytes_eq}
use Rattle.std.specs.Path.{slash}
use Rattle.std.specs.List.{list_any, list_all}

-- whether the name is in the list
abbrev pub is_among : List (List ℕ) → List ℕ → Bool
is_among names name = list_any (λ one. bytes_eq one name) names

abbrev pub has_nul : List ℕ → Bool
has_nul text = list_any (λ b. nat_eq b 0) text

-- whether a name is not empty, and has no `/` and no NUL
abbrev pub is_element : List ℕ → Bool
is_element name = not (bytes_eq name []) && (not (list_any (λ b. nat_eq b slash) name) && not (has_nul name))

abbrev pub are_distinct : List (List ℕ) → Bool
are_distinct [] = true
are_distinct (name ∷ names) = not (is_among names name) && are_distinct names

-- whether a folder may list these names
abbrev pub are_elements : List (List ℕ) → Bool
are_elements names = list_all is_element names && are_distinct names
