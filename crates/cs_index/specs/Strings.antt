-- NUL-terminated strings in a section.
use Rattle.std.specs.Prelude.{ℕ, zero, suc, List, [], ◌∷◌}
use Rattle.std.specs.List.{onto_first}

-- the NUL-terminated texts, and an unterminated text at the end
unfoldable pub texts_in : List ℕ → List (List ℕ)
texts_in [] = []
texts_in (zero ∷ bytes) = [] ∷ texts_in bytes
texts_in (suc b ∷ bytes) = onto_first (suc b) (texts_in bytes)
