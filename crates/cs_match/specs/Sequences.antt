-- The first and last positions of sequences, which are given by the number of positions after the first of each.
use Rattle.std.specs.Prelude.{ℕ, Bool, true, false, List, [], ◌∷◌, ◌++◌, replicate}

abbrev pub firsts_of : List ℕ → List Bool
firsts_of [] = []
firsts_of (n ∷ ns) = true ∷ replicate n false ++ firsts_of ns

abbrev pub lasts_of : List ℕ → List Bool
lasts_of [] = []
lasts_of (n ∷ ns) = replicate n false ++ true ∷ lasts_of ns
