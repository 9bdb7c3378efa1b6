-- The posting lists of trigrams in ascending order. A trigram without ids has no list.
use Rattle.std.specs.Prelude.{ℕ, zero, suc, ◌+◌, List, [], ◌∷◌, ◌++◌, map}
use Rattle.cs_index.specs.Encoding.{PostingList}

-- the trigrams of the lists
abbrev pub trigrams_in : List PostingList → List ℕ
trigrams_in lists = map (λ ((trigram, ids) : PostingList). trigram) lists

-- the posting list of a trigram, if it has ids
abbrev pub list_of : ℕ → List ℕ → List PostingList
list_of g [] = []
list_of g (id ∷ ids) = (g, id ∷ ids) ∷ []

-- the posting lists of consecutive trigrams, starting from `g`
abbrev pub lists_from : ℕ → List (List ℕ) → List PostingList
lists_from g [] = []
lists_from g (ids ∷ lists) = list_of g ids ++ lists_from (g + 1) lists

-- the lists of the trigrams less than a bound; `f` has the ids of each trigram
unfoldable pub lists_below : ℕ → (ℕ → List ℕ) → List PostingList
lists_below zero f = []
lists_below (suc n) f = lists_below n f ++ list_of n (f n)
