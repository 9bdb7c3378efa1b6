-- The two bytes before a block of a file: trigrams that end in the block may begin with them.
use Rattle.std.specs.Prelude.{◌≡◌, ℕ, ◌-◌, List, [], ◌∷◌, length, take, drop}

-- the last two bytes, or all if there are fewer
abbrev pub last_two : List ℕ → List ℕ
last_two [] = []
last_two (a ∷ []) = a ∷ []
last_two (a ∷ b ∷ []) = a ∷ b ∷ []
last_two (a ∷ b ∷ c ∷ rest) = last_two (b ∷ c ∷ rest)

-- the first two bytes of the buffer end with the last two bytes before the block, or with the one that exists
abbrev pub Carries : List ℕ → List ℕ → Type 0
Carries buffer prefix = drop (2 - length prefix) (take 2 buffer) ≡ last_two prefix
