-- Sets of trigrams of a text file.
-- docs/FORMAT.md, "Which files are text".
use Rattle.std.specs.Prelude.{◌≡◌, ℕ, ◌<◌, false, List, [], ◌∷◌}
use Rattle.std.specs.List.{AllByRecursion}
use Rattle.cs_trigram.specs.Trigram.{has, Ascends, closing_trigram}

-- the number of trigrams, 2^24
abbrev pub trigram_count : ℕ
trigram_count = 16777216

-- an ascending list of trigrams, none of them ff ff ff
abbrev pub IsTrigramSet : List ℕ → Type 0
IsTrigramSet trigrams = Ascends trigrams × AllByRecursion (λ n. n < closing_trigram) trigrams

-- no number occurs twice
abbrev pub AreDistinct : List ℕ → Type 0
AreDistinct [] = Unit {0}
AreDistinct (n ∷ ns) = (has ns n ≡ false) × AreDistinct ns
