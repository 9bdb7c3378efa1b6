-- The trigrams of some bytes: the numbers of their substrings of three bytes.
-- docs/FORMAT.md, "Which files are text"; Cox, "Regular Expression Matching with a Trigram Index".
use Rattle.std.specs.Prelude.{ℕ, ◌+◌, ◌*◌, ◌<◌, nat_eq, nat_lt, if◌then◌else◌, List, [], ◌∷◌}
pub use Rattle.cs_syntax.specs.NumberList.{has}

-- the number of three bytes
abbrev pub trigram : ℕ → ℕ → ℕ → ℕ
trigram a b c = 65536 * a + 256 * b + c

-- the trigrams of a text from left to right
abbrev pub trigram_sequence : List ℕ → List ℕ
trigram_sequence (a ∷ b ∷ c ∷ rest) = trigram a b c ∷ trigram_sequence (b ∷ c ∷ rest)
trigram_sequence few = []

-- A set of numbers is represented by its ascending list.

-- each number is greater than the one before it
abbrev pub Ascends : List ℕ → Type 0
Ascends (n ∷ m ∷ ms) = (n < m) × Ascends (m ∷ ms)
Ascends few = Unit {0}

-- a set with a number inserted
abbrev pub with_number : ℕ → List ℕ → List ℕ
with_number n [] = n ∷ []
with_number n (m ∷ ms) =
    if nat_lt n m then n ∷ m ∷ ms else (if nat_eq n m then m ∷ ms else m ∷ with_number n ms)

-- the set of the numbers of a list
abbrev pub set_of_numbers : List ℕ → List ℕ
set_of_numbers [] = []
set_of_numbers (n ∷ ns) = with_number n (set_of_numbers ns)

-- the set of the trigrams of some bytes
abbrev pub tri : List ℕ → List ℕ
tri bytes = set_of_numbers (trigram_sequence bytes)

-- ff ff ff, which no text has: it ends the posting lists of an index
abbrev pub closing_trigram : ℕ
closing_trigram = 16777215
