-- A set of trigrams as a bitmap and a list of its members.
use Rattle.std.specs.Prelude.{◌≡◌, ℕ, List, ◌++◌, length, take}
use Rattle.cs_syntax.specs.Bits.{has_bit}
use Rattle.cs_trigram.specs.Trigram.{set_of_numbers, has}

-- exactly the bits of these numbers are set
abbrev pub IsBitmapOf : List ℕ → List ℕ → Type 0
IsBitmapOf bitmap numbers = (n : ℕ) → has_bit bitmap n ≡ has numbers n

-- the bitmap and the list, without duplicates, are this set
pub record IsSeenSet (bitmap numbers set : List ℕ) : Type 0 where
  pub same : set_of_numbers numbers ≡ set
  pub once : length numbers ≡ length set
  pub is_bitmap : IsBitmapOf bitmap numbers

-- the bitmap and the first `len` numbers of the list are the set of these numbers
abbrev pub Collects : List ℕ → List ℕ → ℕ → List ℕ → Type 0
Collects bitmap list len numbers = IsSeenSet bitmap (take len list) (set_of_numbers numbers)

-- if the first bitmap and list are a set, then the second ones are this set with more numbers
abbrev pub CollectsOn : List ℕ → List ℕ → ℕ → List ℕ → List ℕ → ℕ → List ℕ → Type 0
CollectsOn bitmap list len more_bitmap more_list more_len more =
    (numbers : List ℕ) → Collects bitmap list len numbers →
    Collects more_bitmap more_list more_len (numbers ++ more)
