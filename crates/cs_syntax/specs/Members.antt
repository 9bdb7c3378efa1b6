-- The number of members of a set of bytes, and its only member.
use Rattle.std.specs.Prelude.{◌≡◌, true, ℕ, Bool, List, count_by}
use Rattle.cs_syntax.specs.Matching.{member}

-- the number of members
abbrev pub count : List Bool → ℕ
count set = count_by (λ b. b) set

-- the byte is the only member
abbrev pub IsOnly : List Bool → ℕ → Type 0
IsOnly set b = (member set b ≡ true) × ((x : ℕ) → member set x ≡ true → x ≡ b)
