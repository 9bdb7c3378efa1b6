-- Numbers in a given base. docs/PATTERNS.md, "Repeats" and "Escapes".
use Rattle.std.specs.Prelude.{ℕ, ◌+◌, ◌*◌, Bool, List, nat_lt}
use Rattle.std.specs.Char as char
use Rattle.std.specs.List.{fold, prefix_len}

-- the value of a digit or a letter in base 36; 36 for all other bytes
unfoldable pub digit_value : ℕ → ℕ
digit_value b = char.digit_value b

abbrev pub is_digit : ℕ → ℕ → Bool
is_digit base b = nat_lt (digit_value b) base

-- the number of leading digits
abbrev pub count_digits : ℕ → List ℕ → ℕ
count_digits base text = prefix_len (is_digit base) text

-- the value of the digits
abbrev pub number_of_digits : ℕ → List ℕ → ℕ
number_of_digits base ds = fold (λ n d. base * n + digit_value d) 0 ds
