-- Marks of names: one for each byte that a name has, one for its first and one for its last byte, as the bits of a number
-- (superimposed coding). What matches a name has no marks that the name lacks. So most rules need not be looked at.
use Rattle.std.specs.Prelude.{ℕ, ◌+◌, ◌%◌, ◌^◌, List, [], ◌∷◌, fold, bit_or}
use Rattle.cs_listing.specs.declared.glob.Token.{Token}
use Rattle.cs_listing.specs.declared.glob.Token.TheVariants.{Byte}
use Rattle.cs_listing.specs.declared.glob.Element.{Element}
use Rattle.cs_listing.specs.declared.glob.Element.TheVariants.{Folders, One}
use Rattle.cs_listing.specs.declared.rules.Rule.{Rule}

-- the number of the first one of a list, or 0
abbrev pub of_first : {A : Type 0} → (A → ℕ) → List A → ℕ
of_first number [] = 0
of_first number (x ∷ xs) = number x

-- the number of the last one of a list, or 0
abbrev pub of_last : {A : Type 0} → (A → ℕ) → List A → ℕ
of_last number [] = 0
of_last number (x ∷ []) = number x
of_last number (x ∷ next ∷ xs) = of_last number (next ∷ xs)

-- a number, and the bits of those of a list
abbrev pub with_all : {A : Type 0} → (A → ℕ) → ℕ → List A → ℕ
with_all number marks xs = fold (λ marks x. bit_or marks (number x)) marks xs

-- ---- marks of names

abbrev pub has_mark : ℕ → ℕ
has_mark b = 2 ^ (b % 32)

abbrev pub first_mark : ℕ → ℕ
first_mark b = 2 ^ (32 + b % 16)

abbrev pub last_mark : ℕ → ℕ
last_mark b = 2 ^ (48 + b % 16)

abbrev pub name_marks : List ℕ → ℕ
name_marks name = with_all has_mark (bit_or (of_first first_mark name) (of_last last_mark name)) name

-- ---- marks of rules

-- the mark of a token's byte
abbrev pub token_mark : (ℕ → ℕ) → Token → ℕ
token_mark mark (Byte b) = mark b
token_mark mark _ = 0

abbrev pub tokens_marks : List Token → ℕ
tokens_marks tokens = with_all (token_mark has_mark)
    (bit_or (of_first (token_mark first_mark) tokens) (of_last (token_mark last_mark) tokens)) tokens

abbrev pub element_marks : Element → ℕ
element_marks Folders = 0
element_marks (One tokens) = tokens_marks tokens.items

abbrev pub glob_marks : List Element → ℕ
glob_marks glob = of_last element_marks glob

abbrev pub rule_marks : Rule → ℕ
rule_marks rule = glob_marks rule.glob.items
