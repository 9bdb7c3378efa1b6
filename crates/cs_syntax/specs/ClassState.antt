-- The state while a bracket class is parsed.
use Rattle.std.specs.Prelude.{ℕ, ◌≡◌, ◌⊎◌, Bool, ◌+◌, ◌-◌, ◌&&◌, nat_le, List, [], ◌∷◌, Result, MatchResult, Vec}
use Rattle.std.specs.List.{list_any}
use Rattle.std.specs.Global.{Global}
use Rattle.cs_syntax.specs.Ranges.{is_in_ranges}
use Rattle.cs_syntax.specs.Characters.{is_scalar, has_char}
use Rattle.cs_syntax.specs.ClassSets.{is_in_item}
use Rattle.cs_syntax.specs.Tokens.{Token, item, fault}
use Rattle.cs_syntax.specs.declared.items.ClassItem.{ClassItem}
use Rattle.cs_syntax.specs.declared.fault.PatternFault.TheVariants.{Memory}
use Rattle.cs_syntax.specs.declared.items.ItemError.{ItemError}

-- the character is in one of the items
abbrev pub is_in_items : Bool → List ClassItem → ℕ → Bool
is_in_items fold items c = list_any (λ i. is_in_item fold i c) items

-- c is a letter of the case whose first letter is `to`, and the same letter of the other case is in the range
abbrev pub is_other_case : ℕ × ℕ → ℕ → ℕ → ℕ → Bool
is_other_case range first to c =
    (nat_le to c && nat_le c (to + 25)) && is_in_ranges (range ∷ []) (c + first - to)

-- the ranges have exactly the characters of the items
abbrev pub HaveItems : Bool → List ClassItem → List (ℕ × ℕ) → Type 0
HaveItems fold items ranges = (c : ℕ) → has_char ranges c ≡ (is_scalar c && is_in_items fold items c)

-- The result has the ranges of the items and the distance of the `]`; or it is the error of the class, or an allocation
-- failure.
abbrev pub IsParsedClass : Bool → Token (List ClassItem) → Result (Vec (ℕ × ℕ) Global × ℕ) ItemError → Type 0
IsParsedClass fold rest r =
    MatchResult r
    (λ x. (items : List ClassItem) × (rest ≡ item items x.1) × HaveItems fold items x.0.items)
    (λ m. (m.fault ≡ Memory) ⊎ (rest ≡ fault m.fault m.distance))
