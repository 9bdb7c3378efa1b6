-- Position sets as bit vectors.
use Rattle.std.specs.Prelude.{◌≡◌, ℕ, suc, ◌+◌, ◌-◌, ◌/◌, ◌%◌, ◌^◌, ◌<◌, ◌≤◌, All, Bool, false, ◌&&◌, ◌||◌, List, [], ◌∷◌, length, map, slice_index_or, nat_le, nat_eq}
use Rattle.std.specs.Int.{bit_at}
use Rattle.std.specs.List.{range_with_len}
use Rattle.cs_syntax.specs.Bits.{has_bit}

-- the set that the words represent, for this many positions
unfoldable pub positions_of : List ℕ → ℕ → List Bool
positions_of words count = map (has_bit words) (range_with_len 0 count)

-- there are as many words as the positions need, and no bit past them is set
pub record IsPositionSet (words : List ℕ) (count : ℕ) : Type 0 where
  pub enough : length words ≡ (count + 63) / 64
  pub fit : All (λ word. word < 2 ^ 64) words
  pub no_other : (at : ℕ) → count ≤ at → has_bit words at ≡ false

-- position k is in the set after an input: it was entered, or the one before it was, or it was in the set, and does so
-- over the input
abbrev pub is_moved : List Bool → List Bool → List Bool → List Bool → List Bool → ℕ → Bool
is_moved entries if_entered if_previous if_kept positions k =
    ((slice_index_or entries k false && slice_index_or if_entered k false)
    || (slice_index_or (false ∷ entries) k false && slice_index_or if_previous k false))
    || (slice_index_or positions k false && slice_index_or if_kept k false)

-- position k is in the set that begins at position `from`
abbrev pub has_from : List Bool → ℕ → ℕ → Bool
has_from positions from k = nat_le from k && slice_index_or positions (k - from) false

-- the same for the bits of words
abbrev pub has_bit_from : List ℕ → ℕ → ℕ → Bool
has_bit_from words from k = nat_le from k && has_bit words (k - from)

-- position k is one of those from `from` up to `end` whose bit, the same in each word, is set
abbrev pub is_selected : ℕ → ℕ → ℕ → ℕ → Bool
is_selected which from end k = (nat_le from k && nat_le (suc k) end) && nat_eq (bit_at which (k % 64)) 1

-- the sets have a position in common
abbrev pub intersect : List Bool → List Bool → Bool
intersect [] others = false
intersect (is_in ∷ positions) [] = false
intersect (is_in ∷ positions) (other ∷ others) = (is_in && other) || intersect positions others
