-- The ends of matching lines, at a block whose last line has no newline.
use Rattle.std.proofs.Common.{◌≡◌, ℕ, Bool, nat_eq, List, [], ◌∷◌, refl}
use Rattle.std.specs.List.{list_any}
use Rattle.cs_match.specs.LastPart.{last_part}
use Rattle.cs_match.specs.MatchingEnds.{matching_ends, newlines_between}

-- a line matches if it has a `b`
abbrev has_b : List ℕ → Bool
has_b line = list_any (λ b. nat_eq b 98) line

-- "ab\n\nb\nb"
abbrev block : List ℕ
block = 97 ∷ 98 ∷ 10 ∷ 10 ∷ 98 ∷ 10 ∷ 98 ∷ []

a_matching_line_is_listed_by_its_newline : matching_ends has_b block 0 7 ≡ 2 ∷ 5 ∷ []
unfolding matching_ends last_part
a_matching_line_is_listed_by_its_newline = refl

a_list_begins_at_its_offset : matching_ends has_b block 2 7 ≡ 5 ∷ []
unfolding matching_ends last_part
a_list_begins_at_its_offset = refl

a_line_is_listed_where_its_newline_is : matching_ends has_b block 0 5 ≡ 2 ∷ []
unfolding matching_ends last_part
a_line_is_listed_where_its_newline_is = refl

the_newlines_of_a_part : newlines_between block 0 4 ≡ 2
the_newlines_of_a_part = refl
