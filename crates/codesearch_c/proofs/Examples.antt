-- Worked examples of the definitions.
use Rattle.std.proofs.Common.{◌≡◌, ℕ, nat_eq, true, false, [], ◌∷◌, length, refl}
use Rattle.cs_match.specs.Lines.{lines}
use Rattle.codesearch_c.specs.Copies.{filled_with}
use Rattle.codesearch_c.specs.MatchingLines.{matching_lines}
use Rattle.codesearch_c.specs.Building.{nul_parts}
use Rattle.codesearch_c.specs.Reports.{style_of}

-- "a\n\nb": the lines of one byte
lines_of_one_byte : matching_lines (λ line. nat_eq (length line) 1) (97 ∷ 10 ∷ 10 ∷ 98 ∷ []) 0
    ≡ record { start = 0; end = 1 } ∷ record { start = 3; end = 4 } ∷ []
unfolding matching_lines lines
lines_of_one_byte = refl

lines_from_an_offset : matching_lines (λ line. nat_eq (length line) 1) (97 ∷ 10 ∷ 10 ∷ 98 ∷ []) 1 ≡ record { start = 3; end = 4 } ∷ []
unfolding matching_lines lines
lines_from_an_offset = refl

room_for_one : filled_with {X = ℕ} (1 ∷ 2 ∷ []) (7 ∷ []) ≡ 1 ∷ []
room_for_one = refl

room_for_three : filled_with {X = ℕ} (1 ∷ 2 ∷ []) (7 ∷ 8 ∷ 9 ∷ []) ≡ 1 ∷ 2 ∷ 9 ∷ []
room_for_three = refl

list_and_number : style_of 6 ≡ record { count = false; list = true; number = true; bare = false }
list_and_number = refl

count_and_bare : style_of 9 ≡ record { count = true; list = false; number = false; bare = true }
count_and_bare = refl

last_part_without_nul : nul_parts (97 ∷ 0 ∷ 98 ∷ []) ≡ (97 ∷ []) ∷ (98 ∷ []) ∷ []
last_part_without_nul = refl

no_part_at_the_end : nul_parts (97 ∷ 0 ∷ 0 ∷ []) ≡ (97 ∷ []) ∷ [] ∷ []
no_part_at_the_end = refl
