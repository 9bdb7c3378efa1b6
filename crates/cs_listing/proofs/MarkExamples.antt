-- Rows of the definitions of `Marks`.
use Rattle.std.proofs.Common.{◌≡◌, refl, [], ◌∷◌, ◌+◌, ◌^◌}
use Rattle.std.specs.Prelude.{codes}
use Rattle.cs_listing.specs.Marks.{name_marks, tokens_marks}
use Rattle.cs_listing.specs.declared.glob.Token.TheVariants.{Byte, Any, Star}

-- 97 % 32 and 97 % 16 are 1
marks_of_a : name_marks (codes "a") ≡ 2 ^ 1 + 2 ^ 33 + 2 ^ 49
marks_of_a = refl

-- `a` and `ab` as globs
marks_of_one_name : tokens_marks (Byte 97 ∷ Byte 98 ∷ []) ≡ name_marks (codes "ab")
marks_of_one_name = refl

-- `*.o`: 46 % 32 is 14, 111 % 32 and 111 % 16 are 15
marks_of_objects : tokens_marks (Star ∷ Byte 46 ∷ Byte 111 ∷ []) ≡ 2 ^ 14 + 2 ^ 15 + 2 ^ 63
marks_of_objects = refl

-- `a?`
marks_of_any_last_byte : tokens_marks (Byte 97 ∷ Any ∷ []) ≡ 2 ^ 1 + 2 ^ 33
marks_of_any_last_byte = refl
