-- Worked examples of the definitions.
use Rattle.std.proofs.Common.{◌≡◌, [], ◌∷◌, ◌++◌, Some, None, refl}
use Rattle.cs_trigram.specs.Scans.{scan_outcome, text, skipped_for, read_failed}
use Rattle.std.specs.Prelude.{codes}
use Rattle.cs_tree.specs.StreamModels.{ends, fails}
use Rattle.cs_trigram.specs.declared.scan.Reason.TheVariants.{Nul, Utf8, TooLong, LongLine, ManyTrigrams}
use Rattle.cs_trigram.specs.Trigram.{trigram_sequence, tri}
use Rattle.cs_trigram.specs.Text.{limits, skip, text_trigrams}

-- ---- trigrams

trigrams_of_four : trigram_sequence (codes "abcd") ≡ 6382179 ∷ 6447972 ∷ []
trigrams_of_four = refl

tri_of_a_repeat : tri (codes "abababa") ≡ 6382177 ∷ 6447458 ∷ []
tri_of_a_repeat = refl

tri_descends : tri (codes "cba") ≡ 6513249 ∷ []
tri_descends = refl

tri_in_order : tri (codes "zzab") ≡ 8020322 ∷ 8026721 ∷ []
tri_in_order = refl

tri_of_a_line : text_trigrams limits (codes "abcd" ++ 10 ∷ []) ≡ Some (6382179 ∷ 6447972 ∷ 6513674 ∷ [])
tri_of_a_line = refl

-- ---- pairs of bytes

two_bytes : text_trigrams limits (0xc3 ∷ 0xa9 ∷ []) ≡ Some []
two_bytes = refl

lead_and_letter : skip limits (0xe9 ∷ 0x61 ∷ []) ≡ Some Utf8
lead_and_letter = refl

half_a_character : text_trigrams limits (0xc3 ∷ []) ≡ Some []
half_a_character = refl

letter_and_zero : skip limits (0x61 ∷ 0x00 ∷ []) ≡ Some Nul
letter_and_zero = refl

zero_goes_before_the_pair : skip limits (0xc3 ∷ 0x00 ∷ []) ≡ Some Nul
zero_goes_before_the_pair = refl

no_byte_before : skip limits (0x80 ∷ []) ≡ Some Utf8
no_byte_before = refl

the_first_byte_counts : skip limits (0x80 ∷ 0x00 ∷ []) ≡ Some Utf8
the_first_byte_counts = refl

highest_lead : text_trigrams limits (0xf7 ∷ 0xbf ∷ 0xf7 ∷ []) ≡ Some (16236535 ∷ [])
highest_lead = refl

nothing_before_f8 : skip limits (0x61 ∷ 0xf8 ∷ []) ≡ Some Utf8
nothing_before_f8 = refl

-- ---- lines, with a limit of 5

a_full_line : text_trigrams (record { bytes = 100; line = 5; trigrams = 9 }) (codes "aaaa" ++ 10 ∷ []) ≡ Some (6381834 ∷ 6381921 ∷ [])
a_full_line = refl

a_full_line_at_the_end : text_trigrams (record { bytes = 100; line = 5; trigrams = 9 }) (codes "aaaaa") ≡ Some (6381921 ∷ [])
a_full_line_at_the_end = refl

a_newline_too_far : skip (record { bytes = 100; line = 5; trigrams = 9 }) (codes "aaaaa" ++ 10 ∷ []) ≡ Some LongLine
a_newline_too_far = refl

two_full_lines : skip (record { bytes = 100; line = 5; trigrams = 9 }) (codes "aaaa" ++ 10 ∷ codes "bbbb" ++ 10 ∷ []) ≡ None
two_full_lines = refl

-- ---- bytes, with a limit of 4

the_most_bytes : skip (record { bytes = 4; line = 5; trigrams = 9 }) (codes "abcd") ≡ None
the_most_bytes = refl

one_byte_too_many : skip (record { bytes = 4; line = 5; trigrams = 9 }) (codes "abcde") ≡ Some TooLong
one_byte_too_many = refl

too_long_goes_before_the_line : skip (record { bytes = 4; line = 4; trigrams = 9 }) (codes "abcde") ≡ Some TooLong
too_long_goes_before_the_line = refl

-- ---- trigrams, with a limit of 2

the_most_trigrams : skip (record { bytes = 100; line = 50; trigrams = 2 }) (codes "abcd") ≡ None
the_most_trigrams = refl

one_trigram_too_many : skip (record { bytes = 100; line = 50; trigrams = 2 }) (codes "abcde") ≡ Some ManyTrigrams
one_trigram_too_many = refl

a_bad_byte_goes_before : skip (record { bytes = 100; line = 50; trigrams = 2 }) (codes "abcde" ++ 255 ∷ []) ≡ Some Utf8
a_bad_byte_goes_before = refl

-- ---- results of a scan

read_to_the_end : scan_outcome limits (record { bytes = codes "abc"; ending = ends }) ≡ text (6382179 ∷ []) 3
read_to_the_end = refl

read_fails : scan_outcome limits (record { bytes = codes "abc"; ending = fails }) ≡ read_failed
read_fails = refl

read_fails_too_late : scan_outcome limits (record { bytes = 0x61 ∷ 0x00 ∷ codes "abc"; ending = fails }) ≡ skipped_for Nul
read_fails_too_late = refl

many_trigrams_of_what_fails : scan_outcome (record { bytes = 100; line = 50; trigrams = 2 })
    (record { bytes = codes "abcde"; ending = fails }) ≡ read_failed
many_trigrams_of_what_fails = refl
