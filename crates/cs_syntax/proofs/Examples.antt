-- Worked examples, computed.
use Rattle.std.proofs.Common.{◌≡◌, List, ℕ, zero, suc, ◌+◌, ◌^◌, ap, arith, true, false, refl, [], ◌∷◌, ◌++◌, replicate}
use Rattle.std.specs.Prelude.{codes, not, nat_eq, Some, None}
use Rattle.std.specs.Str.{chars}
use Rattle.std.proofs.lemmas.Bool.Decides.{nat_tests}
use Rattle.std.specs.Char.{encode_utf8}
use Rattle.std.proofs.lemmas.Fmt.{decimal_digit}
use mathlib.Core.Bool.{xor}
use Rattle.cs_syntax.specs.Matching.{Trees, empty, one_of, one_char, cat, alt, rep, line_start, line_end, word_edge, not_word_edge, none, more, member}
use Rattle.cs_syntax.specs.Characters.{has_char, ranges_through, MatchesChar}
use Rattle.cs_syntax.specs.CharRanges.{AreCanonical}
use Rattle.cs_syntax.specs.Cuts.{range_cuts, char_ranges, floor}
use Rattle.cs_syntax.specs.CharSteps.{finished, char_step, taken_at}
use Rattle.cs_syntax.specs.declared.char_step.Unfinished.{Unfinished}
use Rattle.cs_syntax.specs.declared.char_step.CharStep.TheVariants.{Single, Begins, Inside, Completes, Nothing}
use Rattle.cs_syntax.specs.ByteSet.{set_of, char_set, all_bytes}
use Rattle.cs_syntax.specs.Bits.{has_bit}
use Rattle.cs_syntax.specs.SetWords.{set_of_bits, set_words}
use Rattle.cs_syntax.specs.CharTrees.{ascii_set}
use Rattle.cs_syntax.specs.ClassSets.{is_in_item, item_tree, class_tree, dot_tree}
use Rattle.cs_syntax.specs.ClassState.{is_in_items}
use Rattle.cs_syntax.specs.Classes.{class_by_name}
use Rattle.cs_syntax.specs.Escapes.{char_token, escaped_class, escaped_tree}
use Rattle.cs_syntax.specs.Items.{next_token}
use Rattle.cs_syntax.specs.BarredPatterns.{final_flags, class_names_end}
use Rattle.cs_syntax.specs.Parsing.{parse_result, tree, rejected, flags_at_start}
use Rattle.cs_syntax.specs.Numbers.{digit_value}
use Rattle.cs_syntax.specs.ByteKinds.{byte_kind_of}
use Rattle.cs_syntax.specs.Quoting.{counted_repeat, quote_meta}
use Rattle.cs_syntax.proofs.CharSetLemmas.{scalar_cases}
use Rattle.cs_syntax.proofs.CharRangeLemmas.{tree_is}
use Rattle.cs_syntax.specs.Weight.{max_weight, weight, weights}
use Rattle.cs_syntax.specs.declared.items.NamedClass.TheVariants.{Ascii, Digit, Lower, Word}
use Rattle.cs_syntax.specs.declared.items.ClassItem.TheVariants.{Range, Named}
use Rattle.cs_syntax.specs.declared.fault.PatternFault.TheVariants.{NoOperand, StackedRepeat, BadRepeat, OpenGroup, StrayClose, BadGroup, OpenClass, BadRange, BadEscape, LoneBackslash, NotInProfile, TooDeep}

-- texts with a syntax error
faults :
    -- stacked repeat
    (parse_result (codes "a**") false ≡ rejected StackedRepeat 2)
    -- nothing at start
    × (parse_result (codes "*a") false ≡ rejected NoOperand 0)
    -- count above 1000
    × (parse_result (codes "a{1001}") false ≡ rejected BadRepeat 1)
    -- counts swapped
    × (parse_result (codes "a{2,1}") false ≡ rejected BadRepeat 1)
    -- open group
    × (parse_result (codes "(a") false ≡ rejected OpenGroup 0)
    -- stray close
    × (parse_result (codes "a)") false ≡ rejected StrayClose 1)
    -- unknown flag
    × (parse_result (codes "(?z)") false ≡ rejected BadGroup 0)
    -- open class
    × (parse_result (codes "[a") false ≡ rejected OpenClass 0)
    -- range swapped
    × (parse_result (codes "[b-a]") false ≡ rejected BadRange 1)
    -- no octal eight
    × (parse_result (codes "\\8") false ≡ rejected BadEscape 0)
    -- lone backslash
    × (parse_result (codes "a\\") false ≡ rejected LoneBackslash 1)
    -- start of text
    × (parse_result (codes "\\A") false ≡ rejected NotInProfile 0)
    -- range swapped, non-ASCII: the numbers of `é` and `a`
    × (parse_result (91 ∷ 195 ∷ 169 ∷ codes "-a]") false ≡ rejected BadRange 1)
    -- lazy then repeat
    × (parse_result (codes "a*??") false ≡ rejected StackedRepeat 3)
    -- bad count before stacked
    × (parse_result (codes "x{2}{1001}") false ≡ rejected BadRepeat 4)
    -- two counts
    × (parse_result (codes "x{2}{3}") false ≡ rejected StackedRepeat 4)
    -- nothing after bar
    × (parse_result (codes "|*") false ≡ rejected NoOperand 1)
    -- unknown class
    × (parse_result (codes "[[:foo:]]") false ≡ rejected BadRange 1)
    -- class ends no range
    × (parse_result (codes "[a-\\d]") false ≡ rejected BadEscape 3)
    -- number too large
    × (parse_result (codes "\\x{110000}") false ≡ rejected BadEscape 0)
    -- one octal digit
    × (parse_result (codes "\\1") false ≡ rejected BadEscape 0)
    -- clears m
    × (parse_result (codes "(?-m)a") false ≡ rejected NotInProfile 0)
    -- clears nothing
    × (parse_result (codes "(?-)a") false ≡ rejected BadGroup 0)
    -- nothing after parenthesis
    × (parse_result (codes "(*a)") false ≡ rejected NoOperand 1)
    -- nothing after head
    × (parse_result (codes "(?i:*a)") false ≡ rejected NoOperand 4)
    -- nothing after flags
    × (parse_result (codes "a(?i)*") false ≡ rejected NoOperand 5)
    -- innermost open group
    × (parse_result (codes "((a)(") false ≡ rejected OpenGroup 4)
    -- surrogate
    × (parse_result (codes "\\x{d800}") false ≡ rejected BadEscape 0)
    -- no digits
    × (parse_result (codes "\\x{}") false ≡ rejected BadEscape 0)
    -- one hex digit
    × (parse_result (codes "\\x4") false ≡ rejected BadEscape 0)
    -- word boundary in class
    × (parse_result (codes "[\\b]") false ≡ rejected BadEscape 1)
    -- backslash ends class
    × (parse_result (codes "[a\\") false ≡ rejected LoneBackslash 2)
    -- unsupported escape in class
    × (parse_result (codes "[a-\\pN]") false ≡ rejected NotInProfile 3)
    -- numbered range swapped
    × (parse_result (codes "[\\xea-\\xe9]") false ≡ rejected BadRange 1)
    -- a surrogate in class
    × (parse_result (codes "[a-\\x{d800}]") false ≡ rejected BadEscape 3)
    -- non-ASCII name
    × (parse_result (91 ∷ 91 ∷ 58 ∷ 195 ∷ 169 ∷ 58 ∷ 93 ∷ 93 ∷ []) false ≡ rejected BadRange 1)
    -- only a bracket
    × (parse_result (codes "[]") false ≡ rejected OpenClass 0)
    -- empty name
    × (parse_result (codes "(?P<>a)") false ≡ rejected BadGroup 0)
    -- bad name
    × (parse_result (codes "(?<a-b>a)") false ≡ rejected BadGroup 0)
    -- bad flag first
    × (parse_result (codes "(?z-m)") false ≡ rejected BadGroup 0)
    -- bracket ends range
    × (parse_result (codes "[a-[:digit:]]") false ≡ rejected BadRange 1)
    -- too deep
    × (parse_result (replicate 201 40) false ≡ rejected TooDeep 200)
    -- flags inside 200 open groups
    × (parse_result (replicate 200 40 ++ codes "(?i)") false ≡ rejected OpenGroup 199)
unfolding byte_kind_of next_token char_token escaped_class escaped_tree digit_value class_by_name chars
faults = (
  refl,
  refl,
  refl,
  refl,
  refl,
  refl,
  refl,
  refl,
  refl,
  refl,
  refl,
  refl,
  refl,
  refl,
  refl,
  refl,
  refl,
  refl,
  refl,
  refl,
  refl,
  refl,
  refl,
  refl,
  refl,
  refl,
  refl,
  refl,
  refl,
  refl,
  refl,
  refl,
  refl,
  refl,
  refl,
  refl,
  refl,
  refl,
  refl,
  refl,
  refl,
  refl,
  refl,
)

-- texts that parse as a tree
trees_of_texts :
    -- no text
    (parse_result (codes "") false ≡ tree empty)
    -- braces are text
    × (parse_result (codes "a{,2}") false ≡ tree
    (cat (more (one_of (char_set false 97)) (more (one_of (char_set false 123))
    (more (one_of (char_set false 44)) (more (one_of (char_set false 50))
    (more (one_of (char_set false 125)) none)))))))
    -- zero first is text
    × (parse_result (codes "a{01}") false ≡ tree
    (cat (more (one_of (char_set false 97)) (more (one_of (char_set false 123))
    (more (one_of (char_set false 48)) (more (one_of (char_set false 49))
    (more (one_of (char_set false 125)) none)))))))
    -- empty branch
    × (parse_result (codes "a||b") false ≡ tree
    (alt (more (one_of (char_set false 97)) (more (empty) (more (one_of (char_set false 98)) none)))))
    -- sequence of atoms
    × (parse_result (codes "^(a|b)*.$") false
    ≡ tree (cat (more (line_start) (more (rep
    (alt (more (one_of (char_set false 97)) (more (one_of (char_set false 98)) none))) 0 None)
    (more (dot_tree false) (more (line_end) none))))))
    -- counted
    × (parse_result (codes "^a{2,3}$") false
    ≡ tree (cat (more (line_start) (more (rep (one_of (char_set false 97)) 2 (Some 3)) (more (line_end) none)))))
    -- exactly
    × (parse_result (codes "a{3}?") false ≡ tree (rep (one_of (char_set false 97)) 3 (Some 3)))
    -- at least
    × (parse_result (codes "a{2,}") false ≡ tree (rep (one_of (char_set false 97)) 2 None))
    -- once or more
    × (parse_result (codes "a+?b?") false ≡ tree
    (cat (more (rep (one_of (char_set false 97)) 1 None) (more (rep (one_of (char_set false 98)) 0 (Some 1)) none))))
    -- folded group
    × (parse_result (codes "(?i:a)b") false ≡ tree (cat (more (one_of (char_set true 97)) (more (one_of (char_set false 98)) none))))
    -- flags after a bar
    × (parse_result (codes "a(?i)b|c") false
    ≡ tree (alt (more (cat (more (one_of (char_set false 97)) (more (one_of (char_set true 98)) none)))
    (more (one_of (char_set true 99)) none))))
    -- flags end with group
    × (parse_result (codes "(a(?i)b)c") false
    ≡ tree (cat (more (cat (more (one_of (char_set false 97)) (more (one_of (char_set true 98)) none)))
    (more (one_of (char_set false 99)) none))))
    -- flag set and cleared
    × (parse_result (codes "(?i-i)a") false ≡ tree (one_of (char_set false 97)))
    -- dot all
    × (parse_result (codes "(?s).") false ≡ tree (dot_tree true))
    -- no flags
    × (parse_result (codes "(?)a(?mU)") false ≡ tree (one_of (char_set false 97)))
    -- word boundaries
    × (parse_result (codes "\\bfoo\\B") false
    ≡ tree (cat (more (word_edge) (more (one_of (char_set false 102))
    (more (one_of (char_set false 111)) (more (one_of (char_set false 111)) (more (not_word_edge) none)))))))
    -- negated POSIX class
    × (parse_result (codes "^[[:^digit:]]$") false
    ≡ tree (cat (more (line_start) (more (class_tree false false (Named Digit true ∷ [])) (more (line_end) none)))))
    -- bracket and colon
    × (parse_result (codes "^[[:a]$") false ≡ tree
    (cat (more (line_start) (more (class_tree false false (Range 91 91 ∷ Range 58 58 ∷ Range 97 97 ∷ []))
    (more (line_end) none)))))
    -- first bracket is text
    × (parse_result (codes "[]a-c]") false ≡ tree (class_tree false false (Range 93 93 ∷ Range 97 99 ∷ [])))
    -- bracket begins range
    × (parse_result (codes "[^]-a]") false ≡ tree (class_tree false true (Range 93 97 ∷ [])))
    -- last minus is text
    × (parse_result (codes "[a-]") false ≡ tree (class_tree false false (Range 97 97 ∷ Range 45 45 ∷ [])))
    -- minus after range is text
    × (parse_result (codes "[a-c-e]") false ≡ tree (class_tree false false (Range 97 99 ∷ Range 45 45 ∷ Range 101 101 ∷ [])))
    -- minus after class is text
    × (parse_result (codes "[\\d-z]") false ≡ tree (class_tree false false (Named Digit false ∷ Range 45 45 ∷ Range 122 122 ∷ [])))
    -- escapes in class
    × (parse_result (codes "[\\n-\\x20\\]]") false ≡ tree (class_tree false false (Range 10 32 ∷ Range 93 93 ∷ [])))
    -- digits class
    × (parse_result (codes "\\d") false ≡ tree (item_tree (Named Digit false)))
    -- any byte
    × (parse_result (codes "\\C") false ≡ tree (one_of all_bytes))
    -- `[é]`, `[à-ü]` and `[^é]`
    × (parse_result (91 ∷ 195 ∷ 169 ∷ 93 ∷ []) false ≡ tree (class_tree false false (Range 233 233 ∷ [])))
    × (parse_result (91 ∷ 195 ∷ 160 ∷ 45 ∷ 195 ∷ 188 ∷ 93 ∷ []) false ≡ tree (class_tree false false (Range 224 252 ∷ [])))
    × (parse_result (91 ∷ 94 ∷ 195 ∷ 169 ∷ 93 ∷ []) false ≡ tree (class_tree false true (Range 233 233 ∷ [])))
    -- characters of three and of four bytes
    × (parse_result (91 ∷ 226 ∷ 130 ∷ 172 ∷ 240 ∷ 159 ∷ 152 ∷ 128 ∷ 93 ∷ []) false
    ≡ tree (class_tree false false (Range 8364 8364 ∷ Range 128512 128512 ∷ [])))
    -- ends of a range by their numbers
    × (parse_result (codes "[\\x{d7ff}-\\x{e000}]") false ≡ tree (class_tree false false (Range 55295 57344 ∷ [])))
    -- two bytes
    × (parse_result (codes "^\\xe9$") false ≡ tree
    (cat (more (line_start) (more (cat (more (one_of (char_set false 195)) (more (one_of (char_set false 169)) none)))
    (more (line_end) none)))))
    -- octal then digit
    × (parse_result (codes "^\\101\\08$") false
    ≡ tree (cat (more (line_start) (more (one_of (char_set false 65))
    (more (one_of (char_set false 0)) (more (one_of (char_set false 56)) (more (line_end) none)))))))
    -- hex in braces
    × (parse_result (codes "\\x{0041}") false ≡ tree (one_of (char_set false 65)))
    -- named groups
    × (parse_result (codes "(?P<n>a)(?<n>b)") false
    ≡ tree (cat (more (one_of (char_set false 97)) (more (one_of (char_set false 98)) none))))
    -- one non-ASCII atom
    × (parse_result (195 ∷ 169 ∷ 42 ∷ []) false
    ≡ tree (rep (cat (more (one_of (char_set false 195)) (more (one_of (char_set false 169)) none))) 0 None))
    -- closers are text
    × (parse_result (codes "a]}") false ≡ tree
    (cat (more (one_of (char_set false 97)) (more (one_of (char_set false 93))
    (more (one_of (char_set false 125)) none)))))
    -- groups add no node
    × (parse_result (replicate 200 40 ++ (codes "a" ++ replicate 200 41)) false ≡ tree (one_of (char_set false 97)))
    -- both cases
    × (parse_result (codes "a") true ≡ tree (one_of (char_set true 97)))
    -- only ASCII letters are folded: the `a` of `éa`, not the bytes of `é`
    × (parse_result (195 ∷ 169 ∷ 97 ∷ []) true
    ≡ tree (cat (more (cat (more (one_of (char_set false 195)) (more (one_of (char_set false 169)) none)))
    (more (one_of (char_set true 97)) none))))
unfolding byte_kind_of next_token char_token escaped_class escaped_tree digit_value class_by_name encode_utf8 chars
trees_of_texts = (
  refl,
  refl,
  refl,
  refl,
  refl,
  refl,
  refl,
  refl,
  refl,
  refl,
  refl,
  refl,
  refl,
  refl,
  refl,
  refl,
  refl,
  refl,
  refl,
  refl,
  refl,
  refl,
  refl,
  refl,
  refl,
  refl,
  refl,
  refl,
  refl,
  refl,
  refl,
  refl,
  refl,
  refl,
  refl,
  refl,
  refl,
  refl,
  refl,
  refl,
)

-- `(a{1000}){20}` is too heavy
heavy : weight (rep (rep (one_of (char_set false 97)) 1000 (Some 1000)) 20 (Some 20)) ≡ 20021
heavy = refl

-- n letters
letters : ℕ → Trees
letters zero = none
letters (suc n) = more (one_of (char_set false 97)) (letters n)

weights_of_letters : (n : ℕ) → weights (letters n) ≡ n
unfolding letters
weights_of_letters zero = refl
weights_of_letters (suc n) = omega (arith, weights_of_letters n)

-- a sequence of 9999 letters has the greatest weight of a pattern, and one of 10000 letters is too heavy
letters_9999 : weight (cat (letters 9999)) ≡ max_weight
letters_9999 = ap (λ n. 1 + n) (weights_of_letters 9999)

letters_10000 : weight (cat (letters 10000)) ≡ 1 + max_weight
letters_10000 = ap (λ n. 1 + n) (weights_of_letters 10000)

-- members of sets
members :
    -- folded has upper
    (member (char_set true 97) 65 ≡ true)
    -- folded has no other
    × (member (char_set true 97) 66 ≡ false)
    -- a complement has the newline
    × (not (is_in_items false (Range 97 97 ∷ []) 10) ≡ true)
    -- a complement has non-ASCII characters
    × (not (is_in_items false (Range 97 97 ∷ []) 233) ≡ true)
    -- item is folded before it is negated
    × (is_in_items true (Named Lower true ∷ []) 65 ≡ false)
    -- range is folded
    × (is_in_items true (Range 97 122 ∷ []) 90 ≡ true)
    -- only ASCII letters are: `(?i)[É]` has no `é`
    × (is_in_items true (Range 201 201 ∷ []) 233 ≡ false)
    -- item then class negated
    × (not (is_in_items false (Named Digit true ∷ []) 53) ≡ true)
    -- word has underscore
    × (is_in_items false (Named Word false ∷ []) 95 ≡ true)
unfolding set_of is_in_item char_set xor
members = (refl, refl, refl, refl, refl, refl, refl, refl, refl)

-- a set of bytes as a bitmap: bit 64 is in the second word, and so is `a`, which is 97
bits :
    (has_bit (0 ∷ 1 ∷ []) 64 ≡ true)
    × (set_words (char_set false 97) ≡ 0 ∷ 2 ^ 33 ∷ 0 ∷ 0 ∷ [])
    × (set_of_bits (0 ∷ 2 ^ 33 ∷ 0 ∷ 0 ∷ []) ≡ char_set false 97)
unfolding set_words set_of_bits char_set set_of
bits = (refl, refl, refl)

-- a quoted text, and a counted repeat
written :
    (quote_meta (codes "a.b{2}") ≡ codes "a\\.b\\{2}")
    -- a non-ASCII character is not quoted
    × (quote_meta (195 ∷ 169 ∷ codes ".") ≡ 195 ∷ 169 ∷ codes "\\.")
    × (counted_repeat 2 7 ≡ codes "{2,7}")
written = (refl, refl, λ i. 123 ∷ (decimal_digit 2 (omega arith) i ++ 44 ∷ (decimal_digit 7 (omega arith) i ++ 125 ∷ [])))

-- Texts with bars. If the text before the bar is not self-contained, the whole is not the alternation of both.
bars :
    -- an alternation of three
    (parse_result (codes "a|b|c") false ≡ tree
    (alt (more (one_of (char_set false 97)) (more (one_of (char_set false 98))
    (more (one_of (char_set false 99)) none)))))
    -- an alternation in a group is one branch
    × (parse_result (codes "(a|b)|c") false ≡ tree
    (alt (more (alt (more (one_of (char_set false 97)) (more (one_of (char_set false 98)) none)))
    (more (one_of (char_set false 99)) none))))
    -- flags hold after the bar
    × (parse_result (codes "(?i)a|b") false ≡ tree (alt (more (one_of (char_set true 97)) (more (one_of (char_set true 98)) none))))
    × (parse_result (codes "b") false ≡ tree (one_of (char_set false 98)))
    -- a `[:` has its `:]` after the bar
    × (parse_result (codes "[[:a]") false ≡ tree (class_tree false false (Range 91 91 ∷ Range 58 58 ∷ Range 97 97 ∷ [])))
    × (parse_result (codes ":]") false ≡ tree (cat (more (one_of (char_set false 58)) (more (one_of (char_set false 93)) none))))
    × (parse_result (codes "[[:a]|:]") false ≡ rejected BadRange 1)
    -- the flags of a group end with the group
    × (final_flags 0 [] (flags_at_start false) (codes "(?i:a)") ≡ flags_at_start false)
    × (final_flags 0 [] (flags_at_start false) (codes "((?i)a)") ≡ flags_at_start false)
    × (final_flags 0 [] (flags_at_start false) (codes "(?i)a") ≡ flags_at_start true)
    × (class_names_end (codes "[[:alpha:]]") ≡ true)
    × (class_names_end (codes "[[:a]") ≡ false)
unfolding byte_kind_of next_token char_token escaped_class escaped_tree digit_value class_by_name
bars = (refl, refl, refl, refl, refl, refl, refl, refl, refl, refl, refl, refl)

-- members of sets of characters: `[à-ü]`, and all characters as one range
characters :
    (has_char ((224, 252) ∷ []) 233 ≡ true)
    × (has_char ((224, 252) ∷ []) 101 ≡ false)
    -- the surrogate d800 is in the range and is not a character
    × (has_char ((0, 1114111) ∷ []) 55296 ≡ false)
    × (has_char ((0, 1114111) ∷ []) 1114112 ≡ false)
    × (has_char ((0, 1114111) ∷ []) 57344 ≡ true)
characters = (refl, refl, refl, refl, refl)

-- the canonical ranges of some characters
ranges_of_characters :
    (ranges_through (224 ∷ 225 ∷ 226 ∷ 233 ∷ []) ≡ (224, 226) ∷ (233, 233) ∷ [])
    × (ranges_through (55294 ∷ 55295 ∷ 57344 ∷ []) ≡ (55294, 57344) ∷ [])
    × (ranges_through (55294 ∷ 57344 ∷ []) ≡ (55294, 55294) ∷ (57344, 57344) ∷ [])
ranges_of_characters = (refl, refl, refl)

-- the sets of `.`, `(?s).` and `\D`
dots :
    (dot_tree false ≡ one_char ((0, 9) ∷ (11, 1114111) ∷ []))
    × (dot_tree true ≡ one_char ((0, 1114111) ∷ []))
    × (item_tree (Named Digit true) ≡ one_char ((0, 47) ∷ (58, 1114111) ∷ []))
unfolding is_in_item xor
dots = (
  tree_is _ ((0, 9) ∷ (11, 1114111) ∷ []) (
    omega arith,
    (omega arith, refl, refl),
    (omega arith, (omega arith, refl, refl), tt),
  ) (λ c. grind (arith, nat_tests, scalar_cases c)),
  tree_is _ ((0, 1114111) ∷ []) (omega arith, (omega arith, refl, refl), tt) (λ c. grind (arith, nat_tests, scalar_cases c)),
  tree_is _ ((0, 47) ∷ (58, 1114111) ∷ [])
      (omega arith, (omega arith, refl, refl), (omega arith, (omega arith, refl, refl), tt))
      (λ c. grind (arith, nat_tests, scalar_cases c)),
)

-- bracket classes: `[a-c]` is a set of bytes; `[é]`, `[^é]`, `[[:^ascii:]]`; d7ff to e000 is one range
classes :
    (class_tree false false (Range 97 99 ∷ []) ≡ one_of (ascii_set ((97, 99) ∷ [])))
    × (class_tree false false (Range 233 233 ∷ []) ≡ one_char ((233, 233) ∷ []))
    × (class_tree false true (Range 233 233 ∷ []) ≡ one_char ((0, 232) ∷ (234, 1114111) ∷ []))
    × (class_tree false false (Named Ascii true ∷ []) ≡ one_char ((128, 1114111) ∷ []))
    × (class_tree false false (Range 55295 57344 ∷ []) ≡ one_char ((55295, 57344) ∷ []))
unfolding is_in_item xor
classes = (
  tree_is _ ((97, 99) ∷ []) (omega arith, (omega arith, refl, refl), tt) (λ c. grind (arith, nat_tests, scalar_cases c)),
  tree_is _ ((233, 233) ∷ []) (omega arith, (omega arith, refl, refl), tt) (λ c. grind (arith, nat_tests, scalar_cases c)),
  tree_is _ ((0, 232) ∷ (234, 1114111) ∷ [])
      (omega arith, (omega arith, refl, refl), (omega arith, (omega arith, refl, refl), tt))
      (λ c. grind (arith, nat_tests, scalar_cases c)),
  tree_is _ ((128, 1114111) ∷ []) (omega arith, (omega arith, refl, refl), tt) (λ c. grind (arith, nat_tests, scalar_cases c)),
  tree_is _ ((55295, 57344) ∷ []) (omega arith, (omega arith, refl, refl), tt) (λ c. grind (arith, nat_tests, scalar_cases c)),
)

-- `(.{1000}){9}` is too heavy, and `(?s)(.{1000}){9}` is not
weights_of_dots :
    (weight (rep (rep (dot_tree false) 1000 (Some 1000)) 9 (Some 9)) ≡ 18010)
    × (weight (rep (rep (dot_tree true) 1000 (Some 1000)) 9 (Some 9)) ≡ 9010)
weights_of_dots = (
  ap (λ t. weight (rep (rep t 1000 (Some 1000)) 9 (Some 9))) dots.0,
  ap (λ t. weight (rep (rep t 1000 (Some 1000)) 9 (Some 9))) dots.1,
)

-- d7ff and e000 are adjacent, so they form one range
one_range : AreCanonical ((55295, 57344) ∷ [])
one_range = (omega arith, (omega arith, refl, refl), tt)

-- and two ranges are not canonical
no_two_ranges : AreCanonical ((55295, 55295) ∷ (57344, 57344) ∷ []) → ⊥
no_two_ranges h = omega (arith, h.2.0)

-- d7fe and e000 are not adjacent, so they form two ranges
two_ranges : AreCanonical ((55294, 55294) ∷ (57344, 57344) ∷ [])
two_ranges = (omega arith, (omega arith, refl, refl), (omega arith, (omega arith, refl, refl), tt))

-- in `aé` the `é` is matched from 1 to 3; a character of four bytes is matched in a line of its own
matched_characters :
    MatchesChar (97 ∷ 195 ∷ 169 ∷ []) ((224, 252) ∷ []) 1 3
    × MatchesChar (240 ∷ 159 ∷ 152 ∷ 128 ∷ []) ((0, 1114111) ∷ []) 0 4
unfolding encode_utf8
matched_characters = ((233, refl, (refl, refl)), (128512, refl, (refl, refl)))

-- the cuts of `é` and `😀`
some_cuts : List ℕ
some_cuts = 0 ∷ 0x80 ∷ 233 ∷ 234 ∷ 0x800 ∷ 0xd800 ∷ 0xe000 ∷ 0x10000 ∷ 0x1f600 ∷ 0x1f601 ∷ 0x110000 ∷ []

cuts_at :
    (range_cuts ((233, 233) ∷ (0x1f600, 0x1f600) ∷ []) ≡ 233 ∷ 234 ∷ 0x1f600 ∷ 0x1f601 ∷ [])
    × (floor some_cuts 232 ≡ 0x80) × (floor some_cuts 233 ≡ 233) × (floor some_cuts 0x20ac ≡ 0x800)
    × (char_ranges (cat (more (one_char ((233, 233) ∷ []))
    (more (rep (one_char ((0x1f600, 0x1f600) ∷ [])) 0 None) none))) ≡ (233, 233) ∷ (0x1f600, 0x1f600) ∷ [])
unfolding some_cuts
cuts_at = (refl, refl, refl, refl, refl)

-- the characters that need this many bytes and begin at `low`
left : ℕ → ℕ → Unfinished
left needed low = record { needed = needed; low = low }

-- the bytes of `é`; a lead byte with no `é` in its block; the bytes of `€`, which is in none of the sets; those of `😀`
char_steps :
    (char_step some_cuts finished 0xc3 ≡ Begins (left 1 192)) × (char_step some_cuts (left 1 192) 0xa9 ≡ Completes 233)
    × (char_step some_cuts finished 0xc4 ≡ Begins (left 1 234)) × (char_step some_cuts (left 1 234) 0x80 ≡ Completes 234)
    × (char_step some_cuts finished 0xe2 ≡ Begins (left 2 0x800)) × (char_step some_cuts (left 2 0x800) 0x82 ≡ Inside (left 1 0x800))
    × (char_step some_cuts (left 1 0x800) 0xac ≡ Completes 0x800)
    × (char_step some_cuts finished 0xf0 ≡ Begins (left 3 0)) × (char_step some_cuts (left 3 0) 0x9f ≡ Inside (left 2 0x1f000))
    × (char_step some_cuts (left 2 0x1f000) 0x98 ≡ Inside (left 1 0x1f600)) × (char_step some_cuts (left 1 0x1f600) 0x80
    ≡ Completes 0x1f600)
    × (char_step some_cuts (left 1 0x1f600) 0x81 ≡ Completes 0x1f601)
unfolding some_cuts left
char_steps = (refl, refl, refl, refl, refl, refl, refl, refl, refl, refl, refl, refl)

-- no lead byte: `c0`, `f5`, a continuation byte. `e0 80`, `ed a0`, `f0 80` and `f4 90` begin no character. A letter or a
-- lead byte inside a character.
no_char_steps :
    (char_step some_cuts finished 0xc0 ≡ Nothing) × (char_step some_cuts finished 0xf5 ≡ Nothing) ×
    (char_step some_cuts finished 0x80 ≡ Nothing)
    × (char_step some_cuts (left 2 0) 0x80 ≡ Nothing) × (char_step some_cuts (left 2 0xd000) 0xa0 ≡ Nothing)
    × (char_step some_cuts (left 3 0) 0x80 ≡ Nothing) × (char_step some_cuts (left 3 0x100000) 0x90 ≡ Nothing)
    × (char_step some_cuts (left 1 192) 97 ≡ Single 97) × (char_step some_cuts (left 1 192) 0xc3 ≡ Begins (left 1 192))
unfolding some_cuts left
no_char_steps = (refl, refl, refl, refl, refl, refl, refl, refl, refl)

-- In `c3 c3 a9` the `é` begins at 1. In `c3 61 a9` there is none.
taken_chars :
    (taken_at some_cuts (0xc3 ∷ 0xc3 ∷ 0xa9 ∷ []) ((233, 233) ∷ []) (nat_eq 1) 3 ≡ true)
    × (taken_at some_cuts (0xc3 ∷ 0xc3 ∷ 0xa9 ∷ []) ((233, 233) ∷ []) (nat_eq 0) 3 ≡ false)
    × (taken_at some_cuts (0xc3 ∷ 97 ∷ 0xa9 ∷ []) ((233, 233) ∷ []) (λ i. true) 3 ≡ false)
    × (taken_at some_cuts (0xc0 ∷ 0x80 ∷ []) ((0, 0x10ffff) ∷ []) (λ i. true) 2 ≡ false)
    × (taken_at some_cuts (0xed ∷ 0xa0 ∷ 0x80 ∷ []) ((0, 0x10ffff) ∷ []) (λ i. true) 3 ≡ false)
    × (taken_at some_cuts (0xf4 ∷ 0x90 ∷ 0x80 ∷ 0x80 ∷ []) ((0, 0x10ffff) ∷ []) (λ i. true) 4 ≡ false)
unfolding some_cuts
taken_chars = (refl, refl, refl, refl, refl, refl)
