-- The character sets of a dot and of bracket classes.
-- docs/PATTERNS.md, "Classes"; the RE2 syntax page, "Character classes".
use Rattle.std.specs.Prelude.{ℕ, Bool, false, ◌||◌, not, nat_eq, List, [], ◌∷◌}
use Rattle.std.specs.Bool.{xor}
use Rattle.std.specs.List.{list_any}
use Rattle.cs_syntax.specs.Matching.{Tree}
use Rattle.cs_syntax.specs.Ranges.{word_ranges}
use Rattle.cs_syntax.specs.ByteSet.{is_in_folded}
use Rattle.cs_syntax.specs.CharTrees.{chars_tree}
use Rattle.cs_syntax.specs.declared.items.NamedClass.{NamedClass}
use Rattle.cs_syntax.specs.declared.items.NamedClass.TheVariants.{Alnum, Alpha, Ascii, Blank, Cntrl, Digit, Graph, Lower, Print, Punct, Space, Upper, Word, Xdigit, White}
use Rattle.cs_syntax.specs.declared.items.ClassItem.{ClassItem}
use Rattle.cs_syntax.specs.declared.items.ClassItem.TheVariants.{Range, Named}

-- the inclusive ranges of a named class
abbrev pub ranges_of : NamedClass → List (ℕ × ℕ)
ranges_of Alnum = (48, 57) ∷ (65, 90) ∷ (97, 122) ∷ []
ranges_of Alpha = (65, 90) ∷ (97, 122) ∷ []
ranges_of Ascii = (0, 127) ∷ []
ranges_of Blank = (9, 9) ∷ (32, 32) ∷ []
ranges_of Cntrl = (0, 31) ∷ (127, 127) ∷ []
ranges_of Digit = (48, 57) ∷ []
ranges_of Graph = (33, 126) ∷ []
ranges_of Lower = (97, 122) ∷ []
ranges_of Print = (32, 126) ∷ []
ranges_of Punct = (33, 47) ∷ (58, 64) ∷ (91, 96) ∷ (123, 126) ∷ []
ranges_of Space = (9, 13) ∷ (32, 32) ∷ []
ranges_of Upper = (65, 90) ∷ []
ranges_of Word = word_ranges
ranges_of Xdigit = (48, 57) ∷ (65, 70) ∷ (97, 102) ∷ []
ranges_of White = (9, 10) ∷ (12, 13) ∷ (32, 32) ∷ []

-- the character is in the class item: the item is case-folded first, then complemented if it is negated
unfoldable pub is_in_item : Bool → ClassItem → ℕ → Bool
is_in_item fold (Range low high) c = is_in_folded fold ((low, high) ∷ []) c
is_in_item fold (Named class negated) c = xor negated (is_in_folded fold (ranges_of class) c)

-- a bracket class: the union of its items, complemented if the class is negated
abbrev pub class_tree : Bool → Bool → List ClassItem → Tree
class_tree fold negated items = chars_tree (λ c. xor negated (list_any (λ i. is_in_item fold i c) items))

-- a class item outside brackets, such as `\d`, without case folding
abbrev pub item_tree : ClassItem → Tree
item_tree i = chars_tree (is_in_item false i)

-- a dot: all characters, without `dot_all` except the newline
abbrev pub dot_tree : Bool → Tree
dot_tree dot_all = chars_tree (λ c. dot_all || not (nat_eq c 10))
