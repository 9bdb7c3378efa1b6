-- Bracket classes: the text between `[` and `]`.
-- docs/PATTERNS.md, "Classes"; the RE2 syntax page, "Character classes".
use Rattle.std.specs.Prelude.{ℕ, zero, suc, ◌+◌, Bool, true, false, ◌&&◌, not, List, [], ◌∷◌, Option, Some, None, codes, chars, length, slice_index, take, nat_lt, nat_eq, drop, if◌then◌else◌}
use Rattle.std.specs.Map.{lookup}
use Rattle.std.specs.Option.{option_map}
use Rattle.std.specs.List.{prefix_len, starts_with}
use Rattle.std.specs.Cmp.Lexicographic.{pointwise}
use Rattle.cs_syntax.specs.ClassSets.{class_tree}
use Rattle.cs_syntax.specs.Escapes.{escaped_char, escaped_class, is_unsupported_escape}
use Rattle.cs_syntax.specs.Tokens.{PatternItem, Token, item, fault, and_then, atom, starts_with_byte, is_continuation}
use Rattle.cs_syntax.specs.declared.items.NamedClass.{NamedClass}
use Rattle.cs_syntax.specs.declared.items.NamedClass.TheVariants.{Alnum, Alpha, Ascii, Blank, Cntrl, Digit, Graph, Lower, Print, Punct, Space, Upper, Word, Xdigit}
use Rattle.cs_syntax.specs.declared.items.ClassItem.{ClassItem}
use Rattle.cs_syntax.specs.declared.items.ClassItem.TheVariants.{Range, Named}
use Rattle.cs_syntax.specs.declared.fault.PatternFault.TheVariants.{OpenClass, BadRange, BadEscape, LoneBackslash, NotInProfile}

-- the character of an escape in a class; the text follows the backslash
abbrev pub class_escape : List ℕ → Token ℕ
class_escape [] = fault LoneBackslash 0
class_escape (e ∷ rest) =
    if is_unsupported_escape e then fault NotInProfile 0
    else elim (escaped_char (e ∷ rest)) [ None ↦ fault BadEscape 0 | Some c ↦ item c.char c.len ]

-- one character, also as the end of a range; the bytes of a non-ASCII character are decoded as UTF-8
abbrev pub class_char : ℕ → List ℕ → Token ℕ
class_char b rest =
    let n = prefix_len is_continuation rest in
    if nat_eq b 92 then class_escape rest
    else if nat_lt b 128 then item b 0
    else item (slice_index (chars (b ∷ take n rest)) 0) n

-- the range that begins with `low` and has `len` bytes between its first one and the character after the `-`
abbrev pub range_to : ℕ → ℕ → Token ℕ → Token ClassItem
range_to low len = and_then len (λ high more.
    if nat_lt high low then fault BadRange 0 else item (Range low high) (len + more))

-- after a character: a `-` that is not followed by `]` makes it the start of a range
abbrev pub range_from : ℕ → ℕ → List ℕ → Token ClassItem
range_from low len (b ∷ c ∷ rest) =
    let is_range = nat_eq b 45 && not (nat_eq c 93) in
    if is_range then range_to low (len + 2) (class_char c rest) else item (Range low low) len
range_from low len _ = item (Range low low) len

-- a character, or the range that begins with it
abbrev pub span : Token ℕ → List ℕ → Token ClassItem
span first rest = and_then 0 (λ low len. range_from low len (drop len rest)) first

-- the number of bytes before the first `:]`, if there is one
abbrev pub name_length : List ℕ → Option ℕ
name_length [] = None
name_length (b ∷ rest) =
    if starts_with nat_eq (b ∷ rest) (codes ":]") then Some 0 else option_map suc (name_length rest)

-- the POSIX class of a name
unfoldable pub class_by_name : List ℕ → Option NamedClass
class_by_name name = lookup (pointwise nat_eq name)
    ((codes "alnum", Alnum) ∷ (codes "alpha", Alpha) ∷ (codes "ascii", Ascii) ∷ (codes "blank", Blank)
    ∷ (codes "cntrl", Cntrl) ∷ (codes "digit", Digit) ∷ (codes "graph", Graph) ∷ (codes "lower", Lower)
    ∷ (codes "print", Print) ∷ (codes "punct", Punct) ∷ (codes "space", Space) ∷ (codes "upper", Upper)
    ∷ (codes "word", Word) ∷ (codes "xdigit", Xdigit) ∷ [])

-- the POSIX class `[:name:]` or `[:^name:]`; the name includes the `^`
abbrev pub posix_class : List ℕ → Token ClassItem
posix_class name =
    let negated = starts_with_byte 94 name in
    let class = class_by_name (if negated then drop 1 name else name) in
    elim class [ None ↦ fault BadRange 0 | Some c ↦ item (Named c negated) (length name + 3) ]

-- after `[:`; without a `:]` the `[` is a literal
abbrev pub after_colon : List ℕ → Token ClassItem
after_colon text =
    elim (name_length text) [ None ↦ item (Range 91 91) 0 | Some n ↦ posix_class (take n text) ]

-- after a backslash
abbrev pub after_backslash : List ℕ → Token ClassItem
after_backslash [] = fault LoneBackslash 0
after_backslash (e ∷ rest) =
    elim (escaped_class e) [ None ↦ span (class_escape (e ∷ rest)) (e ∷ rest) | Some i ↦ item i 1 ]

-- the class item that begins with the byte b
abbrev pub class_token : ℕ → List ℕ → Token ClassItem
class_token b rest =
    if nat_eq b 91 && starts_with_byte 58 rest then after_colon (drop 1 rest)
    else if nat_eq b 92 then after_backslash rest
    else span (class_char b rest) rest

-- `items_from skip distance start text`: the items up to the `]` and the distance of the `]` from the `[`; or the first
-- error and its distance from the `[`. The text begins `distance` bytes after the `[`, and its first `skip` bytes
-- belong to the previous item. At the start a `]` is a literal.
abbrev pub items_from : ℕ → ℕ → Bool → List ℕ → Token (List ClassItem)
items_from skip distance start [] = fault OpenClass 0
items_from (suc skip) distance start (b ∷ text) = items_from skip (distance + 1) start text
items_from zero distance start (b ∷ text) =
    if nat_eq b 93 && not start then item [] distance
    else and_then distance (λ i len. and_then 0 (λ items end. item (i ∷ items) end)
    (items_from len (distance + 1) false text)) (class_token b text)

abbrev pub class_of : Bool → Bool → Token (List ClassItem) → Token PatternItem
class_of fold negated = and_then 0 (λ items len. item (atom (class_tree fold negated items)) len)

-- after `[`: a `^` negates the class
abbrev pub class : Bool → List ℕ → Token PatternItem
class fold rest =
    if starts_with_byte 94 rest then class_of fold true (items_from 0 2 true (drop 1 rest))
    else class_of fold false (items_from 0 1 true rest)
