-- Escapes. Each definition is given the text after the backslash, unless it says otherwise.
-- docs/PATTERNS.md, "Escapes"; the RE2 syntax page, "Escape sequences".
use Rattle.std.specs.Prelude.{ℕ, ◌+◌, Bool, true, false, ◌&&◌, ◌||◌, not, min, List, [], ◌∷◌, ◌++◌, map, codes, Option, Some, None, nat_lt, nat_eq, take, drop, if◌then◌else◌}
use Rattle.std.specs.Char.{is_ascii_alphabetic}
use Rattle.std.specs.List.{zip}
use Rattle.std.specs.Map.{lookup}
use Rattle.std.specs.Option.{option_map, option_or}
use Rattle.cs_syntax.specs.Matching.{Tree, one_of, word_edge, not_word_edge}
use Rattle.cs_syntax.specs.NumberList.{has}
use Rattle.cs_syntax.specs.ByteSet.{all_bytes}
use Rattle.cs_syntax.specs.ClassSets.{item_tree}
use Rattle.cs_syntax.specs.Characters.{is_scalar}
use Rattle.cs_syntax.specs.Numbers.{is_digit, count_digits, number_of_digits}
use Rattle.cs_syntax.specs.Tokens.{PatternItem, Token, item, fault, atom, starts_with_byte, char_tree}
use Rattle.cs_syntax.specs.declared.items.NamedClass.TheVariants.{Digit, White, Word}
use Rattle.cs_syntax.specs.declared.items.ClassItem.{ClassItem}
use Rattle.cs_syntax.specs.declared.items.ClassItem.TheVariants.{Named}
use Rattle.cs_syntax.specs.declared.escapes.EscapedChar.{EscapedChar}
use Rattle.cs_syntax.specs.declared.fault.PatternFault.TheVariants.{BadEscape, LoneBackslash, NotInProfile}

-- the character with the number c, written in `len` bytes after the backslash
abbrev pub char_by_number : ℕ → ℕ → Option EscapedChar
char_by_number c len = if is_scalar c then Some (record { char = c; len = len }) else None

-- `0` and up to two more octal digits, or another octal digit and one or two more
abbrev pub octal_char : List ℕ → Option EscapedChar
octal_char text =
    let len = min (count_digits 8 text) 3 in
    if starts_with_byte 48 text || nat_lt 1 len then char_by_number (number_of_digits 8 (take len text)) len else None

-- after `\x{`: hexadecimal digits and a `}`
abbrev pub hex_char_in_braces : List ℕ → Option EscapedChar
hex_char_in_braces text =
    let len = count_digits 16 text in
    if nat_lt 0 len && starts_with_byte 125 (drop len text)
    then char_by_number (number_of_digits 16 (take len text)) (len + 3)
    else None

-- after `\x`: two hexadecimal digits, or some in braces
abbrev pub hex_char : List ℕ → Option EscapedChar
hex_char text =
    if starts_with_byte 123 text then hex_char_in_braces (drop 1 text)
    else if nat_lt 1 (count_digits 16 text) then char_by_number (number_of_digits 16 (take 2 text)) 3
    else None

-- `\a`, `\f`, `\t`, `\n`, `\r` and `\v`
abbrev pub control_char : ℕ → Option ℕ
control_char e = lookup (nat_eq e) (zip (codes "aftnrv") (7 ∷ 12 ∷ 9 ∷ 10 ∷ 13 ∷ 11 ∷ []))

-- an escape for one character, inside and outside classes
abbrev pub escaped_char : List ℕ → Option EscapedChar
escaped_char [] = None
escaped_char (e ∷ rest) =
    elim (control_char e) [
      | Some c ↦ Some (record { char = c; len = 1 })
      | None ↦
          if nat_eq e 120 then hex_char rest
          else if is_digit 8 e then octal_char (e ∷ rest)
          else if nat_lt e 128 && not (is_ascii_alphabetic e || is_digit 10 e) then Some (record { char = e; len = 1 })
          else None
    ]

-- `\d`, `\s`, `\w` and their complements, inside and outside classes
unfoldable pub escaped_class : ℕ → Option ClassItem
escaped_class e =
    let sets = Digit ∷ White ∷ Word ∷ [] in
    lookup (nat_eq e) (zip (codes "dswDSW") (map (λ s. Named s false) sets ++ map (λ s. Named s true) sets))

-- `\A`, `\z`, `\Q`, `\p` and `\P`, which RE2 supports and this grammar does not
abbrev pub is_unsupported_escape : ℕ → Bool
is_unsupported_escape e = has (codes "AzQpP") e

-- an escape outside a class that stands for one character
unfoldable pub char_token : Bool → List ℕ → Token PatternItem
char_token fold text =
    elim (escaped_char text) [ None ↦ fault BadEscape 0 | Some c ↦ item (atom (char_tree fold c.char)) c.len ]

-- `\b`, `\B`, `\C` and the classes
unfoldable pub escaped_tree : ℕ → Option Tree
escaped_tree e =
    let others = word_edge ∷ not_word_edge ∷ one_of all_bytes ∷ [] in
    option_or (lookup (nat_eq e) (zip (codes "bBC") others)) (option_map item_tree (escaped_class e))

-- an escape outside a class
abbrev pub escape : Bool → List ℕ → Token PatternItem
escape fold [] = fault LoneBackslash 0
escape fold (e ∷ rest) =
    if is_unsupported_escape e then fault NotInProfile 0
    else elim (escaped_tree e) [ Some t ↦ item (atom t) 1 | None ↦ char_token fold (e ∷ rest) ]
