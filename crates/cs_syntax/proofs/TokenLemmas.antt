-- The item of a token ends within the text, and its error is one of texts: neither `TooLarge` nor `Memory`.
use Rattle.std.proofs.Common.{◌≡◌, ℕ, zero, suc, ◌+◌, ◌<◌, ◌≤◌, Bool, true, false, ◌&&◌, ◌||◌, List, [], ◌∷◌, length, take, drop, refl, sym, arith, Option, Some, None, length-drop}
use Rattle.std.specs.Prelude.{nat_eq, nat_lt, not, min, if◌then◌else◌, codes}
use Rattle.std.specs.Char.{is_ascii_alphabetic}
use Rattle.std.specs.List.{prefix_len}
use Rattle.std.proofs.lemmas.Bool.{true≢false, and_parts, ltb-true}
use Rattle.std.proofs.lemmas.List.Sums.{prefix_len-le-length}
use Rattle.cs_syntax.specs.Matching.{Tree, one_of, is_word}
use Rattle.cs_syntax.specs.NumberList.{has}
use Rattle.cs_syntax.specs.Tokens.{Token, atom, item, fault, and_then, starts_with_byte, is_continuation, char_tree}
use Rattle.cs_syntax.specs.ByteSet.{char_set}
use Rattle.cs_syntax.specs.Numbers.{is_digit, count_digits, number_of_digits}
use Rattle.cs_syntax.specs.Classes.{class_escape, class_char, range_to, range_from, span, name_length, posix_class, after_backslash, class_token, items_from, class_of, class}
use Rattle.cs_syntax.specs.declared.items.ClassItem.{ClassItem}
use Rattle.cs_syntax.specs.declared.items.ClassItem.TheVariants.{Range, Named}
use Rattle.cs_syntax.specs.declared.items.NamedClass.{NamedClass}
use Rattle.cs_syntax.specs.Repeats.{lazy, number, counts_to, counts_from, counts, is_bad, brace}
use Rattle.cs_syntax.specs.declared.items.Number.{Number}
use Rattle.cs_syntax.specs.declared.items.RepeatCounts.{RepeatCounts}
use Rattle.cs_syntax.specs.Characters.{is_scalar}
use Rattle.cs_syntax.specs.Escapes.{char_by_number, octal_char, hex_char_in_braces, hex_char, control_char, escaped_char, is_unsupported_escape, escaped_class, escaped_tree, char_token, escape}
use Rattle.cs_syntax.specs.declared.escapes.EscapedChar.{EscapedChar}
use Rattle.cs_syntax.specs.Items.{next_token, token_by_kind}
use Rattle.cs_syntax.specs.ByteKinds.{byte_kind_of}
use Rattle.cs_syntax.specs.Groups.{name, with_set, with_cleared, after_flags, cleared_flags, set_flags, head, group}
use Rattle.cs_syntax.specs.Parsing.{IsTextFault}
use Rattle.cs_syntax.specs.declared.items.Flags.{Flags}
use Rattle.cs_syntax.specs.declared.items.ByteKind.{ByteKind}
use Rattle.cs_syntax.specs.declared.items.ByteKind.TheVariants.{Star, Plus, Question, Brace, Dot, Caret, Dollar, Bar, Open, Close, Class, Backslash, NonAscii, Literal}
use Rattle.cs_syntax.specs.declared.fault.PatternFault.TheVariants.{BadEscape, BadRange, BadRepeat}

-- both branches of a conditional
pub tests : {A : Type 0} (P : A → Type 0) (b : Bool) (x y : A) → (b ≡ true → P x) → (b ≡ false → P y) → P (if b then x else y)
tests P true x y p q = p refl
tests P false x y p q = q refl

pub either : {A : Type 0} (P : A → Type 0) (b : Bool) (x y : A) → P x → P y → P (if b then x else y)
either P b x y p q = tests P b x y (λ _. p) (λ _. q)

-- the error is one of texts
abbrev pub OfText : {A : Type 0} → Token A → Type 0
OfText (item x len) = Unit {0}
OfText (fault k distance) = IsTextFault k

-- and the item needs at most n bytes
abbrev pub FitsIn : {A : Type 0} → ℕ → Token A → Type 0
FitsIn n (item x len) = len ≤ n
FitsIn n (fault k distance) = IsTextFault k

-- a token made of one that fits
and_then_fits : {A B : Type 0} (n by : ℕ) (next : A → ℕ → Token B) (t : Token A) → FitsIn n t →
    ((x : A) (len : ℕ) → len ≤ n → FitsIn n (next x len)) → FitsIn n (and_then by next t)
and_then_fits n by next (item x len) h made = made x len h
and_then_fits n by next (fault k distance) h made = h

pub starts_within : (c n : ℕ) (text : List ℕ) → starts_with_byte c (drop n text) ≡ true → n < length text
starts_within c zero [] h = absurd (true≢false (sym h))
starts_within c zero (d ∷ text) h = omega arith
starts_within c (suc n) [] h = absurd (true≢false (sym h))
starts_within c (suc n) (d ∷ text) h = let less = starts_within c n text h in omega (arith, less)

-- ---- escapes

abbrev pub CharWithin : ℕ → Option EscapedChar → Type 0
CharWithin n None = Unit {0}
CharWithin n (Some c) = c.len ≤ n

number_within : (value len n : ℕ) → len ≤ n → CharWithin n (char_by_number value len)
number_within value len n le = either (CharWithin n) (is_scalar value) (Some (record { char = value; len = len })) None le tt

octal_within : (text : List ℕ) → CharWithin (length text) (octal_char text)
octal_within text =
    let le = prefix_len-le-length (is_digit 8) text in
    either (CharWithin (length text)) (starts_with_byte 48 text || nat_lt 1 (min (count_digits 8 text) 3)) _ None
    (number_within (number_of_digits 8 (take (min (count_digits 8 text) 3) text)) (min (count_digits 8 text) 3)
    (length text) (omega (arith, le))) tt

braces_within : (n : ℕ) (text : List ℕ) → length text + 2 ≤ n → CharWithin n (hex_char_in_braces text)
braces_within n text le =
    tests (CharWithin n) (nat_lt 0 (count_digits 16 text) && starts_with_byte 125 (drop (count_digits 16 text) text)) _ None
    (λ e. number_within (number_of_digits 16 (take (count_digits 16 text) text)) (count_digits 16 text + 3) n
    (let less = starts_within 125 (count_digits 16 text) text (and_parts (nat_lt 0 (count_digits 16 text)) _ e).1 in
    omega (arith, less, le)))
    (λ e. tt)

hex_within : (text : List ℕ) → CharWithin (suc (length text)) (hex_char text)
hex_within text =
    tests (CharWithin (suc (length text))) (starts_with_byte 123 text) (hex_char_in_braces (drop 1 text)) _
    (λ e. braces_within (suc (length text)) (drop 1 text) (let less = starts_within 123 0 text e in let long =
    length-drop 1 text in omega (arith, less, long)))
    (λ e. tests (CharWithin (suc (length text))) (nat_lt 1 (count_digits 16 text)) _ None
    (λ e. number_within (number_of_digits 16 (take 2 text)) 3 (suc (length text))
    (let some = ltb-true 1 (count_digits 16 text) e in let le = prefix_len-le-length (is_digit 16) text in
    omega (arith, some, le)))
    (λ e. tt))

pub escaped_within : (e : ℕ) (text : List ℕ) → CharWithin (suc (length text)) (escaped_char (e ∷ text))
escaped_within e text = by (control_char e) _ (
    either (CharWithin (suc (length text))) (nat_eq e 120) (hex_char text) _ (hex_within text)
    (either (CharWithin (suc (length text))) (is_digit 8 e) (octal_char (e ∷ text)) _ (octal_within (e ∷ text))
    (either (CharWithin (suc (length text))) (nat_lt e 128 && not (is_ascii_alphabetic e || is_digit 10 e))
    (Some (record { char = e; len = 1 })) None (omega arith) tt)))
  where
    by : (o : Option ℕ) (others : Option EscapedChar) → CharWithin (suc (length text)) others →
        CharWithin (suc (length text)) (elim o [ Some c ↦ Some (record { char = c; len = 1 }) | None ↦ others ])
    by None others h = h
    by (Some c) others h = omega arith

char_fits : (fold : Bool) (n : ℕ) (o : Option EscapedChar) → CharWithin n o →
    FitsIn n (elim o [ None ↦ fault BadEscape 0 | Some c ↦ item (atom (char_tree fold c.char)) c.len ])
char_fits fold n None h = tt
char_fits fold n (Some c) h = h

char_token_fits : (fold : Bool) (e : ℕ) (text : List ℕ) → FitsIn (suc (length text)) (char_token fold (e ∷ text))
unfolding char_token
char_token_fits fold e text = char_fits fold (suc (length text)) (escaped_char (e ∷ text)) (escaped_within e text)

escape_fits : (fold : Bool) (text : List ℕ) → FitsIn (length text) (escape fold text)
escape_fits fold [] = tt
escape_fits fold (e ∷ text) = either (FitsIn (suc (length text))) (is_unsupported_escape e) _ _ tt (by (escaped_tree e))
  where
    by : (o : Option Tree) → FitsIn (suc (length text)) (elim o [ Some t ↦ item (atom t) 1 | None ↦ char_token fold (e ∷ text) ])
    by None = char_token_fits fold e text
    by (Some t) = omega arith

-- ---- repeats

abbrev pub NumberWithin : ℕ → Option Number → Type 0
NumberWithin n None = Unit {0}
NumberWithin n (Some number) = number.len ≤ n

abbrev pub CountsWithin : ℕ → Option RepeatCounts → Type 0
CountsWithin n None = Unit {0}
CountsWithin n (Some c) = c.len ≤ n

pub digits_within : (text : List ℕ) → NumberWithin (length text) (number text)
digits_within text =
    either (NumberWithin (length text)) (nat_eq (count_digits 10 text) 0
    || (nat_lt 1 (count_digits 10 text) && starts_with_byte 48 text)) None _ tt
    (prefix_len-le-length (is_digit 10) text)

counts_to_within : (n : ℕ) (k : Number) (text : List ℕ) → k.len + 1 + length text ≤ n → CountsWithin n (counts_to k text)
counts_to_within n k text le = tests (CountsWithin n) (starts_with_byte 125 text) _ _
    (λ e. let less = starts_within 125 0 text e in omega (arith, less, le)) (λ e. by (number text))
  where
    by : (o : Option Number) → CountsWithin n (elim o [
      | None ↦ None
      | Some m ↦ if starts_with_byte 125 (drop m.len text) then
          Some (record { least = k.value; most = Some m.value; len = k.len + 2 + m.len }) else None
    ])
    by None = tt
    by (Some m) = tests (CountsWithin n) (starts_with_byte 125 (drop m.len text)) _ None
        (λ e. let less = starts_within 125 m.len text e in omega (arith, less, le)) (λ e. tt)

counts_from_within : (n : ℕ) (k : Number) (text : List ℕ) → k.len + length text ≤ n → CountsWithin n (counts_from k text)
counts_from_within n k text le =
    tests (CountsWithin n) (starts_with_byte 125 text) _ _ (λ e. let less = starts_within 125 0 text e in omega (arith, less, le))
    (λ e. tests (CountsWithin n) (starts_with_byte 44 text) (counts_to k (drop 1 text)) None
    (λ e. counts_to_within n k (drop 1 text) (let less = starts_within 44 0 text e in let long = length-drop 1 text in
    omega (arith, less, long, le)))
    (λ e. tt))

pub counts_within : (text : List ℕ) → CountsWithin (length text) (counts text)
counts_within text = by (number text) (digits_within text)
  where
    by : (o : Option Number) → NumberWithin (length text) o →
        CountsWithin (length text) (elim o [ None ↦ None | Some k ↦ counts_from k (drop k.len text) ])
    by None h = tt
    by (Some k) h = counts_from_within (length text) k (drop k.len text) (let long = length-drop k.len text in omega (arith, long, h))

lazy_fits : (n : ℕ) (m : Option ℕ) (len : ℕ) (text : List ℕ) → len ≤ length text → FitsIn (length text) (lazy n m len text)
lazy_fits n m len text le = by (starts_with_byte 63 (drop len text)) refl
  where
    by : (b : Bool) → starts_with_byte 63 (drop len text) ≡ b → len + (if b then 1 else 0) ≤ length text
    by true e = let less = starts_within 63 len text e in omega (arith, less)
    by false e = omega (arith, le)

brace_fits : (text : List ℕ) → FitsIn (length text) (brace text)
brace_fits text = by (counts text) (counts_within text)
  where
    by : (o : Option RepeatCounts) → CountsWithin (length text) o → FitsIn (length text) (elim o [
      | None ↦ item (atom (one_of (char_set false 123))) 0
      | Some c ↦ if is_bad c then fault BadRepeat 0 else lazy c.least c.most c.len text
    ])
    by None h = omega arith
    by (Some c) h = either (FitsIn (length text)) (is_bad c) (fault BadRepeat 0) (lazy c.least c.most c.len text) tt
        (lazy_fits c.least c.most c.len text h)

-- ---- groups

module _ (total : ℕ) where
  name_fits : (flags : Flags) (len : ℕ) (text : List ℕ) → len + length text ≤ total → FitsIn total (name flags len text)
  name_fits flags len text le =
      let n = prefix_len is_word text in
      tests (FitsIn total) (nat_lt 0 n && starts_with_byte 62 (drop n text)) _ _
      (λ e. let less = starts_within 62 n text (and_parts (nat_lt 0 n) _ e).1 in omega (arith, less, le)) (λ e. tt)

  after_flags_fit : (flags : Flags) (len : ℕ) (text : List ℕ) → len + length text ≤ total → FitsIn total (after_flags flags len text)
  after_flags_fit flags len text le =
      tests (FitsIn total) (starts_with_byte 58 text) _ _ (λ e. let less = starts_within 58 0 text e in omega (arith, less, le))
      (λ e. tests (FitsIn total) (starts_with_byte 41 text) _ _ (λ e. let less = starts_within 41 0 text e in
      omega (arith, less, le)) (λ e. tt))

  cleared_fit : (flags : Flags) (len : ℕ) (text : List ℕ) → len + length text ≤ total → FitsIn total (cleared_flags flags len text)
  cleared_fit flags len text le =
      let n = prefix_len (has (codes "isU")) text in
      let within = prefix_len-le-length (has (codes "isU")) text in
      either (FitsIn total) (starts_with_byte 109 (drop n text)) _ _ tt
      (either (FitsIn total) (nat_eq n 0) _ _ tt
      (after_flags_fit (with_cleared (take n text) flags) (len + n) (drop n text)
      (let long = length-drop n text in omega (arith, long, within, le))))

  set_fit : (flags : Flags) (text : List ℕ) → length text < total → FitsIn total (set_flags flags text)
  set_fit flags text le =
      let n = prefix_len (has (codes "imsU")) text in
      let within = prefix_len-le-length (has (codes "imsU")) text in
      tests (FitsIn total) (starts_with_byte 45 (drop n text)) _ _
      (λ e. cleared_fit (with_set (take n text) flags) (n + 2) (drop (n + 1) text)
      (let long = length-drop (n + 1) text in let less = starts_within 45 n text e in omega (arith, long, less, le)))
      (λ e. after_flags_fit (with_set (take n text) flags) (n + 1) (drop n text)
      (let long = length-drop n text in omega (arith, long, within, le)))

  head_fits : (flags : Flags) (text : List ℕ) → length text < total → FitsIn total (head flags text)
  head_fits flags text le =
      tests (FitsIn total) (starts_with_byte 60 text) _ _
      (λ e. name_fits flags 2 (drop 1 text) (let less = starts_within 60 0 text e in let long =
      length-drop 1 text in omega (arith, less, long, le)))
      (λ e. tests (FitsIn total) (starts_with_byte 80 text && starts_with_byte 60 (drop 1 text)) _ _
      (λ e. name_fits flags 3 (drop 2 text) (let less =
      starts_within 60 1 text (and_parts (starts_with_byte 80 text) _ e).1 in let long = length-drop 2 text in
      omega (arith, less, long, le)))
      (λ e. set_fit flags text le))

group_fits : (flags : Flags) (text : List ℕ) → FitsIn (length text) (group flags text)
group_fits flags text =
    tests (FitsIn (length text)) (starts_with_byte 63 text) _ _
    (λ e. head_fits (length text) flags (drop 1 text) (let less = starts_within 63 0 text e in let long =
    length-drop 1 text in omega (arith, less, long)))
    (λ e. omega arith)

-- ---- classes

pub class_escape_fits : (text : List ℕ) → FitsIn (length text) (class_escape text)
class_escape_fits [] = tt
class_escape_fits (e ∷ text) = either (FitsIn (suc (length text))) (is_unsupported_escape e) _ _ tt
    (by (escaped_char (e ∷ text)) (escaped_within e text))
  where
    by : (o : Option EscapedChar) → CharWithin (suc (length text)) o →
        FitsIn (suc (length text)) (elim o [ None ↦ fault BadEscape 0 | Some c ↦ item c.char c.len ])
    by None h = tt
    by (Some c) h = h

pub class_char_fits : (b : ℕ) (text : List ℕ) → FitsIn (length text) (class_char b text)
class_char_fits b text =
    either (FitsIn (length text)) (nat_eq b 92) _ _ (class_escape_fits text)
    (either (FitsIn (length text)) (nat_lt b 128) _ _ (omega arith) (prefix_len-le-length is_continuation text))

range_to-of : (low len n : ℕ) (c : Token ℕ) → FitsIn n c → OfText (range_to low len c)
range_to-of low len n (fault k by) h = h
range_to-of low len n (item high more) h = either OfText (nat_lt high low) _ _ tt tt

range_from-of : (low len : ℕ) (text : List ℕ) → OfText (range_from low len text)
range_from-of low len [] = tt
range_from-of low len (b ∷ []) = tt
range_from-of low len (b ∷ c ∷ text) = either OfText (nat_eq b 45 && not (nat_eq c 93)) _ _
    (range_to-of low (len + 2) (length text) (class_char c text) (class_char_fits c text)) tt

span-of : (n : ℕ) (c : Token ℕ) (text : List ℕ) → FitsIn n c → OfText (span c text)
span-of n (fault k by) text h = h
span-of n (item low len) text h = range_from-of low len (drop len text)

bracketed_class : (o : Option NamedClass) (negated : Bool) (len : ℕ) →
    OfText (elim o [ None ↦ fault BadRange 0 | Some class ↦ item (Named class negated) len ])
bracketed_class None negated len = tt
bracketed_class (Some class) negated len = tt

colon_class : (o : Option ℕ) (text : List ℕ) → OfText (elim o [ None ↦ item (Range 91 91) 0 | Some n ↦ posix_class (take n text) ])
colon_class None text = tt
colon_class (Some n) text = bracketed_class _ _ _

backslash_class : (o : Option ClassItem) (text : List ℕ) → OfText (elim o [ None ↦ span (class_escape text) text | Some i ↦ item i 1 ])
backslash_class None text = span-of (length text) (class_escape text) text (class_escape_fits text)
backslash_class (Some i) text = tt

after_backslash-of : (text : List ℕ) → OfText (after_backslash text)
after_backslash-of [] = tt
after_backslash-of (e ∷ text) = backslash_class (escaped_class e) (e ∷ text)

class_token-of : (b : ℕ) (text : List ℕ) → OfText (class_token b text)
class_token-of b text =
    either OfText (nat_eq b 91 && starts_with_byte 58 text) _ _ (colon_class (name_length (drop 1 text)) (drop 1 text))
    (either OfText (nat_eq b 92) _ _ (after_backslash-of text) (span-of (length text) (class_char b text) text (class_char_fits b text)))

items_fit : (skip distance n : ℕ) (start : Bool) (text : List ℕ) → distance + length text ≤ suc n →
    FitsIn n (items_from skip distance start text)
items_fit skip distance n start [] le = tt
items_fit (suc skip) distance n start (b ∷ text) le = items_fit skip (distance + 1) n start text (omega (arith, le))
items_fit zero distance n start (b ∷ text) le =
    either (FitsIn n) (nat_eq b 93 && not start) (item [] distance) _ (omega (arith, le))
    (by_token (class_token b text) (class_token-of b text) (λ len. items_fit len (distance + 1) n false text (omega (arith, le))))
  where
    by_token : (f : Token ClassItem) → OfText f → ((len : ℕ) → FitsIn n (items_from len (distance + 1) false text)) →
        FitsIn n (and_then distance (λ i len. and_then 0 (λ items end. item (i ∷ items) end)
        (items_from len (distance + 1) false text)) f)
    by_token (fault k by) h later = h
    by_token (item i len) h later = and_then_fits n 0 _ (items_from len (distance + 1) false text) (later len) (λ _ _ le. le)

class_fits : (fold : Bool) (text : List ℕ) → FitsIn (length text) (class fold text)
class_fits fold text =
    tests (FitsIn (length text)) (starts_with_byte 94 text) _ _
    (λ e. of true (items_from 0 2 true (drop 1 text))
    (items_fit 0 2 (length text) true (drop 1 text) (let less = starts_within 94 0 text e in let long =
    length-drop 1 text in omega (arith, less, long))))
    (λ e. of false (items_from 0 1 true text) (items_fit 0 1 (length text) true text (omega arith)))
  where
    of : (negated : Bool) (r : Token (List ClassItem)) → FitsIn (length text) r → FitsIn (length text) (class_of fold negated r)
    of negated r h = and_then_fits (length text) 0 _ r h (λ _ _ le. le)

-- ---- tokens

kind_fits : (kind : ByteKind) (flags : Flags) (b : ℕ) (text : List ℕ) → FitsIn (length text) (token_by_kind kind flags b text)
kind_fits Star flags b text = lazy_fits 0 None 0 text (omega arith)
kind_fits Plus flags b text = lazy_fits 1 None 0 text (omega arith)
kind_fits Question flags b text = lazy_fits 0 (Some 1) 0 text (omega arith)
kind_fits Brace flags b text = brace_fits text
kind_fits Dot flags b text = omega arith
kind_fits Caret flags b text = omega arith
kind_fits Dollar flags b text = omega arith
kind_fits Bar flags b text = omega arith
kind_fits Open flags b text = group_fits flags text
kind_fits Close flags b text = omega arith
kind_fits Class flags b text = class_fits flags.fold text
kind_fits Backslash flags b text = escape_fits flags.fold text
kind_fits NonAscii flags b text = prefix_len-le-length is_continuation text
kind_fits Literal flags b text = omega arith

pub token_fits : (flags : Flags) (b : ℕ) (text : List ℕ) → FitsIn (length text) (next_token flags b text)
unfolding next_token
token_fits flags b text = kind_fits (byte_kind_of b) flags b text
