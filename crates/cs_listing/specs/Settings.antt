-- What a text of git's settings says: git-config(1), "Syntax". docs/PROMISES.md, "Rules". The bytes are 8 for a backspace,
-- 9 for a tab, 10 for a newline, 13 for a carriage return, 32 for a space, 34 for a quotation mark, 35 for `#`, 45 for `-`,
-- 46 for `.`, 59 for `;`, 61 for `=`, 91 for `[`, 92 for a backslash and 93 for `]`.
use Rattle.std.specs.Prelude.{ℕ, zero, suc, Bool, true, false, not, ◌||◌, ◌&&◌, nat_eq, if◌then◌else◌, List, [], ◌∷◌, ◌++◌, take, drop, length, Option, Some, None, option_map, option_and_then, unwrap_or, codes, bytes_eq}
use Rattle.std.specs.Option.{option_to_list}
use Rattle.std.specs.Str.{is_utf8}
use Rattle.std.specs.Char.{to_ascii_lowercase, is_ascii_alphabetic, is_ascii_alphanumeric}
use Rattle.cs_listing.specs.Classes.{begins_with}
use Rattle.cs_listing.specs.RuleFiles.{without_mark}

-- what is read of a text, and the rest of it
pub record ReadPart : Type 0 where
  pub bytes : List ℕ
  pub rest : List ℕ

-- ---- bytes

-- spaces and tabs; where the flag says so, carriage returns too
abbrev pub is_blank : Bool → ℕ → Bool
is_blank returns b = nat_eq b 32 || (nat_eq b 9 || (returns && nat_eq b 13))

abbrev pub without_blanks : Bool → List ℕ → List ℕ
without_blanks returns [] = []
without_blanks returns (b ∷ text) = if is_blank returns b then without_blanks returns text else b ∷ text

abbrev pub is_comment : ℕ → Bool
is_comment b = nat_eq b 35 || nat_eq b 59

-- what follows the line that a text begins in
abbrev pub after_line : List ℕ → List ℕ
after_line [] = []
after_line (b ∷ text) = if nat_eq b 10 then text else after_line text

-- a text without the carriage returns before newlines
abbrev pub without_returns : List ℕ → List ℕ
without_returns [] = []
without_returns (b ∷ text) = if nat_eq b 13 && begins_with 10 text then without_returns text else b ∷ without_returns text

-- ---- names, in small letters: letters, digits and `-`; those of sections have dots too

abbrev pub is_name_byte : Bool → ℕ → Bool
is_name_byte dots b = is_ascii_alphanumeric b || (nat_eq b 45 || (dots && nat_eq b 46))

-- the name that a text begins with, after some bytes of it
abbrev pub name_from : Bool → List ℕ → List ℕ → ReadPart
name_from dots name [] = record { bytes = name; rest = [] }
name_from dots name (b ∷ text) =
    if is_name_byte dots b then name_from dots (name ++ to_ascii_lowercase b ∷ []) text else record { bytes = name; rest = b ∷ text }

-- ---- heads of sections, as in `[core]` and `[include "path"]`

-- a section whose name ends here
abbrev pub closed_head : List ℕ → List ℕ → Option ReadPart
closed_head name text = if begins_with 93 text then Some (record { bytes = name; rest = drop 1 text }) else None

-- A section whose subsection goes on here, after some bytes. A backslash quotes a byte, as the flag says of the next one.
abbrev pub subsection_from : List ℕ → Bool → List ℕ → Option ReadPart
subsection_from name is_escaped [] = None
subsection_from name is_escaped (b ∷ text) =
    if nat_eq b 10 then None
    else (if not is_escaped && nat_eq b 34 then closed_head name text
    else (if not is_escaped && nat_eq b 92 then subsection_from name true text
    else subsection_from (name ++ b ∷ []) false text))

-- a section with a subsection between quotation marks, which is its name after a dot
abbrev pub with_subsection : List ℕ → List ℕ → Option ReadPart
with_subsection name text = if begins_with 34 text then subsection_from (name ++ 46 ∷ []) false (drop 1 text) else None

abbrev pub head_of : ReadPart → Option ReadPart
head_of name =
    if begins_with 34 name.rest then None
    else (if begins_with 93 name.rest then (if bytes_eq name.bytes [] then None else closed_head name.bytes name.rest)
    else with_subsection name.bytes (without_blanks true name.rest))

-- the section whose head goes on here, after its `[`; None if it does not end
abbrev pub head_in : List ℕ → Option ReadPart
head_in text = head_of (name_from true [] text)

-- ---- values

-- A value so far: its bytes, the spaces after them, which count if more of it follows, whether the next byte is between
-- quotation marks, and whether it is after a backslash.
pub record Value : Type 0 where
  pub bytes : List ℕ
  pub spaces : List ℕ
  pub is_quoted : Bool
  pub is_escaped : Bool

-- what a byte after a backslash stands for
abbrev pub escape : ℕ → Option ℕ
escape b =
    if nat_eq b 116 then Some 9
    else (if nat_eq b 110 then Some 10
    else (if nat_eq b 98 then Some 8
    else (if nat_eq b 92 || nat_eq b 34 then Some b else None)))

-- a value with a byte more
abbrev pub with_byte : Value → ℕ → Value
with_byte value b =
    record { bytes = value.bytes ++ value.spaces ++ b ∷ []; spaces = []; is_quoted = value.is_quoted; is_escaped = false }

-- a value that goes on at a mark: its spaces count
abbrev pub with_mark : Value → Bool → Bool → Value
with_mark value is_quoted is_escaped =
    record { bytes = value.bytes ++ value.spaces; spaces = []; is_quoted = is_quoted; is_escaped = is_escaped }

-- spaces before a value do not count
abbrev pub with_space : Value → Value
with_space value = record value { spaces = if bytes_eq value.bytes [] then [] else value.spaces ++ 32 ∷ [] }

-- after a backslash, a newline goes on with the next line
abbrev pub after_escape : Value → ℕ → Option Value
after_escape value b =
    if nat_eq b 10 then Some (with_mark value value.is_quoted false) else option_map (with_byte value) (escape b)

-- the value after a byte that does not end it; None if git does not know the escape
abbrev pub after_byte : Value → ℕ → Option Value
after_byte value b =
    if value.is_escaped then after_escape value b
    else (if nat_eq b 92 then Some (with_mark value value.is_quoted true)
    else (if nat_eq b 34 then Some (with_mark value (not value.is_quoted) false)
    else (if is_blank true b && not value.is_quoted then Some (with_space value) else Some (with_byte value b))))

-- a value that ends; between quotation marks it may not
abbrev pub ended : Value → List ℕ → Option ReadPart
ended value text = if value.is_quoted then None else Some (record { bytes = value.bytes; rest = text })

-- whether a byte begins a comment
abbrev pub begins_comment : Value → ℕ → Bool
begins_comment value b = is_comment b && not (value.is_quoted || value.is_escaped)

-- A value that goes on here, and the text after its line. The end of a text counts as a newline.
abbrev pub value_from : Value → List ℕ → Option ReadPart
value_from value [] = ended value []
value_from value (b ∷ text) =
    if nat_eq b 10 && not value.is_escaped then ended value text
    else (if begins_comment value b then ended value (after_line text)
    else option_and_then (λ next. value_from next text) (after_byte value b))

abbrev pub no_value : Value
no_value = record { bytes = []; spaces = []; is_quoted = false; is_escaped = false }

-- ---- settings

-- a name and its value, if it has one
pub record Setting : Type 0 where
  pub name : List ℕ
  pub value : Option (List ℕ)
  pub rest : List ℕ

abbrev pub ends_line : List ℕ → Bool
ends_line [] = true
ends_line (b ∷ text) = nat_eq b 10

-- a setting whose name and the blanks after it are read
abbrev pub assigned : List ℕ → List ℕ → Option Setting
assigned name text =
    if begins_with 61 text
    then option_map (λ (value : ReadPart). record { name = name; value = Some value.bytes; rest = value.rest }) (value_from no_value (drop 1 text))
    else (if ends_line text then Some (record { name = name; value = None; rest = text }) else None)

abbrev pub setting_of : ReadPart → Option Setting
setting_of name = assigned name.bytes (without_blanks false name.rest)

-- the setting whose name begins with a letter and goes on in a text
abbrev pub setting_in : ℕ → List ℕ → Option Setting
setting_in first text = setting_of (name_from false (to_ascii_lowercase first ∷ []) text)

-- ---- what settings say of the rules of a user

pub data Directive : Type 0 where
  -- `core.excludesFile`: the file of the rules
  excludes : List ℕ → Directive
  -- `include.path`, and `includeIf.CONDITION.path`: a file of settings to be read here
  includes : Option (List ℕ) → List ℕ → Directive

-- a path or a condition, which is text
abbrev pub text_of : List ℕ → Option (List ℕ)
text_of bytes = if is_utf8 bytes then Some bytes else None

-- `path` in a section
abbrev pub inclusion : List ℕ → List ℕ → Option Directive
inclusion section path =
    if bytes_eq section (codes "include") then Some (includes None path)
    else (if bytes_eq (take 10 section) (codes "includeif.")
    then option_map (λ condition. includes (Some condition) path) (text_of (drop 10 section)) else None)

abbrev pub directive_for : List ℕ → List ℕ → List ℕ → Option Directive
directive_for section name path =
    if bytes_eq name (codes "path") then inclusion section path
    else (if bytes_eq name (codes "excludesfile") && bytes_eq section (codes "core") then Some (excludes path) else None)

-- what a setting of a section says; without a value, or with one that is not text, it says nothing
abbrev pub directive_of : List ℕ → Setting → Option Directive
directive_of section setting = option_and_then (directive_for section setting.name) (option_and_then text_of setting.value)

-- ---- a text

-- what is read of a text at once: what it says, the section that it begins, if it does, and the rest
pub record Piece : Type 0 where
  pub directive : Option Directive
  pub section : Option (List ℕ)
  pub rest : List ℕ

-- a piece that says nothing
abbrev pub silent : Option (List ℕ) → List ℕ → Piece
silent section rest = record { directive = None; section = section; rest = rest }

abbrev pub head_piece : ReadPart → Piece
head_piece head = silent (Some head.bytes) head.rest

abbrev pub piece_of : List ℕ → Setting → Piece
piece_of section setting = record { directive = directive_of section setting; section = None; rest = setting.rest }

-- the piece that a text in a section begins with; None if its line is bad
abbrev pub piece_in : List ℕ → List ℕ → Option Piece
piece_in section [] = None
piece_in section (b ∷ text) =
    if nat_eq b 10 || is_blank true b then Some (silent None text)
    else (if is_comment b then Some (silent None (after_line text))
    else (if nat_eq b 91 then option_map head_piece (head_in text)
    else (if is_ascii_alphabetic b then option_map (piece_of section) (setting_in b text) else None)))

-- what a text says up to its first bad line, and whether it has one
pub record Said : Type 0 where
  pub directives : List Directive
  pub is_bad : Bool

-- The same of the rest of a text in a section, after some directives. Each piece has a byte, and the number is not less than
-- the bytes.
abbrev pub said_from : ℕ → List Directive → List ℕ → List ℕ → Said
said_from zero before section text = record { directives = before; is_bad = false }
said_from (suc n) before section [] = record { directives = before; is_bad = false }
said_from (suc n) before section (b ∷ text) =
    unwrap_or (option_map (λ (piece : Piece). said_from n (before ++ option_to_list piece.directive) (unwrap_or piece.section section) piece.rest)
    (piece_in section (b ∷ text))) (record { directives = before; is_bad = true })

abbrev pub said_of_text : List ℕ → Said
said_of_text text = said_from (length text) [] [] text

-- what the text of a file says
unfoldable pub said_in : List ℕ → Said
said_in bytes = said_of_text (without_returns (without_mark bytes))
