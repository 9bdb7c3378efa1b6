-- Group names and flags.
-- docs/PATTERNS.md, "Groups and flags"; the RE2 syntax page, "Grouping".
use Rattle.std.specs.Prelude.{ℕ, ◌+◌, ◌&&◌, ◌||◌, not, List, codes, nat_lt, nat_eq, take, drop, if◌then◌else◌}
use Rattle.std.specs.List.{prefix_len}
use Rattle.cs_syntax.specs.Matching.{is_word}
use Rattle.cs_syntax.specs.NumberList.{has}
use Rattle.cs_syntax.specs.Tokens.{PatternItem, Token, item, fault, group_start, flags_from_here, starts_with_byte}
use Rattle.cs_syntax.specs.declared.items.Flags.{Flags}
use Rattle.cs_syntax.specs.declared.fault.PatternFault.TheVariants.{BadGroup, NotInProfile}

-- after `(?<` or `(?P<`: a name and a `>`; `len` is the number of bytes between the parenthesis and the text
abbrev pub name : Flags → ℕ → List ℕ → Token PatternItem
name flags len text =
    let n = prefix_len is_word text in
    if nat_lt 0 n && starts_with_byte 62 (drop n text) then item (group_start flags) (len + n + 1)
    else fault BadGroup 0

abbrev pub with_set : List ℕ → Flags → Flags
with_set letters flags =
    record { fold = flags.fold || has letters 105; dot_all = flags.dot_all || has letters 115 }

abbrev pub with_cleared : List ℕ → Flags → Flags
with_cleared letters flags =
    record { fold = flags.fold && not (has letters 105); dot_all = flags.dot_all && not (has letters 115) }

-- after the flags: a `:` and the text of the group, or a `)`
abbrev pub after_flags : Flags → ℕ → List ℕ → Token PatternItem
after_flags flags len rest =
    if starts_with_byte 58 rest then item (group_start flags) (len + 1)
    else if starts_with_byte 41 rest then item (flags_from_here flags) (len + 1)
    else fault BadGroup 0

-- after the `-`: one or more flags to clear, of i, s and U
abbrev pub cleared_flags : Flags → ℕ → List ℕ → Token PatternItem
cleared_flags flags len text =
    let n = prefix_len (has (codes "isU")) text in
    if starts_with_byte 109 (drop n text) then fault NotInProfile 0
    else if nat_eq n 0 then fault BadGroup 0
    else after_flags (with_cleared (take n text) flags) (len + n) (drop n text)

-- after `(?`: zero or more flags to set, of i, m, s and U, then optionally a `-` and flags to clear
abbrev pub set_flags : Flags → List ℕ → Token PatternItem
set_flags flags text =
    let n = prefix_len (has (codes "imsU")) text in
    let set = with_set (take n text) flags in
    if starts_with_byte 45 (drop n text) then cleared_flags set (n + 2) (drop (n + 1) text)
    else after_flags set (n + 1) (drop n text)

-- after `(?`
abbrev pub head : Flags → List ℕ → Token PatternItem
head flags text =
    if starts_with_byte 60 text then name flags 2 (drop 1 text)
    else if starts_with_byte 80 text && starts_with_byte 60 (drop 1 text) then name flags 3 (drop 2 text)
    else set_flags flags text

-- after `(`
abbrev pub group : Flags → List ℕ → Token PatternItem
group flags rest = if starts_with_byte 63 rest then head flags (drop 1 rest) else item (group_start flags) 0
