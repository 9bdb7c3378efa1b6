-- The rules of a file like .gitignore: gitignore(5), "PATTERN FORMAT". The bytes are 10 for a newline, 13 for a carriage
-- return, 32 for a space, 33 for `!`, 35 for `#` and 92 for a backslash.
use Rattle.std.specs.Prelude.{ℕ, ◌-◌, Bool, true, false, ◌&&◌, nat_eq, if◌then◌else◌, List, [], ◌∷◌, drop, take, length, Option, Some, None, bytes_eq, filter_map}
use Rattle.std.specs.List.{slice_split, before_first}
use Rattle.std.specs.Path.{slash}
use Rattle.cs_listing.specs.declared.rules.Decision.{Decision}
use Rattle.cs_listing.specs.declared.rules.Decision.TheVariants.{Ignore, TakeBack}
use Rattle.cs_listing.specs.Rules.{Rule}
use Rattle.cs_listing.specs.Classes.{begins_with, ends_with_byte}
use Rattle.cs_listing.specs.GlobText.{glob_in}

-- ---- the text of a line

-- a text without its last byte, if that is this one
abbrev pub without_last : ℕ → List ℕ → List ℕ
without_last b text = if ends_with_byte b text then take (length text - 1) text else text

-- git ends a line at a NUL
abbrev pub before_nul : List ℕ → List ℕ
before_nul line = before_first (λ b. nat_eq b 0) line

-- A line without the spaces at its end. A space that a backslash quotes stays. The flag says whether a backslash before
-- quotes the first byte.
abbrev pub trimmed_after : Bool → List ℕ → List ℕ
trimmed_after is_quoted [] = []
trimmed_after true (b ∷ line) = b ∷ trimmed_after false line
trimmed_after false (b ∷ line) =
    if nat_eq b 32 && bytes_eq (trimmed_after false line) [] then [] else b ∷ trimmed_after (nat_eq b 92) line

abbrev pub trimmed : List ℕ → List ℕ
trimmed line = trimmed_after false line

-- ---- rules

-- the rule of a text without its `!`; a slash at the end is for folders only
abbrev pub rule_with : Decision → Bool → List ℕ → Option Rule
rule_with decision only_folders [] = None
rule_with decision only_folders (b ∷ text) =
    Some (record { decision = decision; only_folders = only_folders; glob = glob_in (b ∷ text) })

abbrev pub rule_saying : Decision → List ℕ → Option Rule
rule_saying decision text = rule_with decision (ends_with_byte slash text) (without_last slash text)

-- a rule with `!` takes back what rules before it ignore
abbrev pub rule_in : List ℕ → Option Rule
rule_in text = if begins_with 33 text then rule_saying TakeBack (drop 1 text) else rule_saying Ignore text

-- the rules of the texts between the spaces of a text
abbrev pub rules_saying : Decision → List ℕ → List Rule
rules_saying decision texts = filter_map (rule_saying decision) (slice_split (λ b. nat_eq b 32) texts)

-- the rule of a line; a blank line and one that begins with `#` have none
abbrev pub rule_of_line : List ℕ → Option Rule
rule_of_line line = if begins_with 35 line then None else rule_in (trimmed (before_nul (without_last 13 line)))

-- the bytes after a byte order mark
abbrev pub without_mark : List ℕ → List ℕ
without_mark bytes = if bytes_eq (take 3 bytes) (239 ∷ 187 ∷ 191 ∷ []) then drop 3 bytes else bytes

-- the rules of a file's bytes, in order
abbrev pub rules_of : List ℕ → List Rule
rules_of bytes = filter_map rule_of_line (slice_split (λ b. nat_eq b 10) (without_mark bytes))
