-- The tokenizer: the item that a text starts with, by its first byte.
-- docs/PATTERNS.md, "Items"; the RE2 syntax page.
use Rattle.std.specs.Prelude.{ℕ, List, ◌∷◌, Some, None, take}
use Rattle.std.specs.List.{prefix_len}
use Rattle.cs_syntax.specs.Matching.{one_of, line_start, line_end}
use Rattle.cs_syntax.specs.ByteSet.{char_set}
use Rattle.cs_syntax.specs.ClassSets.{dot_tree}
use Rattle.cs_syntax.specs.ByteKinds.{byte_kind_of}
use Rattle.cs_syntax.specs.Tokens.{PatternItem, Token, item, atom, bar, group_end, bytes_tree, is_continuation}
use Rattle.cs_syntax.specs.Repeats.{lazy, brace}
use Rattle.cs_syntax.specs.Groups.{group}
use Rattle.cs_syntax.specs.Escapes.{escape}
use Rattle.cs_syntax.specs.Classes.{class}
use Rattle.cs_syntax.specs.declared.items.Flags.{Flags}
use Rattle.cs_syntax.specs.declared.items.ByteKind.{ByteKind}
use Rattle.cs_syntax.specs.declared.items.ByteKind.TheVariants.{Star, Plus, Question, Brace, Dot, Caret, Dollar, Bar, Open, Close, Class, Backslash, NonAscii, Literal}

-- The token by the kind of its first byte. A non-ASCII character is one atom: the sequence of its UTF-8 bytes.
abbrev pub token_by_kind : ByteKind → Flags → ℕ → List ℕ → Token PatternItem
token_by_kind Star flags b rest = lazy 0 None 0 rest
token_by_kind Plus flags b rest = lazy 1 None 0 rest
token_by_kind Question flags b rest = lazy 0 (Some 1) 0 rest
token_by_kind Brace flags b rest = brace rest
token_by_kind Dot flags b rest = item (atom (dot_tree flags.dot_all)) 0
token_by_kind Caret flags b rest = item (atom line_start) 0
token_by_kind Dollar flags b rest = item (atom line_end) 0
token_by_kind Bar flags b rest = item bar 0
token_by_kind Open flags b rest = group flags rest
token_by_kind Close flags b rest = item group_end 0
token_by_kind Class flags b rest = class flags.fold rest
token_by_kind Backslash flags b rest = escape flags.fold rest
token_by_kind NonAscii flags b rest =
    let n = prefix_len is_continuation rest in
    item (atom (bytes_tree (b ∷ take n rest))) n
token_by_kind Literal flags b rest = item (atom (one_of (char_set flags.fold b))) 0

-- the token at the start of a text, whose first byte is b
unfoldable pub next_token : Flags → ℕ → List ℕ → Token PatternItem
next_token flags b rest = token_by_kind (byte_kind_of b) flags b rest
