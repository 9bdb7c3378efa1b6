-- The kind of a byte at the start of an item. docs/PATTERNS.md, "Items".
use Rattle.std.specs.Prelude.{ℕ, [], ◌∷◌, codes, nat_eq, nat_le, if◌then◌else◌}
use Rattle.std.specs.List.{zip}
use Rattle.std.specs.Map.{lookup}
use Rattle.std.specs.Option.{unwrap_or}
use Rattle.cs_syntax.specs.declared.items.ByteKind.{ByteKind}
use Rattle.cs_syntax.specs.declared.items.ByteKind.TheVariants.{Star, Plus, Question, Brace, Dot, Caret, Dollar, Bar, Open, Close, Class, Backslash, NonAscii, Literal}

-- a metacharacter, the lead byte of a non-ASCII character, or a literal
unfoldable pub byte_kind_of : ℕ → ByteKind
byte_kind_of b =
    let metachars =
    Star ∷ Plus ∷ Question ∷ Brace ∷ Dot ∷ Caret ∷ Dollar ∷ Bar ∷ Open ∷ Close ∷ Class ∷ Backslash ∷ [] in
    unwrap_or (lookup (nat_eq b) (zip (codes "*+?{.^$|()[\\") metachars)) (if nat_le 128 b then NonAscii else Literal)
