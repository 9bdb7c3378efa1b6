-- The items of `specs/Tokens.antt` that the code's items represent.
use Rattle.std.specs.Prelude.{ℕ, suc, ◌≡◌, ◌⊎◌, ◌≤◌, List, take, Result, Ok, Err, MatchResult, encode_utf8}
use Rattle.cs_syntax.specs.CharTrees.{ranges_tree}
use Rattle.cs_syntax.specs.ClassSets.{item_tree, dot_tree}
use Rattle.cs_syntax.specs.Matching.{Tree, one_of, line_start, line_end, word_edge, not_word_edge}
use Rattle.cs_syntax.specs.Tokens.{PatternItem, Token, atom, repeat, bar, group_start, group_end, flags_from_here, item, fault, bytes_tree}
use Rattle.cs_syntax.specs.declared.items.Atom as atom_type
use Rattle.cs_syntax.specs.declared.items.Atom.TheVariants as atom_of
use Rattle.cs_syntax.specs.declared.items.Item as items
use Rattle.cs_syntax.specs.declared.items.Item.TheVariants as item_of
use Rattle.cs_syntax.specs.declared.items.ItemError.{ItemError}
use Rattle.cs_syntax.specs.declared.fault.PatternFault.{PatternFault}
use Rattle.cs_syntax.specs.declared.fault.PatternFault.TheVariants.{Memory}
use Rattle.cs_syntax.specs.declared.items.ClassItem.{ClassItem}

-- the tree of an atom, given its text
abbrev pub atom_tree : List ℕ → atom_type.Atom → Tree
atom_tree text (atom_of.Set set) = one_of set
atom_tree text (atom_of.Chars ranges) = ranges_tree ranges
atom_tree text (atom_of.Class i) = item_tree i
atom_tree text (atom_of.Dot dot_all) = dot_tree dot_all
atom_tree text (atom_of.Char c) = bytes_tree (encode_utf8 c)
atom_tree text atom_of.Verbatim = bytes_tree text
atom_tree text atom_of.LineStart = line_start
atom_tree text atom_of.LineEnd = line_end
atom_tree text atom_of.WordEdge = word_edge
atom_tree text atom_of.NotWordEdge = not_word_edge

-- the item, given its text
abbrev pub item_view : List ℕ → items.Item → PatternItem
item_view text (item_of.Atom u) = atom (atom_tree text u)
item_view text (item_of.Repeat n m) = repeat n m
item_view text item_of.Bar = bar
item_view text (item_of.GroupStart flags) = group_start flags
item_view text item_of.GroupEnd = group_end
item_view text (item_of.FlagsFromHere flags) = flags_from_here flags

-- the token that a function has read at the start of the text; an item has r.1 bytes after its first
abbrev pub token_view : List ℕ → Result (items.Item × ℕ) ItemError → Token PatternItem
token_view text (Ok r) = item (item_view (take (suc r.1) text) r.0) r.1
token_view text (Err m) = fault m.fault m.distance

-- a function that allocates has read the token at the start of the text, or an allocation failed
abbrev pub IsTokenOf : List ℕ → Result (items.Item × ℕ) ItemError → Token PatternItem → Type 0
IsTokenOf text r token =
    MatchResult r
    (λ x. token ≡ item (item_view (take (suc x.1) text) x.0) x.1)
    (λ m. (m.fault ≡ Memory) ⊎ (token ≡ fault m.fault m.distance))

-- the token that a function has read in a class
abbrev pub class_token_view : Result (ClassItem × ℕ) ItemError → Token ClassItem
class_token_view (Ok r) = item r.0 r.1
class_token_view (Err m) = fault m.fault m.distance

-- the character that a function has read in a class
abbrev pub class_char_view : Result (ℕ × ℕ) PatternFault → Token ℕ
class_char_view (Ok r) = item r.0 r.1
class_char_view (Err k) = fault k 0

-- an item has at most `most` bytes after its first, and the distance of an error is at most `far`
abbrev pub StaysWithin : {A : Type 0} → ℕ → ℕ → Result (A × ℕ) ItemError → Type 0
StaysWithin most far r = MatchResult r (λ x. x.1 ≤ most) (λ m. m.distance ≤ far)
