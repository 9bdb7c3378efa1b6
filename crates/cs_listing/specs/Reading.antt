-- What functions that read the text of a rule file promise each other.
use denote.Ref.{Bor}
use Rattle.std.specs.Prelude.{ℕ, ◌≡◌, ◌≤◌, ◌<◌, ◌++◌, Bool, true, false, List, [], ◌∷◌, map, length, drop, Option, Some, None, Result, Ok, Err, Vec}
pub use Rattle.cs_listing.specs.Lent.{lent}
use Rattle.cs_listing.specs.Rules.{Rule as OneRule}
use Rattle.cs_listing.specs.Classes.{class_name, class_item, class_items, range_from, quoted}
use Rattle.cs_listing.specs.Globs.{GlobToken}
use Rattle.cs_listing.specs.Braces.{Expansion}
use Rattle.cs_listing.specs.Models.{token_of, rule_of, expansion_of}
use Rattle.cs_listing.specs.declared.glob.Token.{Token}
use Rattle.cs_listing.specs.declared.rules.Rule.{Rule}
use Rattle.cs_listing.specs.declared.braces.Expansion.{Expansion as OwnExpansion}

-- the rule, if there is one, is added
abbrev pub AddsRule : Option OneRule → List Rule → List Rule → Type 0
AddsRule None before after = after ≡ before
AddsRule (Some rule) before after = map rule_of after ≡ map rule_of before ++ rule ∷ []

-- the range that a text begins with, and its length
abbrev pub ReadsRange : List ℕ → Option ((ℕ × ℕ) × ℕ) → Type 0
ReadsRange text None = range_from text (quoted text) ≡ None
ReadsRange text (Some read) = (range_from text (quoted text) ≡ Some (read.0 ∷ [], read.1)) × (read.1 ≤ length text)

-- no name of a class begins at the offsets from one up to another
abbrev pub HasNoName : List ℕ → ℕ → ℕ → Type 0
HasNoName text at end = (k : ℕ) → at ≤ k → k < end → class_name (drop k text) ≡ None

-- the name that a text begins with, or a number of bytes at which none begins
abbrev pub ReadsName : List ℕ → Result (Bor (List ℕ)) ℕ → Type 0
ReadsName text (Ok name) = class_name text ≡ Some name.now
ReadsName text (Err n) = (0 < n) × HasNoName text 0 n

-- the ranges of an item are added, and its length is read
abbrev pub AddsItem : List ℕ → List (ℕ × ℕ) → List (ℕ × ℕ) → Option ℕ → Type 0
AddsItem text before after None = class_item text ≡ None
AddsItem text before after (Some len) =
    (ranges : List (ℕ × ℕ)) × (class_item text ≡ Some (ranges, len)) × (after ≡ before ++ ranges) × (len ≤ length text)

abbrev pub ReadsClass : {A : Type 0} → List ℕ → Option (Vec (ℕ × ℕ) A × ℕ) → Type 0
ReadsClass text None = class_items text ≡ None
ReadsClass text (Some read) = (class_items text ≡ Some (read.0.items, read.1)) × (read.1 ≤ length text)

-- a token and its length, which is within the text
abbrev pub ReadsToken : GlobToken × ℕ → List ℕ → Token × ℕ → Type 0
ReadsToken token text read = (token ≡ (token_of read.0, read.1)) × (0 < read.1) × (read.1 ≤ length text)

-- what a glob stands for after one piece more, if that fits
abbrev pub ReadsPiece : Option Expansion → OwnExpansion → Bool → Type 0
ReadsPiece after new true = after ≡ Some (expansion_of new)
ReadsPiece after new false = after ≡ None
