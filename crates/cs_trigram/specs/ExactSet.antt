-- Exact sets: the exact strings of a tree if they are at most twenty, else that they are more or that the tree is
-- not finite.
use Rattle.std.specs.Prelude.{ℕ, ◌≡◌, ◌<◌, ◌≤◌, true, false, IsTrue, Bool, List, [], ◌∷◌, length, reverse}
use Rattle.cs_tree.specs.Cover.{is_among}
use Rattle.cs_tree.specs.Folders.{are_distinct}
use Rattle.cs_syntax.specs.Matching.{Tree, Trees, none, more}
use Rattle.cs_trigram.specs.MayMatch.{MayMatch}
use Rattle.cs_trigram.specs.ExactStrings.{is_finite}
use Rattle.cs_trigram.specs.Analysis.{EnumeratesTree}
use Rattle.cs_trigram.specs.declared.exact_set.ExactSet.{ExactSet}
use Rattle.cs_trigram.specs.declared.exact_set.ExactSet.TheVariants.{Strings, Many, Infinite}

-- more than twenty strings have the property
abbrev pub HasMany : (List ℕ → Type 0) → Type 0
HasMany P =
    (strings : List (List ℕ)) × (20 < length strings) × IsTrue (are_distinct strings)
    × ((string : List ℕ) → IsTrue (is_among strings string) → P string)

-- the exact set is that of the tree
abbrev pub IsExactSetOf : ExactSet → Tree → Type 0
IsExactSetOf (Strings strings) t = (length strings.items ≤ 20) × EnumeratesTree strings.items t
IsExactSetOf Many t = (is_finite t ≡ true) × HasMany (MayMatch true t)
IsExactSetOf Infinite t = is_finite t ≡ false

-- the tree has no exact string, and it has one
abbrev pub HasNoString : Tree → Type 0
HasNoString t = (string : List ℕ) → MayMatch true t string → ⊥

abbrev pub HasAString : Tree → Type 0
HasAString t = (string : List ℕ) × MayMatch true t string

-- the answer tells whether the tree has no exact string
abbrev pub TellsEmpty : Bool → Tree → Type 0
TellsEmpty true t = HasNoString t
TellsEmpty false t = HasAString t

-- the exact sets are those of the trees
abbrev pub AreExactSetsOf : List ExactSet → Trees → Type 0
AreExactSetsOf [] none = Unit {0}
AreExactSetsOf [] (more t ts) = ⊥
AreExactSetsOf (exact ∷ sets) none = ⊥
AreExactSetsOf (exact ∷ sets) (more t ts) = IsExactSetOf exact t × AreExactSetsOf sets ts

-- the same, in reverse order
abbrev pub AreExactSetsReversed : List ExactSet → Trees → Type 0
AreExactSetsReversed sets ts = AreExactSetsOf (reverse sets) ts
