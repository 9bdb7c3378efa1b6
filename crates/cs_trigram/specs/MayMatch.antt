-- The texts that a tree may match: its matches if each assertion matched everywhere. Without `bounded` no repeat has
-- an upper bound either: a query mentions only trigrams of these texts.
-- docs/PATTERNS.md, "Queries".
use Rattle.std.specs.Prelude.{false, ℕ, zero, suc, ◌≡◌, ◌≤◌, ◌⊎◌, ◌++◌, ◌∷◌, [], Bool, true, if◌then◌else◌, List, None, IfSome, encode_utf8}
use Rattle.cs_syntax.specs.Characters.{has_char}
use Rattle.cs_syntax.specs.Matching.{Tree, Trees, one_of, one_char, cat, alt, rep, none, more, member}
use Rattle.cs_trigram.specs.Trigram.{has, tri}
use Rattle.cs_trigram.specs.Query.{mentions}
use Rattle.cs_trigram.specs.declared.queries.Query.{Query}

-- the text is a concatenation of k texts with the property
abbrev pub IsRepeated : (List ℕ → Type 0) → ℕ → List ℕ → Type 0
IsRepeated P zero text = text ≡ []
IsRepeated P (suc k) text =
    (prefix suffix : List ℕ) × P prefix × IsRepeated P k suffix × (text ≡ prefix ++ suffix)

abbrev mutual
  pub MayMatch : Bool → Tree → List ℕ → Type 0
  MayMatch bounded (one_of set) text = (b : ℕ) × (member set b ≡ true) × (text ≡ b ∷ [])
  MayMatch bounded (one_char ranges) text = (c : ℕ) × (has_char ranges c ≡ true) × (text ≡ encode_utf8 c)
  MayMatch bounded (cat ts) text = MayMatchSequence bounded ts text
  MayMatch bounded (alt ts) text = MayMatchBranch bounded ts text
  MayMatch bounded (rep x n m) text =
      (k : ℕ) × (n ≤ k) × IfSome (if bounded then m else None) (λ most. k ≤ most)
      × IsRepeated (MayMatch bounded x) k text
  MayMatch bounded part text = text ≡ []

  -- the text is a concatenation of texts that the trees may match, in order
  pub MayMatchSequence : Bool → Trees → List ℕ → Type 0
  MayMatchSequence bounded none text = text ≡ []
  MayMatchSequence bounded (more t ts) text =
      (prefix suffix : List ℕ) × MayMatch bounded t prefix × MayMatchSequence bounded ts suffix
      × (text ≡ prefix ++ suffix)

  pub MayMatchBranch : Bool → Trees → List ℕ → Type 0
  MayMatchBranch bounded none text = ⊥
  MayMatchBranch bounded (more t ts) text = MayMatch bounded t text ⊎ MayMatchBranch bounded ts text

-- each set in the tree has a member, and each alternation a branch
abbrev mutual
  pub HasMembers : Tree → Type 0
  HasMembers (one_of set) = (b : ℕ) × (member set b ≡ true)
  HasMembers (one_char ranges) = (c : ℕ) × (has_char ranges c ≡ true)
  HasMembers (cat ts) = HaveMembers ts
  HasMembers (alt none) = ⊥
  HasMembers (alt (more t ts)) = HasMembers t × HaveMembers ts
  HasMembers (rep x n m) = HasMembers x
  HasMembers part = Unit {0}

  pub HaveMembers : Trees → Type 0
  HaveMembers none = Unit {0}
  HaveMembers (more t ts) = HasMembers t × HaveMembers ts

-- the number is a trigram of a text with the property
abbrev pub IsTrigramOf : (List ℕ → Type 0) → ℕ → Type 0
IsTrigramOf P g = (text : List ℕ) × P text × (has (tri text) g ≡ true)

-- each trigram that the query mentions is one of a text that the tree may match
abbrev pub MentionsTrigramsOf : Query → Tree → Type 0
MentionsTrigramsOf query tree =
    HasMembers tree → (g : ℕ) → mentions query g ≡ true → IsTrigramOf (MayMatch false tree) g
