-- Prefixes and suffixes of matches, as end strings. A suffix is stored reversed: both are the first bytes of a
-- match, read forward or backward.
-- Cox, "Regular Expression Matching with a Trigram Index".
use Rattle.std.specs.Prelude.{false, ℕ, ◌≡◌, ◌<◌, ◌≤◌, ◌⊎◌, ◌++◌, ◌∷◌, [], Bool, true, List, Contains, length, take, reverse, map, not, ◌&&◌, ◌||◌, if◌then◌else◌, nat_le, bytes_eq, slice_range}
use Rattle.std.specs.List.{All, list_any}
use Rattle.cs_syntax.specs.Matching.{Tree, Trees, MatchesSpan, MatchesBranch}
use Rattle.cs_trigram.specs.MayMatch.{MayMatch, MayMatchBranch, HasMembers, HaveMembers}
use Rattle.cs_trigram.specs.declared.end_strings.EndString.{EndString}

-- prefixes are read forward, suffixes backward
pub data Direction : Type 0 where
  forward : Direction
  backward : Direction

abbrev pub read : Direction → List ℕ → List ℕ
read forward text = text
read backward text = reverse text

-- the end string is the other one without its last bytes; if it is whole, it is the other one
abbrev pub IsTruncation : EndString → EndString → Type 0
IsTruncation end_string other =
    (rest : List ℕ) × (other.string ≡ end_string.string ++ rest)
    × (end_string.whole ≡ true → (rest ≡ []) × (other.whole ≡ true))

-- the text as an end string
abbrev pub whole_text : List ℕ → EndString
whole_text text = record { string = text; whole = true }

-- the text begins with the string, and is the string if the end string is whole
abbrev pub HasEndString : EndString → List ℕ → Type 0
HasEndString end_string text = IsTruncation end_string (whole_text text)

-- one of the end strings is a truncation of this one
abbrev pub HasTruncation : List EndString → EndString → Type 0
HasTruncation end_strings other =
    (end_string : EndString) × Contains end_strings end_string × IsTruncation end_string other

-- the text has one of the end strings
abbrev pub HasSomeEndString : List EndString → List ℕ → Type 0
HasSomeEndString end_strings text = HasTruncation end_strings (whole_text text)

-- the strings are equal, and the other end string is whole if this one is
abbrev pub subsumes : EndString → EndString → Bool
subsumes end_string other = bytes_eq end_string.string other.string && (not end_string.whole || other.whole)

-- adds an end string, unless one subsumes it
abbrev pub with_end_string : List EndString → EndString → List EndString
with_end_string end_strings end_string =
    if list_any (λ other. subsumes other end_string) end_strings then end_strings
    else end_strings ++ end_string ∷ []

abbrev pub with_end_strings : List EndString → List EndString → List EndString
with_end_strings end_strings [] = end_strings
with_end_strings end_strings (x ∷ xs) = with_end_strings (with_end_string end_strings x) xs

-- the end string truncated to n bytes
abbrev pub truncated : ℕ → EndString → EndString
truncated n end_string =
    record {
      string = take n end_string.string;
      whole = end_string.whole && nat_le (length end_string.string) n;
    }

-- the end string of a near text that is the first one and a far text with the second, truncated to n bytes
abbrev pub end_of_two : ℕ → EndString → EndString → EndString
end_of_two n near far = truncated n (record { string = near.string ++ far.string; whole = far.whole })

-- the end strings of a near text with the first one and a far text with one of the others
abbrev pub concatenated : ℕ → EndString → List EndString → List EndString
concatenated n near fars = if near.whole then map (end_of_two n near) fars else truncated n near ∷ []

-- the same for each of several near ones
abbrev pub all_concatenated : ℕ → List EndString → List EndString → List EndString
all_concatenated n [] fars = []
all_concatenated n (near ∷ nears) fars = concatenated n near fars ++ all_concatenated n nears fars

-- the cross product, truncated to n bytes
abbrev pub end_product : ℕ → List EndString → List EndString → List EndString
end_product n nears fars = with_end_strings [] (all_concatenated n nears fars)

-- the end strings, each truncated to n bytes
abbrev pub all_truncated : ℕ → List EndString → List EndString
all_truncated n end_strings = with_end_strings [] (map (truncated n) end_strings)

-- the end string of a text, and those of texts
abbrev pub whole_end : List ℕ → EndString
whole_end text = truncated 3 (whole_text text)

abbrev pub whole_ends : List (List ℕ) → List EndString
whole_ends texts = with_end_strings [] (map whole_end texts)

-- the end strings are the others, truncated
pub record AreCoarser (end_strings others : List EndString) : Type 0 where
  pub all : (other : EndString) → Contains others other → HasTruncation end_strings other
  pub each : (x : EndString) → Contains end_strings x →
      (other : EndString) × Contains others other × IsTruncation x other

-- The end string is that of a near text with the first one, whatever the far text is, or if the far text has one of
-- the others.
abbrev pub IsConcatenation : EndString → List EndString → EndString → Type 0
IsConcatenation near fars x =
    ((u v : List ℕ) → HasEndString near u → HasEndString x (u ++ v))
    ⊎ ((far : EndString) × Contains fars far × ((u v : List ℕ) → HasEndString near u → HasEndString far v →
    HasEndString x (u ++ v)) × (length x.string ≤ 3))

-- each end string has at most n bytes
abbrev pub AreShort : ℕ → List EndString → Type 0
AreShort n end_strings = All (λ end_string. length end_string.string ≤ n) end_strings

-- the end strings are those of a near text with one of the first and a far text with one of the others
pub record AreConcatenations (nears fars end_strings : List EndString) : Type 0 where
  pub all : (u v : List ℕ) → HasSomeEndString nears u → HasSomeEndString fars v →
      HasSomeEndString end_strings (u ++ v)
  pub each : (x : EndString) → Contains end_strings x →
      (near : EndString) × Contains nears near × IsConcatenation near fars x

-- The end string is one of a near text of a text with the property, which is equal to the near text if this has
-- less than three bytes.
abbrev pub IsEndStringOf : (List ℕ → Type 0) → EndString → Type 0
IsEndStringOf P x =
    (near : List ℕ) × ((rest : List ℕ) × P (near ++ rest) × (length near < 3 → rest ≡ []))
    × HasEndString x near

-- Each match has one of the end strings. If A holds, each end string is one of a text with the property.
pub record AreEndStringsOf (direction : Direction) (end_strings : List EndString)
    (Matches : List ℕ → ℕ → ℕ → Type 0) (A : Type 0) (P : List ℕ → Type 0) : Type 0 where
  pub matching : (s : List ℕ) (i j : ℕ) → Matches s i j →
      HasSomeEndString end_strings (read direction (slice_range s i j))
  pub each : A → (x : EndString) → Contains end_strings x → IsEndStringOf (λ text. P (read direction text)) x

-- the end strings are those of the tree, and of the alternation
abbrev pub AreEndStrings : Direction → List EndString → Tree → Type 0
AreEndStrings direction end_strings t =
    AreEndStringsOf direction end_strings (λ s. MatchesSpan s t) (HasMembers t) (MayMatch false t)

abbrev pub AreEndStringsOfSome : Direction → List EndString → Trees → Type 0
AreEndStringsOfSome direction end_strings ts =
    AreEndStringsOf direction end_strings (λ s. MatchesBranch s ts) (HaveMembers ts) (MayMatchBranch false ts)
